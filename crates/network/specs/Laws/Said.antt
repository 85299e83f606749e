-- What a build says determines what it answers.
use Rattle.std.specs.Prelude.{if◌then◌else◌, ◌≡◌, ℕ, Result}
use Rattle.std.proofs.Common.{refl, sym, ap, ◌∙◌}
use Rattle.definitions.specs.declared.Refusal.{Refusal}
use Rattle.definitions.specs.Faults.{Outcome, answered, refused}
use Rattle.definitions.specs.Growing.{finished, stopped}
use Rattle.definitions.specs.Connecting.{Built}
use Rattle.definitions.specs.Said.{result_of, said_of, Progress, progress_of, no_progress}
use Rattle.definitions.proofs.Laws.Results.{result-same}
use Rattle.network.specs.declared.Totals.{Totals}
use Rattle.network.specs.declared.Build.{Build}
use Rattle.network.specs.declared.Build.TheVariants as build
use Rattle.network.specs.Answers.{totals_of, build_of, came_to, build_said}

pub build-says : (states : ℕ) (o : Outcome Built)
    → build_said (result_of (build_of states) o) ≡ said_of (progress_of states) no_progress o
unfolding totals_of result_of said_of progress_of
build-says states (answered (finished turns net)) = refl
build-says states (answered (stopped turns net)) = refl
build-says states (refused r) = refl

abbrev build_after : Progress → Build
build_after p =
    let totals : Totals = record { turns = p.turns; counts = p.counts } in
    if p.finished then build.Finished totals else build.Stopped totals

build-back : (b : Build) → build_after (came_to b) ≡ b
build-back (build.Finished totals) = refl
build-back (build.Stopped totals) = refl

pub build-same : {answer other : Result Build Refusal} → build_said answer ≡ build_said other → answer ≡ other
build-same = result-same came_to build_after build-back no_progress

module _ (states : ℕ) {answer : Result Build Refusal} (o : Outcome Built) where
  pub build-said : answer ≡ result_of (build_of states) o → build_said answer ≡ said_of (progress_of states) no_progress o
  build-said e = ap build_said e ∙ build-says states o

  pub build-told : build_said answer ≡ said_of (progress_of states) no_progress o → answer ≡ result_of (build_of states) o
  build-told h = build-same (h ∙ sym (build-says states o))
