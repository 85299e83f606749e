-- Laws about the structs made of answers: what holds of the counts of a finished answer holds of the struct's; and what
-- a join promises of its answer, where there is no fault.
use Rattle.std.specs.Prelude.{if◌then◌else◌, ◌≡◌, refl, List, true, ℕ, Result, Ok, Err}
use Rattle.std.proofs.Common.{sym, ap, ◌∙◌, arith, eq-eqb}
use Rattle.definitions.specs.declared.Counts.{Counts}
use Rattle.definitions.specs.declared.Refusal.{Refusal}
use Rattle.definitions.specs.Faults.{Outcome, number_of}
use Rattle.definitions.specs.Said.{Said, result_of, result_said, said_of}
use Rattle.definitions.proofs.Laws.Results.{said-result}
use Rattle.definitions.proofs.Laws.Text.Said.{told, refusal-told}
use Rattle.network.specs.declared.Build.{Build}
use Rattle.network.specs.declared.Build.TheVariants as build
use Rattle.network.specs.Answers.{build_said}
use Rattle.builder.specs.Answers.{WhereFinished}
use Rattle.joining.specs.declared.JoinedCounts.{JoinedCounts}
use Rattle.joining.specs.Answers as join
use Rattle.fulgwerz.specs.Answers.{build_answer, join_answer, KeepsPaths}

-- a struct made of a result is the one of what the definitions say
pub made : {A B C D : Type 0} (answer : Said C → D) (says : A → B) (values : B → C) (nothing : C) (o : Outcome A)
    {r : Result B Refusal} → r ≡ result_of says o
    → answer (result_said values nothing r) ≡ answer (said_of (λ a. values (says a)) nothing o)
made answer says values nothing o e =
    ap (λ r. answer (result_said values nothing r)) e ∙ ap answer (said-result says values nothing o)

pub finished-made : (claim : Counts → Type 0) (answer : Result Build Refusal)
    → WhereFinished answer (λ totals. claim totals.counts)
    → (build_answer (build_said answer)).finished ≡ true → claim (build_answer (build_said answer)).counts
finished-made claim (Ok (build.Finished totals)) holds says = holds totals refl
finished-made claim (Ok (build.Stopped totals)) holds says = let z : ◌≡◌ {A = ℕ} 0 1 = cc in absurd (omega arith)
finished-made claim (Err r) holds says = let z : ◌≡◌ {A = ℕ} 0 1 = cc in absurd (omega arith)

-- no fault has the number 0
no-fault : (r : Refusal) → number_of r.fault ≡ 0 → ⊥
unfolding told
no-fault r e =
    let z : ◌≡◌ {A = ℕ} 0 1 =
    ap (λ b. if b then 0 else 1) (sym (eq-eqb (number_of r.fault) 0 e))
    ∙ refusal-told (λ (n : ℕ). 0) (λ s. 1) 0 r in
    omega arith

pub joined_made : (counts : Counts) (arcs : List ℕ) (count : ℕ) (words joined : List ℕ)
    (answer : Result JoinedCounts Refusal) → join.KeepsPaths counts arcs count words answer joined
    → KeepsPaths counts arcs count words (join_answer (result_said (λ counted. counted) join.no_counts answer)) joined
joined_made counts arcs count words joined (Ok counted) keeps none lines = keeps lines counted refl
joined_made counts arcs count words joined (Err r) keeps none lines = absurd (no-fault r none)
