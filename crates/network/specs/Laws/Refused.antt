-- Laws about what connecting leaves where it is refused.
use Rattle.std.specs.Prelude.{◌≡◌, List, ℕ, length, Err}
use Rattle.std.proofs.Common.{sym, ap, ◌∙◌}
use Rattle.definitions.specs.declared.Fault.{Fault}
use Rattle.definitions.specs.declared.Refusal.{Refusal}
use Rattle.definitions.specs.declared.Header.{Header}
use Rattle.definitions.specs.Faults.{Outcome, answered, refused}
use Rattle.definitions.specs.Connecting.{Built}
use Rattle.definitions.proofs.Laws.Text.Judging.{refused-not-answered}
use Rattle.definitions.specs.Said.{result_of}
use Rattle.network.specs.Answers.{build_of}
use Rattle.network.specs.Connected.{Connected}

pub refused-left : (header : Header) {metastates arcs metastates' arcs' : List ℕ} {outcome : Outcome Built}
    {fault : Fault} (r : Refusal) → outcome ≡ refused r → r.fault ≡ fault → r.line ≡ 0
    → length metastates' ≡ length metastates → length arcs' ≡ length arcs
    → Connected header metastates arcs outcome (Err (record { fault = fault; line = 0 }))
    metastates' arcs'
unfolding result_of
refused-left header {outcome = outcome} {fault = fault} r e same line m a =
    let refusal : r ≡ record { fault = fault; line = 0 } = λ i. record { fault = same i; line = line i } in
    let none : ((built : Built) → outcome ≡ answered built → ⊥) =
    λ built k. refused-not-answered outcome r.fault r.line built e k in
    record {
      answers = ap Err (sym refusal) ∙ ap (result_of (build_of header.states)) (sym e);
      metastate-words = λ built k. absurd (none built k);
      arc-words = λ built k. absurd (none built k);
      metastates-sized = m;
      arcs-sized = a;
    }
