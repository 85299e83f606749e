-- Laws about the answer of a step: where it goes on, the words hold the network of its outcome.
use Rattle.definitions.specs.declared.Fault.{Fault}
use Rattle.growing.specs.declared.Sizes.{Sizes}
use Rattle.std.specs.Prelude.{◌≡◌, List, ℕ, length, Result}
use Rattle.std.proofs.Common.{subst}
use Rattle.definitions.specs.declared.Header.{Header}
use Rattle.definitions.specs.Faults.{Outcome, answered}
use Rattle.definitions.specs.Connecting.{Network}
use Rattle.index.specs.Combinations.{combinations_in}
use Rattle.growing.specs.Kept.{Kept}
use Rattle.metastates.specs.Networks.{metastate_code, Holds}
use Rattle.metastates.specs.Steps.{StepLeft}
use Rattle.metastates.specs.Laws.HeldBack.{same-room}

pub left-holds : {header : Header} {words metastates arcs chains metastates' arcs' chains' : List ℕ}
    {outcome : Outcome Network} {answer : Result Sizes Fault}
    → StepLeft header words metastates arcs chains outcome answer metastates' arcs' chains'
    → {net : Network} → outcome ≡ answered net
    → Holds header.half (length (combinations_in header words)) net metastates' arcs' chains'
left-holds {header} {words} {metastates} {arcs} {chains} {metastates'} {arcs'} {chains'} left {net} is = record {
  kept =
      subst (λ room. Kept (metastate_code header.half) room net metastates' arcs' chains')
      (same-room header.half metastates metastates' arcs arcs' left.step.table-sized left.step.arcs-sized)
      (left.step.holds net is);
  numbers = left.numbers net is;
}
