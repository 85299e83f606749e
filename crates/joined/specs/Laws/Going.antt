-- Laws about steps of a join one after the other: the lent words keep their lengths, so each has the same room.
use Rattle.std.specs.Prelude.{◌≡◌, List, ℕ, Result}
use Rattle.std.proofs.Common.{sym, ap₂, subst}
use Rattle.definitions.specs.declared.Fault.{Fault}
use Rattle.definitions.specs.Faults.{Outcome}
use Rattle.definitions.specs.Growing.{Grown, Room}
use Rattle.definitions.specs.Joining.{Joined, join_room}
use Rattle.growing.specs.declared.Sizes.{Sizes}
use Rattle.growing.specs.Steps as growing
use Rattle.growing.specs.Laws.Going as going
use Rattle.joined.specs.States.{joined_code, room_of, Underway, StepLeft}

-- what is left to do of an outcome, in the room of the words at the beginning
abbrev pub Going : (states₀ joined₀ chains₀ : List ℕ) → (whole : Outcome (Grown Joined))
    → (rest : Grown Joined → Outcome (Grown Joined)) → Sizes → (states joined chains : List ℕ) → Type 0
Going states₀ joined₀ chains₀ whole rest sizes states joined chains =
    going.Going joined_code (room_of states₀ joined₀) states₀ joined₀ chains₀ whole rest sizes states joined chains

module _ {states₀ joined₀ chains₀ : List ℕ} {whole : Outcome (Grown Joined)}
    {rest : Grown Joined → Outcome (Grown Joined)} {sizes : Sizes} {states joined chains : List ℕ}
    (g : Going states₀ joined₀ chains₀ whole rest sizes states joined chains) where
  same-room : room_of states joined ≡ room_of states₀ joined₀
  same-room = ap₂ (λ (s a : ℕ). join_room (record { states = s; arcs = a })) g.table-sized g.arcs-sized

  -- what the next step asks
  pub going_on : Underway sizes states joined chains
  going_on = subst (λ room. growing.Underway joined_code room sizes states joined chains) (sym same-room) g.underway

  -- and what it says, in the room of the beginning
  pub step_in : (outcome : Room → Outcome (Grown Joined)) {answer : Result Sizes Fault} {states' joined' chains' : List ℕ}
      → StepLeft states joined chains (outcome (room_of states joined)) answer states' joined' chains'
      → growing.StepLeft joined_code (room_of states₀ joined₀) states joined chains (outcome (room_of states₀ joined₀))
      answer states' joined' chains'
  step_in outcome {answer} {states'} {joined'} {chains'} left =
      subst (λ room. growing.StepLeft joined_code room states joined chains (outcome room) answer
      states' joined' chains') same-room left
