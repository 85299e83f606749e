-- Document 01, "Connecting": the arcs that leave a state, handed out as a part of the lent arc list.
use Rattle.std.specs.Prelude.{List, [], ◌∷◌, ℕ, ◌*◌, ltb, eqb, length, take, drop}
use Rattle.definitions.specs.declared.Counts.{Counts}
use Rattle.definitions.specs.declared.Fault.TheVariants.{Foreign, State}
use Rattle.definitions.specs.Faults.{Outcome, answered, refused, ◌unless◌, judge}
use Rattle.definitions.specs.Lists.{select}
use Rattle.definitions.specs.Arcs.{Arc, arc_size, arcs_in}
use Rattle.definitions.specs.NetworkText.{network_known, is_state}

-- a part of the arc list: the place of its first arc, and how many arcs it has
pub record Part : Type 0 where
  pub start : ℕ
  pub count : ℕ

-- "The arcs that leave a state are handed out as a part of the caller's arc list, standing where they would
-- stand if there are none": after all arcs of smaller sources
unfoldable pub part_of : List Arc → (state : ℕ) → Part
part_of arcs state =
    record {
      start = length (select (λ a. ltb a.from state) arcs);
      count = length (select (λ a. eqb a.from state) arcs);
    }

-- 18, then 42, "a state number not in the network"
unfoldable pub leaving : Counts → (words : List ℕ) → (state : ℕ) → Outcome Part
leaving counts words state =
    judge 0
    (Foreign unless network_known counts words
    ∷ State unless is_state counts state
    ∷ [])
    (answered (part_of (arcs_in counts.arcs words) state))

-- "42 hands out an empty part at the start", and so does 18
unfoldable pub part_handed : Outcome Part → Part
part_handed (answered part) = part
part_handed (refused r) = record { start = 0; count = 0 }

-- the words of the part
unfoldable pub part_words : (words : List ℕ) → Part → List ℕ
part_words words part = take (arc_size * part.count) (drop (arc_size * part.start) words)
