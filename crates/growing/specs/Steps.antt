-- What a step of growing starts from, leaves and answers, by what the definition performs.
use Rattle.std.specs.Prelude.{if◌then◌else◌, ◌≡◌, List, ◌++◌, ℕ, ◌+◌, ◌*◌, ◌/◌, min, ltb, length, take, drop, Result, Ok, Err}
use Rattle.definitions.specs.declared.Fault.{Fault}
use Rattle.definitions.specs.declared.Fault.TheVariants.{Tangle}
use Rattle.definitions.specs.Faults.{Outcome, answered, refused}
use Rattle.definitions.specs.Arcs.{Arc, arc_size, arc_words}
use Rattle.definitions.specs.Growing.{Grown, Room}
use Rattle.definitions.specs.Building.{most_arcs}
use Rattle.growing.specs.declared.Sizes.{Sizes}
use Rattle.growing.specs.Chains.{Code}
use Rattle.growing.specs.Kept.{grown_held, Kept}

abbrev pub sizes_of : {X : Type 0} → Grown X → Sizes
sizes_of net = record { table = length net.table; arcs = length net.arcs }

-- what so many elements and arcs in words make
abbrev pub held_in : {X : Type 0} → Code X → Sizes → (table arcs : List ℕ) → Grown X
held_in code sizes table arcs = grown_held code sizes.table sizes.arcs table arcs

-- how many arcs lent words have room for
abbrev pub arc_room : (arcs : List ℕ) → ℕ
arc_room arcs = min (length arcs / arc_size) most_arcs

-- words that hold so many elements and arcs, and nothing else, within a room in which arcs have all of their words
pub record Underway {X : Type 0} (code : Code X) (room : Room) (sizes : Sizes) (table arcs chains : List ℕ)
    : Type 0 where
  pub kept : Kept code room (held_in code sizes table arcs) table arcs chains
  pub whole : room.arcs ≡ arc_room arcs

-- ---- steps

unfoldable pub step_of : {X : Type 0} → Outcome (Grown X) → Result Sizes Fault
step_of (answered net) = Ok (sizes_of net)
step_of (refused r) = Err r.fault

-- the words before, the outcome, the answer, and the words after
pub record StepLeft {X : Type 0} (code : Code X) (room : Room) (table arcs chains : List ℕ)
    (outcome : Outcome (Grown X)) (answer : Result Sizes Fault) (table' arcs' chains' : List ℕ) : Type 0 where
  pub answers : answer ≡ step_of outcome
  pub holds : (net : Grown X) → outcome ≡ answered net → Kept code room net table' arcs' chains'
  pub table-sized : length table' ≡ length table
  pub arcs-sized : length arcs' ≡ length arcs
  pub chains_sized : length chains' ≡ length chains

-- ---- arcs

-- the words of arcs after one was appended, and the answer: Tangle where there is no room
abbrev pub ArcAppended : Sizes → Arc → (arcs arcs' : List ℕ) → Type 0
ArcAppended sizes a arcs arcs' =
    arcs' ≡ (if ltb sizes.arcs (arc_room arcs)
    then take (arc_size * sizes.arcs) arcs ++ arc_words a ++ drop (arc_size * sizes.arcs + arc_size) arcs
    else arcs)

abbrev pub ArcAnswered : Sizes → (arcs : List ℕ) → (answer : Result Sizes Fault) → Type 0
ArcAnswered sizes arcs answer =
    answer ≡ (if ltb sizes.arcs (arc_room arcs)
    then Ok (record { table = sizes.table; arcs = sizes.arcs + 1 })
    else Err Tangle)

pub record ArcAdded (sizes : Sizes) (a : Arc) (arcs : List ℕ) (answer : Result Sizes Fault) (arcs' : List ℕ) : Type 0 where
  pub answers : ArcAnswered sizes arcs answer
  pub words : ArcAppended sizes a arcs arcs'
