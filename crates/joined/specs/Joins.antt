-- A join in the code: what its words and sizes are, and what a step leaves of it.
use Rattle.std.specs.Prelude.{◌≡◌, ℕ, Result, Ok, Err}
use Rattle.definitions.specs.declared.Fault.{Fault}
use Rattle.definitions.specs.Faults.{Outcome}
use Rattle.definitions.specs.Arcs.{Arc}
use Rattle.definitions.specs.Growing.{Grown}
use Rattle.definitions.specs.Joining.{Joined, Move}
use Rattle.growing.specs.declared.Sizes.{Sizes}
use Rattle.growing.specs.Steps.{ArcAdded}
use Rattle.joined.specs.declared.Join.{Join}
use Rattle.joined.specs.States.{Underway, StepLeft, entered}

-- its words hold so many states and arcs, and nothing else
abbrev pub Grows : Join → Type 0
Grows join = Underway join.sizes join.states.now join.arcs.now join.chains.now

-- the answer of a step: how many there are then, or the fault
abbrev pub stepped : Result (Unit {0}) Fault → Sizes → Result Sizes Fault
stepped (Ok done) sizes = Ok sizes
stepped (Err fault) sizes = Err fault

-- the join before, the outcome, the answer, and the join after
abbrev pub Left : Join → Outcome (Grown Joined) → Result (Unit {0}) Fault → Join → Type 0
Left join outcome answer join' =
    StepLeft join.states.now join.arcs.now join.chains.now outcome (stepped answer join'.sizes)
    join'.states.now join'.arcs.now join'.chains.now

-- it still holds the same lent slices, so that whoever lent them finds there what it leaves
abbrev pub Holding : Join → Join → Type 0
Holding join join' =
    (join'.states.ghost_name ≡ join.states.ghost_name) × (join'.arcs.ghost_name ≡ join.arcs.ghost_name)
    × (join'.chains.ghost_name ≡ join.chains.ghost_name)

-- one joined state entered from another
abbrev pub enters : Join → (from : ℕ) → Move → Outcome (Grown Joined)
enters join from move = entered join.states.now join.arcs.now join.sizes from move

-- after an arc was appended, where there is room; the rest stays
pub record JoinArcAdded (a : Arc) (join : Join) (answer : Result (Unit {0}) Fault) (join' : Join) : Type 0 where
  pub added : ArcAdded join.sizes a join.arcs.now (stepped answer join'.sizes) join'.arcs.now
  pub states_stay : join'.states.now ≡ join.states.now
  pub chains_stay : join'.chains.now ≡ join.chains.now
