-- `leaving::arcs_below` meets its contract. The loop's invariant: the arcs of smaller sources end from `low` to
-- `high`.
use Prim.Native.Nat.{◌-◌}
use Rattle.arcs.specs.Laws.Leaving.{Bracketed}
use Rattle.arcs.proofs.leaving.arcs_below.Given as goal

abbrev pub invariant-loop-low : goal.invariant-loop-low
invariant-loop-low l = Bracketed l.arcs l.state l.low l.high

abbrev pub decreases-loop-low : goal.decreases-loop-low
decreases-loop-low l = l.high - l.low
