-- `joining::hull` meets its contract. The loop's invariant: the matrices before `place` are joined.
use Rattle.lists.specs.Held.{list_in}
use Rattle.lists.specs.Laws.Joining.{Joined}
use Rattle.lists.proofs.joining.hull.Given as goal

abbrev pub invariant-loop-place : goal.invariant-loop-place
invariant-loop-place l = Joined l.half (list_in l.half l.list) l.place l.sofar.columns
