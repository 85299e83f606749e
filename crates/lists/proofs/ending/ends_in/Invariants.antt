-- `ending::ends_in` meets its contract. The loop's invariant: no path may end with the matrices before `place`.
use Rattle.definitions.specs.Matrices.{ends_here}
use Rattle.lines.specs.Laws.Passing.{Missed}
use Rattle.lists.specs.Held.{list_in}
use Rattle.lists.proofs.ending.ends_in.Given as goal

abbrev pub invariant-loop-place : goal.invariant-loop-place
invariant-loop-place l = Missed (ends_here l.half) (list_in l.half l.list) l.place
