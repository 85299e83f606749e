-- `ordering::place_for` meets its contract. The loop's invariant: the matrix belongs after those before
-- `place`.
use Rattle.matrix.specs.Shapes.{matrix_in}
use Rattle.lists.specs.Held.{list_in}
use Rattle.lists.specs.Laws.Ordering.{AfterFirst}
use Rattle.lists.proofs.ordering.place_for.Given as goal

abbrev pub invariant-loop-place : goal.invariant-loop-place
invariant-loop-place l = AfterFirst (matrix_in l.half l.fn.m.columns) (list_in l.half l.list) l.place
