-- `joining::join` meets its contract. The loop's invariant: the first `c` columns are joined.
use Rattle.definitions.specs.Matrices.{matrix_words}
use Rattle.matrix.specs.Shapes.{matrix_in}
use Rattle.matrix.specs.Laws.Words.{Columns}
use Rattle.lists.specs.Joining.{join}
use Rattle.lists.proofs.joining.join.Given as goal

abbrev pub invariant-loop-c : goal.invariant-loop-c
invariant-loop-c l = Columns (matrix_words (join (matrix_in l.half l.a.columns) (matrix_in l.half l.b.columns))) l.c l.columns
