-- `around` meets its contract. The loop's invariant: the columns before `c` are made, the rest are 0.
use Rattle.std.proofs.Common.{take}
use Rattle.definitions.specs.Matrices.{most_columns, matrix_words}
use Rattle.matrix.specs.Laws.Words.{Columns}
use Rattle.matrix.specs.Shapes.{columns_around}
use Rattle.matrix.proofs.Matrix.around.Given as goal

abbrev pub invariant-loop-c : goal.invariant-loop-c
invariant-loop-c l =
    Columns (take most_columns (matrix_words (columns_around l.half l.left l.centre l.right))) l.c l.columns
