-- `shift` meets its contract. The loop's invariant: the columns before `c` are shifted, the rest are 0.
use Rattle.matrix.specs.Laws.Words.{Columns}
use Rattle.matrix.specs.Shapes.{shifted_words}
use Rattle.matrix.proofs.Matrix.shift.Given as goal

abbrev pub invariant-loop-c : goal.invariant-loop-c
invariant-loop-c l = Columns (shifted_words l.last l.all l.self.columns) l.c l.columns
