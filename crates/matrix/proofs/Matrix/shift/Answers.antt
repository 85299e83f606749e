-- `shift` meets its contract. The loop's invariant: the columns before `c` are shifted, the
-- rest are 0.
use mathlib.Core.Path.{◌∙◌}
use Rattle.matrix.specs.Laws.Words.{columns-more, columns-end}
use Rattle.matrix.specs.Laws.Shapes.{shifted-length, shifted_at}
use Rattle.matrix.proofs.Matrix.shift.Goals as goal

pub loop-c-preserved : goal.loop-c-preserved
loop-c-preserved c =
    columns-more (shifted-length _ _ _) c.loop-c.invariant c.loop-c-test.true
    (c.shifted_column.ensures ∙ shifted_at _ _ _ _ c.loop-c-test.true)

pub returns : goal.returns
returns c = columns-end (shifted-length _ _ _) c.loop-c.invariant c.loop-c-test.false
