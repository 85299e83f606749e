-- `around` meets its contract. The loop's invariant: the columns before `c` are made, the rest are 0.
use mathlib.Core.Path.{◌∙◌}
use Rattle.matrix.specs.Laws.Words.{columns-more, columns-end}
use Rattle.matrix.specs.Laws.Shapes.{around-seven, around-at}
use Rattle.matrix.proofs.Matrix.around.Goals as goal

pub loop-c-preserved : goal.loop-c-preserved
loop-c-preserved c =
    let a = c.args in
    columns-more (around-seven a.half a.left a.centre a.right) c.loop-c.invariant
    c.loop-c-test.true
    (c.column_around.ensures
    ∙ around-at a.half a.left a.centre a.right _ c.loop-c-test.true)

pub returns : goal.returns
returns c =
    let a = c.args in
    columns-end (around-seven a.half a.left a.centre a.right) c.loop-c.invariant
    c.loop-c-test.false
