-- `joining::hull` meets its contract. The loop's invariant: the matrices before `place` are joined.
use Rattle.std.proofs.Common.{refl, ◌∙◌, ap, sym, arith}
use Rattle.definitions.specs.Matrices.{Matrix, matrix_words}
use Rattle.matrix.specs.Shapes.{matrix_in}
use Rattle.lists.specs.Joining.{join}
use Rattle.lists.specs.Laws.Held.{list_length}
use Rattle.lists.specs.Laws.Joining.{joined-start, joined-more, joined_end}
use Rattle.lists.specs.Laws.Values.{width-at, matrix-read}
use Rattle.lists.proofs.joining.hull.Goals as goal

pub loop-place-init : goal.loop-place-init
loop-place-init c = joined-start c.requires.space.narrow _

pub join-sofar-requires : goal.join-sofar-requires
join-sofar-requires c = c.requires.space.narrow

pub loop-place-preserved : goal.loop-place-preserved
loop-place-preserved c =
    let here = matrix-read c.requires c.loop-place.place (omega arith) c.matrix_at.ensures in
    joined-more c.loop-place.invariant _
    (omega (arith, list_length c.args.half c.args.list.now, c.matrices_in-place-end.ensures)) refl
    (width-at c.requires _ (omega arith))
    (c.join-sofar.ensures
    ∙ ap (λ (x : Matrix). matrix_words (join (matrix_in c.args.half c.loop-place.sofar.columns) x)) (sym here))

pub returns : goal.returns
returns c =
    joined_end c.loop-place.invariant
    (omega (arith, list_length c.args.half c.args.list.now, c.matrices_in-place-end.ensures))
