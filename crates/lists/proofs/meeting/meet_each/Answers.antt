-- `meeting::meet_each` meets its contract. The loop's invariant: the meets with the matrices before `place`
-- are in.
use Rattle.std.proofs.Common.{◌≡◌, refl, ap, ◌∙◌, arith, [], ◌<◌, length, get_or}
use Rattle.definitions.specs.MatrixLists.{gather}
use Rattle.matrix.specs.Shapes.{matrix_in}
use Rattle.definitions.proofs.Laws.Lists.Tests.{held, failed}
use Rattle.lists.specs.Held.{list_in}
use Rattle.lists.specs.Laws.Held.{list_length}
use Rattle.lists.specs.Laws.Meeting.{gathered-start, gathered-more, gathered-stop, gathered-end, met-each}
use Rattle.lists.specs.Laws.Values.{matrix-read, width-read}
use Rattle.std.proofs.lemmas.Bool.{not_from_true, not_from_false}
use Rattle.lists.proofs.meeting.meet_each.Goals as goal
use Rattle.lists.proofs.meeting.meet_each.Goals.{After-matrix_at}

pub loop-place-init : goal.loop-place-init
loop-place-init c =
    gathered-start _ _ c.requires.1
    (ap (gather (list_in c.args.half c.args.out.now)) (met-each _ _))

-- a turn's matrix
module _ (c : goal.After-matrix_at) where
  inside : c.loop-place.place < length (list_in c.args.half c.args.list.now)
  inside = omega (arith, list_length c.args.half c.args.list.now, c.matrices_in-place-end.ensures)

  its : get_or (list_in c.args.half c.args.list.now) c.loop-place.place [] ≡ matrix_in c.args.half c.matrix_at.result.columns
  its = matrix-read c.requires.0 _ (omega arith) c.matrix_at.ensures

pub add_met-requires : goal.add_met-requires
add_met-requires c =
    (width-read c.requires.0 c.loop-place.place (omega arith) c.matrix_at.ensures, c.loop-place.invariant.holds)

pub shape_of-out-then-not-add_met : goal.shape_of-out-then-not-add_met
shape_of-out-then-not-add_met c =
    c.add_met.ensures.sized ∙ c.loop-place.invariant.sized

pub returns-then-not-add_met : goal.returns-then-not-add_met
unfolding gather
returns-then-not-add_met c =
    let at = (goal.at.returns-then-not-add_met c).After-matrix_at in
    gathered-stop c.loop-place.invariant (inside at) _ (its at)
    (failed refl (not_from_false _ c.if-not-add_met.true)) c.add_met.ensures

pub loop-place-preserved : goal.loop-place-preserved
unfolding gather
loop-place-preserved c =
    let at = (goal.at.loop-place-preserved c).After-matrix_at in
    gathered-more c.loop-place.invariant (inside at) _ (its at)
    (held refl (not_from_true _ c.if-not-add_met.false)) c.add_met.ensures

pub shape_of-out : goal.shape_of-out
shape_of-out c = c.loop-place.invariant.sized

pub returns : goal.returns
returns c =
    gathered-end c.loop-place.invariant
    (omega (arith, list_length c.args.half c.args.list.now, c.matrices_in-place-end.ensures))
