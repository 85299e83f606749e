-- `meeting::meet_lists` meets its contract. The loop's invariant: the meets of the matrices before `place`
-- are in.
use mathlib.Core.Path.{refl, ap, sym, ◌∙◌}
use Rattle.std.proofs.Common.{◌≡◌, arith, List, [], ◌<◌, length, get_or, length-set}
use Rattle.matrix.specs.Shapes.{matrix_in}
use Rattle.definitions.specs.Matrices.{Matrix}
use Rattle.definitions.specs.MatrixLists.{gather, pairs_met, meet_lists}
use Rattle.definitions.proofs.Laws.Lists.Tests.{held, failed}
use Rattle.lists.specs.Held.{list_in}
use Rattle.lists.specs.Laws.Held.{list_length, became-from, emptied-holds, emptied-list}
use Rattle.lists.specs.Laws.Meeting.{gathered-start, gathered-more, gathered-stop, gathered-end}
use Rattle.lists.specs.Laws.Meeting.{met_with}
use Rattle.lists.specs.Laws.Values.{matrix-read}
use Rattle.std.proofs.lemmas.Bool.{not_from_true}
use Rattle.std.proofs.lemmas.Bool.{not_from_false}
use Rattle.lists.proofs.meeting.meet_lists.Goals as goal
use Rattle.lists.proofs.meeting.meet_lists.Goals.{After-matrix_at}

-- a turn's matrix
module _ (c : goal.After-matrix_at) where
  inside : c.loop-place.place < length (list_in c.args.half c.args.a.now)
  inside = omega (arith, list_length c.args.half c.args.a.now, c.matrices_in-place-end.ensures)

  its : get_or (list_in c.args.half c.args.a.now) c.loop-place.place [] ≡ matrix_in c.args.half c.matrix_at.result.columns
  its = matrix-read c.requires.0 _ (omega arith) c.matrix_at.ensures

pub loop-place-init : goal.loop-place-init
unfolding meet_lists
loop-place-init c =
    let b : List Matrix = list_in c.args.half c.args.b.now in
    let a : List Matrix = list_in c.args.half c.args.a.now in
    gathered-start (met_with b) a (emptied-holds c.requires.2)
    (ap (λ (l : List Matrix). gather l (pairs_met a b)) (sym (emptied-list c.requires.2)))

pub meet_each-requires : goal.meet_each-requires
meet_each-requires c =
    (c.requires.1, c.loop-place.invariant.holds)

pub shape_of-out-then-not-meet_each : goal.shape_of-out-then-not-meet_each
shape_of-out-then-not-meet_each c =
    c.meet_each.ensures.sized ∙ c.loop-place.invariant.sized
    ∙ length-set c.args.out.now 0 0

pub returns-then-not-meet_each : goal.returns-then-not-meet_each
returns-then-not-meet_each c =
    let at = (goal.at.returns-then-not-meet_each c).After-matrix_at in
    became-from (length-set c.args.out.now 0 0)
    (gathered-stop c.loop-place.invariant (inside at) _ (its at)
    (failed refl (not_from_false _ c.if-not-meet_each.true)) c.meet_each.ensures)

pub loop-place-preserved : goal.loop-place-preserved
loop-place-preserved c =
    let at = (goal.at.loop-place-preserved c).After-matrix_at in
    gathered-more c.loop-place.invariant (inside at) _ (its at)
    (held refl (not_from_true _ c.if-not-meet_each.false)) c.meet_each.ensures

pub shape_of-out : goal.shape_of-out
shape_of-out c =
    c.loop-place.invariant.sized ∙ length-set c.args.out.now 0 0

pub returns : goal.returns
returns c =
    became-from (length-set c.args.out.now 0 0)
    (gathered-end c.loop-place.invariant
    (omega (arith, list_length c.args.half c.args.a.now, c.matrices_in-place-end.ensures)))
