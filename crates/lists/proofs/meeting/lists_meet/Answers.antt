-- `meeting::lists_meet` meets its contract. The loop's invariant: the matrices before `place` meet none.
use Rattle.std.proofs.Common.{◌≡◌, ap, sym, ◌∙◌, arith, [], ◌<◌, length, get_or}
use Rattle.lines.specs.Laws.Passing.{missed-start, missed_more, missed-found, missed-end}
use Rattle.lists.specs.Held.{list_in}
use Rattle.lists.specs.Meeting.{meets_some}
use Rattle.lists.specs.Laws.Held.{list_length}
use Rattle.lists.specs.Laws.Meeting.{meet-some}
use Rattle.lists.specs.Laws.Values.{matrix-read}
use Rattle.lists.proofs.meeting.lists_meet.Goals as goal
use Rattle.lists.proofs.meeting.lists_meet.Goals.{After-meets_one}

pub loop-place-init : goal.loop-place-init
loop-place-init c = missed-start _ _

-- a turn's matrix and its test
module _ (c : goal.After-meets_one) where
  inside : c.loop-place.place < length (list_in c.args.half c.args.a.now)
  inside = omega (arith, list_length c.args.half c.args.a.now, c.matrices_in-place-end.ensures)

  tested : meets_some (list_in c.args.half c.args.b.now)
      (get_or (list_in c.args.half c.args.a.now) c.loop-place.place [])
      ≡ c.meets_one.result
  tested =
      ap (meets_some (list_in c.args.half c.args.b.now))
      (matrix-read c.requires.0 _ (omega arith) c.matrix_at.ensures)
      ∙ sym c.meets_one.ensures

pub returns-then-meets_one : goal.returns-then-meets_one
returns-then-meets_one c =
    let at = (goal.at.returns-then-meets_one c).After-meets_one in
    missed-found [] c.loop-place.invariant (inside at) (tested at ∙ c.if-meets_one.true) ∙ meet-some _ _

pub loop-place-preserved : goal.loop-place-preserved
loop-place-preserved c =
    let at = (goal.at.loop-place-preserved c).After-meets_one in
    missed_more [] c.loop-place.invariant (inside at) (tested at ∙ c.if-meets_one.false)

pub returns : goal.returns
returns c =
    missed-end c.loop-place.invariant
    (omega (arith, list_length c.args.half c.args.a.now, c.matrices_in-place-end.ensures))
    ∙ meet-some _ _
