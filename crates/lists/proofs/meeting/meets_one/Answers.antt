-- `meeting::meets_one` meets its contract. The loop's invariant: the matrices before `place` are not met.
use Rattle.std.proofs.Common.{◌≡◌, sym, ◌∙◌, arith, [], ◌<◌, length, get_or}
use Rattle.lines.specs.Laws.Passing.{missed-start, missed_more, missed-found, missed-end}
use Rattle.matrix.specs.Shapes.{matrix_in}
use Rattle.matrix.specs.Laws.Meeting.{met-test}
use Rattle.lists.specs.Held.{list_in}
use Rattle.lists.specs.Meeting.{meets_by}
use Rattle.lists.specs.Laws.Held.{list_length}
use Rattle.lists.specs.Laws.Values.{width-at}
use Rattle.lists.proofs.meeting.meets_one.Goals as goal
use Rattle.lists.proofs.meeting.meets_one.Goals.{After-meets}

pub loop-place-init : goal.loop-place-init
loop-place-init c = missed-start _ _

pub meets-requires : goal.meets-requires
meets-requires c = omega (arith, c.width_of.ensures.0)

-- a turn's matrix and its test
module _ (c : goal.After-meets) where
  inside : c.loop-place.place < length (list_in c.args.half c.args.list.now)
  inside = omega (arith, list_length c.args.half c.args.list.now, c.matrices_in-place-end.ensures)

  tested : meets_by (matrix_in c.args.half c.args.m.columns)
      (get_or (list_in c.args.half c.args.list.now) c.loop-place.place [])
      ≡ c.meets.result
  tested =
      sym (met-test c.args.m.columns _ (width-at c.requires _ (omega arith)) c.matrix_at.ensures
      c.width_of.ensures.0 c.meets.ensures)

pub returns-then-meets : goal.returns-then-meets
returns-then-meets c =
    let at = (goal.at.returns-then-meets c).After-meets in
    missed-found [] c.loop-place.invariant (inside at) (tested at ∙ c.if-meets.true)

pub loop-place-preserved : goal.loop-place-preserved
loop-place-preserved c =
    let at = (goal.at.loop-place-preserved c).After-meets in
    missed_more [] c.loop-place.invariant (inside at) (tested at ∙ c.if-meets.false)

pub returns : goal.returns
returns c =
    missed-end c.loop-place.invariant
    (omega (arith, list_length c.args.half c.args.list.now, c.matrices_in-place-end.ensures))
