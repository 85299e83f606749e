-- `meeting::add_met` meets its contract: only a valid meet is put in.
use Rattle.std.proofs.Common.{◌≡◌, arith, length, eq-eqb}
use Rattle.definitions.specs.Matrices.{most_columns}
use Rattle.matrix.specs.Shapes.{width_of, matrix_in}
use Rattle.matrix.specs.Laws.Widths.{width-taken}
use Rattle.lists.specs.Laws.Meeting.{met-none, met_some, met-is, added-valid, added-invalid}
use borrow.Author.Rules.{rules}
use Rattle.lists.proofs.meeting.add_met.Goals as goal
use Rattle.lists.proofs.meeting.add_met.Goals.{After-meet}

module _ (c : goal.After-meet) where
  seven : length c.args.m.columns ≡ most_columns
  seven = search rules

  wide : length (matrix_in c.args.half c.args.other.columns) ≡ width_of c.args.half
  wide = width-taken (omega (arith, c.requires.1.space.narrow)) c.requires.0

pub returns-then-met-eq0 : goal.returns-then-met-eq0
returns-then-met-eq0 c =
    let at = (goal.at.returns-then-met-eq0 c).After-meet in
    rw (eq-eqb _ _ c.if-met-eq0.true)
    (added-invalid _
    (met-none c.requires.1.space.narrow _ (seven at) _ (wide at) c.requires.0 c.width_of.ensures.0 c.meet.ensures.matrix
    c.if-met-eq0.true)
    c.requires.1)

pub returns-else-met-eq0 : goal.returns-else-met-eq0
returns-else-met-eq0 c =
    let at = (goal.at.returns-else-met-eq0 c).After-meet in
    let narrow = c.requires.1.space.narrow in
    let width = c.width_of.ensures.0 in
    added-valid _
    (met_some narrow _ (seven at) _ (wide at) c.requires.0 width c.meet.ensures.matrix c.if-met-eq0.false)
    (rw (met-is narrow _ (seven at) _ (wide at) c.requires.0 width c.meet.ensures.matrix c.if-met-eq0.false)
    at c.insert.ensures)
