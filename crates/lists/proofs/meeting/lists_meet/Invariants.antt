-- `meeting::lists_meet` meets its contract. The loop's invariant: the matrices before `place` meet none.
use Rattle.lines.specs.Laws.Passing.{Missed}
use Rattle.lists.specs.Held.{list_in}
use Rattle.lists.specs.Meeting.{meets_some}
use Rattle.lists.proofs.meeting.lists_meet.Given as goal

abbrev pub invariant-loop-place : goal.invariant-loop-place
invariant-loop-place l =
    Missed (meets_some (list_in l.half l.b)) (list_in l.half l.a) l.place
