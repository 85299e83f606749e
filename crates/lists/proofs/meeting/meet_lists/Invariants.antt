-- `meeting::meet_lists` meets its contract. The loop's invariant: the meets of the matrices before `place`
-- are in.
use Rattle.definitions.specs.MatrixLists.{meet_lists}
use Rattle.lists.specs.Held.{list_in}
use Rattle.lists.specs.Laws.Meeting.{Gathered}
use Rattle.lists.specs.Laws.Meeting.{met_with}
use Rattle.lists.proofs.meeting.meet_lists.Given as goal

abbrev pub invariant-loop-place : goal.invariant-loop-place
invariant-loop-place l =
    Gathered l.half (met_with (list_in l.half l.b)) (list_in l.half l.a)
    (meet_lists (list_in l.half l.a) (list_in l.half l.b)) l.place l.initial.out l.out
