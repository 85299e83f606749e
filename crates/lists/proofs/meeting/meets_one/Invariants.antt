-- `meeting::meets_one` meets its contract. The loop's invariant: the matrices before `place` are not met.
use Rattle.lines.specs.Laws.Passing.{Missed}
use Rattle.matrix.specs.Shapes.{matrix_in}
use Rattle.lists.specs.Held.{list_in}
use Rattle.lists.specs.Meeting.{meets_by}
use Rattle.lists.proofs.meeting.meets_one.Given as goal

abbrev pub invariant-loop-place : goal.invariant-loop-place
invariant-loop-place l =
    Missed (meets_by (matrix_in l.half l.m.columns)) (list_in l.half l.list) l.place
