-- `meeting::meet_each` meets its contract. The loop's invariant: the meets with the matrices before `place`
-- are in.
use mathlib.Core.List.{map}
use Rattle.definitions.specs.Matrices.{meet}
use Rattle.definitions.specs.MatrixLists.{gather}
use Rattle.matrix.specs.Shapes.{matrix_in}
use Rattle.lists.specs.Held.{list_in}
use Rattle.lists.specs.Laws.Meeting.{Gathered}
use Rattle.lists.specs.Laws.Meeting.{met_alone}
use Rattle.lists.proofs.meeting.meet_each.Given as goal

abbrev pub invariant-loop-place : goal.invariant-loop-place
invariant-loop-place l =
    Gathered l.half (met_alone (matrix_in l.half l.m.columns)) (list_in l.half l.list)
    (gather (list_in l.half l.initial.out) (map (meet (matrix_in l.half l.m.columns)) (list_in l.half l.list)))
    l.place l.initial.out l.out
