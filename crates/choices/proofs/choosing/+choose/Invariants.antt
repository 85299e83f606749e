-- `choosing::choose`: the measure is the number of trees left. The loop's invariant: the leaves before `from` have
-- given their combinations, and there was room for them.
use Rattle.std.proofs.Common.{◌-◌, length}
use Rattle.matrix.specs.Shapes.{width_of}
use Rattle.choices.specs.Laws.Choosing.{Given}
use Rattle.choices.proofs.choosing.+choose.Given as goal

abbrev pub decreases-choose : goal.decreases-choose
decreases-choose l = l.trees

abbrev pub invariant-loop-place : goal.invariant-loop-place
invariant-loop-place l =
    Given l.half (width_of l.half) l.trees l.first l.second l.third l.choice l.initial.space l.count l.space
    l.total l.from

abbrev pub decreases-loop-place : goal.decreases-loop-place
decreases-loop-place l = length l.first - l.from
