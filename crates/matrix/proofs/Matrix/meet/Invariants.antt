-- `meet` meets its contract. The loop's invariant: the columns before `c` were met, and none is empty.
use Rattle.matrix.specs.Laws.Meeting.{Meeting}
use Rattle.matrix.proofs.Matrix.meet.Given as goal

abbrev pub invariant-loop-c : goal.invariant-loop-c
invariant-loop-c l = Meeting l.self.columns l.other.columns l.width l.c l.columns
