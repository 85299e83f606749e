-- `words::whole_matrix` meets its contract. The loop's invariant: the columns before `c` are read.
use Rattle.std.proofs.Common.{drop}
use Rattle.matrix.specs.Laws.Words.{Columns}
use Rattle.matrix.specs.Words.{first_seven}
use Rattle.matrix.proofs.words.whole_matrix.Given as goal

abbrev pub invariant-loop-c : goal.invariant-loop-c
invariant-loop-c l = Columns (first_seven (drop l.from l.words)) l.c l.columns
