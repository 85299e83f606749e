-- `indexing::note_ends` meets its contract. The loop's invariant: the ends before `i` were noted.
use Rattle.index.specs.Filling.{Noted}
use Rattle.index.proofs.indexing.note_ends.Given as goal

abbrev pub invariant-loop-i : goal.invariant-loop-i
invariant-loop-i l = Noted l.ends l.initial.index l.i l.index
