-- `indexing::fill_index` meets its contract. The loop's invariant: the words from `word` on are in the index.
use Rattle.std.proofs.Common.{length}
use Rattle.marks.specs.Lexicon.{spelled}
use Rattle.marks.specs.Laws.Openings.{OpenedAfter}
use Rattle.marks.proofs.indexing.fill_index.Given as goal

abbrev pub invariant-loop-word : goal.invariant-loop-word
invariant-loop-word l = OpenedAfter (spelled l.words) (length l.initial.index) l.word l.index
