-- `reader::read_lines` meets its contract. The loop's invariant: the first lines were taken.
use lib.ListN.{length}
use Rattle.words.specs.Laws.Reading.{Turn}
use Rattle.words.proofs.reader.read_lines.Given as goal

abbrev pub invariant-loop-i : goal.invariant-loop-i
invariant-loop-i l = Turn (length l.initial.words) l.text l.i l.last l.words
