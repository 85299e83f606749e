-- `reader::read_lines` meets its contract. The loop's invariant: the first `i` lines were taken.
use lib.ListN.{length}
use Rattle.nettext.specs.Laws.Reading.{Turn}
use Rattle.nettext.proofs.reader.read_lines.Given as goal

abbrev pub invariant-loop-i : goal.invariant-loop-i
invariant-loop-i l = Turn (length l.initial.arcs) l.text l.i l.state l.arcs
