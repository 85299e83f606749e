-- `Tables::read_lines` meets its contract. The loop's invariant: the first `i` lines were taken, into the lent tables.
use Rattle.book.specs.Tables.{lengths_in, SameLent}
use Rattle.book.specs.Laws.Reading.{Turn}
use Rattle.book.proofs.Tables.read_lines.Given as goal

abbrev pub invariant-loop-i : goal.invariant-loop-i
invariant-loop-i l = record {
  same : SameLent l.self l.initial.self;
  taken : Turn (lengths_in l.initial.self) l.text l.i l.state l.self.nodes.now l.self.classes.now l.self.roots.now l.self.plains.now l.counts;
}
