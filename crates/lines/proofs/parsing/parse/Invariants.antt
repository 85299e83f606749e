-- `parsing::parse` meets its contract. The loop's invariant: `numbers` has the entries before `field`.
use Rattle.lines.specs.Laws.Parsing.{Entries}
use Rattle.lines.proofs.parsing.parse.Given as goal

abbrev pub invariant-loop-field : goal.invariant-loop-field
invariant-loop-field l = Entries l.bytes l.used l.numbers l.field
