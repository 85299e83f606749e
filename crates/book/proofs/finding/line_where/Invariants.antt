-- `finding::line_where` meets its contract. The loop's invariant: none of the first `i` lines is sought.
use Rattle.std.specs.Prelude.{Bool}
use Rattle.definitions.specs.BookLines.{BookLine}
use Rattle.book.specs.Steps.{Seeks}
use Rattle.book.specs.Laws.Finding.{Passed}
use Rattle.book.proofs.finding.line_where.Given as goal

abbrev pub invariant-loop-i : goal.invariant-loop-i
invariant-loop-i g l = (test : BookLine → Bool) → Seeks (goal.F-post g l.sought) test → Passed l.text test l.i
