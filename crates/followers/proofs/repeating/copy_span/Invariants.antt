-- `repeating::copy_span` meets its contract. The loop's invariant: `i` copies were appended.
use Rattle.followers.specs.Laws.Copying.{Copied}
use Rattle.followers.proofs.repeating.copy_span.Given as goal

abbrev pub invariant-loop-i : goal.invariant-loop-i
invariant-loop-i l = Copied l.initial.arcs l.count l.first l.many l.from l.arcs l.i
