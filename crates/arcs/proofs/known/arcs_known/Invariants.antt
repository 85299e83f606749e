-- `known::arcs_known` meets its contract. The loop's invariant: the arcs before `i` are known and in order, and
-- `last` is the last source.
use Rattle.arcs.specs.Laws.KnownArcs.{Tested}
use Rattle.arcs.proofs.known.arcs_known.Given as goal

abbrev pub invariant-loop-i : goal.invariant-loop-i
invariant-loop-i l = Tested l.counts l.arcs l.i-end l.last l.i
