-- `starting::counted_on` meets its contract. The loop's invariant: they are at least `at`.
use Rattle.arcs.specs.Laws.Leaving.{Bracketed}
use Rattle.arcs.proofs.starting.counted_on.Given as goal

abbrev pub invariant-loop-at : goal.invariant-loop-at
invariant-loop-at l = Bracketed l.arcs l.state l.at l.count
