-- `skipping::next_arc` meets its contract. The loop's invariant: along the arcs of the state before `at` nothing leads
-- on.
use Rattle.moves.specs.Laws.Skipping.{Passing}
use Rattle.moves.proofs.skipping.next_arc.Given as goal

abbrev pub invariant-loop-at : goal.invariant-loop-at
invariant-loop-at l = Passing l.arcs l.state l.wanted l.from l.at
