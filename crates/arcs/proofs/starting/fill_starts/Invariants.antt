-- `starting::fill_starts` meets its contract. The loop's invariant: the places of the states before `state` are filled.
use lib.ListN.{length}
use Rattle.arcs.specs.Laws.Starting.{Filling}
use Rattle.arcs.proofs.starting.fill_starts.Given as goal

abbrev pub invariant-loop-state : goal.invariant-loop-state
invariant-loop-state l = Filling l.arcs (length l.initial.starts) l.starts l.state l.at
