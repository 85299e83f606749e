-- `expanding::expand` meets its contract. The loop's invariant: the arcs of the state before `from` are followed.
use Prim.Native.Nat.{◌-◌, ◌/◌}
use lib.ListN.{length}
use Rattle.definitions.specs.Arcs.{arc_size}
use Rattle.joined.specs.Joins.{Holding}
use Rattle.joining.specs.Laws.Expanding.{Expanding}
use Rattle.joining.proofs.expanding.expand.Given as goal

abbrev pub invariant-loop-at : goal.invariant-loop-at
invariant-loop-at l =
    let first = l.initial.join in
    Expanding l.arcs l.known.words.now first.sizes first.states.now first.arcs.now first.chains.now l.place l.x.state
    l.x.word l.x.mark l.join.states.now l.join.arcs.now l.join.chains.now l.join.sizes l.from × Holding first l.join

abbrev pub decreases-loop-at : goal.decreases-loop-at
decreases-loop-at l = length l.arcs / arc_size - l.from
