-- `turning::take_turns` meets its contract. The loop's invariant: the states before `turns` are expanded.
use Prim.Native.Nat.{◌-◌}
use Rattle.joined.specs.Joins.{Holding}
use Rattle.joined.specs.States.{room_of}
use Rattle.joining.specs.Laws.Turning.{Turning}
use Rattle.joining.proofs.turning.take_turns.Given as goal

abbrev pub invariant-loop-turns : goal.invariant-loop-turns
invariant-loop-turns l =
    let first = l.initial.join in
    Turning l.network.arcs.now l.known.words.now first.sizes first.states.now first.arcs.now first.chains.now
    l.join.states.now l.join.arcs.now l.join.chains.now l.join.sizes l.turns × Holding first l.join

abbrev pub decreases-loop-turns : goal.decreases-loop-turns
decreases-loop-turns l =
    (room_of l.initial.join.states.now l.initial.join.arcs.now).table - l.turns
