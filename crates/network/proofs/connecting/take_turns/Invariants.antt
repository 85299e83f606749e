-- `connecting::take_turns` meets its contract. The loop's invariant: after `turns` turns, what the words
-- hold, and what is left of the build.
use Rattle.network.specs.Laws.Turning.{Turned}
use Rattle.network.proofs.connecting.take_turns.Given as goal

abbrev pub invariant-loop-turns : goal.invariant-loop-turns
invariant-loop-turns l =
    Turned l.header l.search.rules.nodes.now l.search.rules.combinations.now l.search.index.now l.initial.metastates l.initial.arcs l.initial.chains
    l.initial.spans l.fn.sizes l.limit l.metastates l.arcs l.chains l.spans l.now l.turns
