-- `collecting::collect` meets its contract. The loop's invariant: the records before `node` that were used are
-- listed, `count` of them, and no longer used; those from `node` on are as they were.
use Rattle.leafsets.specs.Laws.CollectingLeaves.{Collected}
use Rattle.leafsets.proofs.collecting.collect.Given as goal

abbrev pub invariant-loop-node : goal.invariant-loop-node
invariant-loop-node l =
    Collected l.initial.table l.initial.list l.node l.count l.table l.list
