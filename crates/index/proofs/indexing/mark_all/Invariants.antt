-- `indexing::mark_all` meets its contract. The loop's invariant: the combinations before `number` are marked.
use Rattle.index.specs.Filling.{CombinationsMarked}
use Rattle.index.proofs.indexing.mark_all.Given as goal

abbrev pub invariant-loop-number : goal.invariant-loop-number
invariant-loop-number l =
    CombinationsMarked l.header l.combinations l.initial.index l.number l.index
