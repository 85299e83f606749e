-- `indexing::mark_column` meets its contract. The loop's invariant: the phones below `from` are marked.
use Prim.Native.Nat.{◌-◌}
use Rattle.index.specs.Filling.{PhonesMarked}
use Rattle.index.proofs.indexing.mark_column.Given as goal

abbrev pub invariant-loop-phone : goal.invariant-loop-phone
invariant-loop-phone l =
    PhonesMarked l.header.phones l.blocks l.number l.column l.set l.initial.index l.from l.index

abbrev pub decreases-loop-phone : goal.decreases-loop-phone
decreases-loop-phone l = 65 - l.from
