-- `chains::key_of` meets its contract. The loop's invariant: the columns before the index are taken in, the rest left.
use Rattle.metastates.specs.Laws.Keys.{Keyed}
use Rattle.metastates.proofs.chains.key_of.Given as goal

abbrev pub invariant-loop-column : goal.invariant-loop-column
invariant-loop-column l = Keyed l.number l.column-items l.column-index l.key
