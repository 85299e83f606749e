-- `indexing::mark_columns` meets its contract. The loop's invariant: the columns before `column` are marked.
use Rattle.index.specs.Filling.{ColumnsMarked}
use Rattle.index.proofs.indexing.mark_columns.Given as goal

abbrev pub invariant-loop-column : goal.invariant-loop-column
invariant-loop-column l =
    ColumnsMarked l.header l.blocks l.combinations l.number l.initial.index l.column l.index
