-- `foreign::name_all_children` meets its contract. The loop's invariant: the children of the records before
-- `at` are counted.
use Rattle.tables.specs.Laws.NamingTables.{ChildrenNamed}
use Rattle.tables.proofs.foreign.name_all_children.Given as goal

abbrev pub invariant-loop-at : goal.invariant-loop-at
invariant-loop-at l = ChildrenNamed l.initial.counts l.counts l.fn.header l.words l.at
