-- `foreign::name_children` meets its contract, by whether the record is a question.
use Rattle.tables.specs.Laws.NamingTables.{children-none, children-both}
use Rattle.tables.proofs.foreign.name_children.Goals as goal

pub returns-then-node-eq1 : goal.returns-then-node-eq1
returns-then-node-eq1 c =
    children-both _ _ c.if-node-eq1.true c.name_node.ensures
    c.name_node-then-node-eq1.ensures

pub returns-else-node-eq1 : goal.returns-else-node-eq1
returns-else-node-eq1 c = children-none _ _ c.if-node-eq1.false
