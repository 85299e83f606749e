-- `foreign::name_all_children` meets its contract. The loop's invariant: the children of the records before
-- `at` are counted.
use Rattle.tables.specs.Laws.NamingTables.{children-start, children-more, children-end}
use borrow.Author.Rules.{rules}
use Rattle.tables.proofs.foreign.name_all_children.Goals as goal

pub loop-at-init : goal.loop-at-init
loop-at-init c = children-start _ _ _

pub loop-at-preserved : goal.loop-at-preserved
loop-at-preserved c =
    children-more c.loop-at.invariant (search rules) c.node_at.ensures
    c.name_children.ensures

pub shape_of-counts : goal.shape_of-counts
shape_of-counts c = c.loop-at.invariant.sized

pub returns : goal.returns
returns c = children-end c.loop-at.invariant (search rules)
