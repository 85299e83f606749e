-- `foreign::name_roots` meets its contract. The loop's invariant: the roots before `i` are counted.
use Rattle.tables.specs.Laws.NamingTables.{roots-start, roots-more, roots-end}
use borrow.Author.Rules.{rules}
use Rattle.tables.proofs.foreign.name_roots.Goals as goal

pub loop-root-init : goal.loop-root-init
loop-root-init c = roots-start _ _

pub loop-root-preserved : goal.loop-root-preserved
loop-root-preserved c =
    roots-more c.loop-root.invariant (search rules) c.name_node.ensures

pub shape_of-counts : goal.shape_of-counts
shape_of-counts c = c.loop-root.invariant.sized

pub returns : goal.returns
returns c = roots-end c.loop-root.invariant (search rules)
