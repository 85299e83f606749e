-- `naming::name_node` meets its contract, by whether the node has a count.
use native.Mathlib.Omega.{arith}
use Rattle.tables.specs.Laws.Naming.{again-out, again-capped}
use Rattle.tables.proofs.naming.name_node.Goals as goal

pub returns-then-at-counts : goal.returns-then-at-counts
returns-then-at-counts c =
    rw (c.saturating_add.ensures, c.wide-at.ensures)
    (again-capped _ _ (omega (arith, c.wide-at.ensures)) (search arith))

pub returns-else-at-counts : goal.returns-else-at-counts
returns-else-at-counts c = again-out _ _ (omega (arith, c.wide-at.ensures))
