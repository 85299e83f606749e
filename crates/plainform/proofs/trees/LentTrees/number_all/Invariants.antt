-- `LentTrees::number_all` meets its contract. The loop's invariant: what is left to put from root `i` on, put into
-- the tables as they are, gives what all trees put into the tables at the start give.
use Rattle.plainform.specs.LentTrees.{tree_in}
use Rattle.plainform.specs.Laws.Numbering.{AllNumbered}
use Rattle.plainform.proofs.trees.LentTrees.number_all.Given as goal

abbrev pub invariant-loop-i : goal.invariant-loop-i
invariant-loop-i l =
    AllNumbered (tree_in l.self.header l.self.nodes.now l.self.classes.now) l.sets l.roots l.initial.table l.initial.starts l.i l.at l.table l.starts
