-- `LentTrees::collect_all` meets its contract. The loop's invariant: the sets of the first `i` trees are noted, and
-- those of the others are left.
use Rattle.plainform.specs.LentTrees.{tree_in}
use Rattle.plainform.specs.Laws.Collecting.{Gathered}
use Rattle.plainform.proofs.trees.LentTrees.collect_all.Given as goal

abbrev pub invariant-loop-root : goal.invariant-loop-root
invariant-loop-root l =
    Gathered (tree_in l.self.header l.self.nodes.now l.self.classes.now) l.roots l.initial.sets l.root-index l.sets l.used
