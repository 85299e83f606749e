-- The measure is the number of nodes from the node on: a child is a greater node.
use Prim.Native.Nat.{◌-◌}
use Rattle.plainform.proofs.trees.LentTrees.+collect.Given as goal

abbrev pub decreases-collect : goal.decreases-collect
decreases-collect l = l.self.now.header.nodes - l.node
