-- The measure is the number of nodes from the node on: a child is a greater node.
use Prim.Native.Nat.{◌-◌}
use Rattle.plainform.proofs.trees.LentTrees.+number.Given as goal

abbrev pub decreases-number : goal.decreases-number
decreases-number l = l.self.now.header.nodes - l.node
