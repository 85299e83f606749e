-- `walking::walk`: the measure is the number of nodes from the node on, since a child is a greater node.
use Rattle.std.proofs.Common.{◌-◌}
use Rattle.leafsets.proofs.walking.+walk.Given as goal

abbrev pub decreases-walk : goal.decreases-walk
decreases-walk l = l.header.nodes - l.node
