-- `LentTrees::collect_all` meets its contract. The loop's invariant: the sets of the first `i` trees are noted, and
-- those of the others are left.
use native.Mathlib.Omega.{arith}
use Rattle.plainform.specs.Laws.LentTrees.{root-listed}
use Rattle.plainform.specs.Laws.Collecting.{gathered-room, gathered-more}
use Rattle.plainform.specs.Laws.Collecting.{gathered-end}
use Rattle.plainform.proofs.trees.LentTrees.collect_all.Goals as goal

pub collect_root-used-requires : goal.collect_root-used-requires
collect_root-used-requires c = let (listed, room) = c.requires in
    (root-listed listed c.loop-root.root-index (omega arith), gathered-room c.loop-root.invariant (omega arith) room)

pub loop-root-preserved : goal.loop-root-preserved
loop-root-preserved c = gathered-more c.loop-root.invariant (omega arith) c.collect_root-used.ensures

pub returns : goal.returns
returns c = gathered-end c.loop-root.invariant (omega arith)
