-- `collecting::collect` meets its contract. The loop's invariant: the records before `node` that were used are
-- listed, `count` of them, and no longer used; those from `node` on are as they were.
use mathlib.Core.Path.{◌∙◌}
use Prim.Native.Nat.{◌/◌, ◌<◌}
use native.Mathlib.Omega.{arith}
use lib.ListN.{length}
use Rattle.leafsets.specs.Laws.CollectingLeaves.{collected-start, node-inside, place_inside}
use Rattle.leafsets.specs.Laws.CollectingLeaves.{collected-more, collected-past, collected-end}
use Rattle.leafsets.proofs.collecting.collect.Goals as goal
use Rattle.leafsets.proofs.collecting.collect.Goals.{In-loop-node, then-table-node-ne0, else-table-node-ne0}

inside : (c : goal.In-loop-node) → c.loop-node.node < length c.args.table.now / 8
inside c = omega (arith, c.loop-node-test.true, c.requires.1)

pub loop-node-init : goal.loop-node-init
loop-node-init c =
    collected-start _ _ _ c.args.last c.requires.3 c.requires.0

pub take_leaf-requires : goal.take_leaf-requires
take_leaf-requires c =
    let head = c.loop-node in (
      node-inside _ _ c.requires.2 _ _ _ _ head.invariant (inside (goal.at.take_leaf-requires c).In-loop-node),
      place_inside _ _ c.requires.2 _ _ _ _ head.invariant (inside (goal.at.take_leaf-requires c).In-loop-node),
    )

pub loop-node-preserved : goal.loop-node-preserved
loop-node-preserved c =
    let inv = c.loop-node.invariant in
    let here = inside (goal.at.loop-node-preserved c).In-loop-node in
    elim c.if-table-node-ne0.branch [
      | then-table-node-ne0 w ↦
          rw w.count-is (collected-more _ _ c.requires.2 _ _ _ _ inv here w.if-table-node-ne0.true
          (w.table-is ∙ w.take_leaf.ensures.table) (w.list-is ∙ w.take_leaf.ensures.list))
      | else-table-node-ne0 w ↦
          rw (w.table-is, w.list-is, w.count-is) (collected-past _ _ c.requires.2 _ _ _ _ inv here
          w.if-table-node-ne0.false)
    ]

pub returns : goal.returns
returns c =
    collected-end _ _ _ _ c.requires.3 _ _ _ _ c.loop-node.invariant c.requires.2
    (omega (arith, c.loop-node-test.false))
