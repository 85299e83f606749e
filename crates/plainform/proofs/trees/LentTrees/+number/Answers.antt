-- `LentTrees::number` meets its contract. The measure is the number of nodes from the node on: a child is a
-- greater node. A leaf is put as it is; a question's record is put between the records of its sides.
use mathlib.Core.Path.{◌≡◌}
use Prim.Native.Nat.{ℕ, suc, ◌+◌, ◌≤◌}
use native.Mathlib.Omega.{arith}
use Rattle.definitions.specs.PlainForm.{size_of}
use Rattle.definitions.proofs.Spelling.TreeShapes.{some-node}
use Rattle.plainform.specs.LentTrees.{tree_in, KnownNode}
use Rattle.plainform.specs.Laws.LentTrees.{at-node, yes-known, no-known, yes-later, no-later, size-here}
use Rattle.plainform.specs.Laws.Numbering.{numbered-leaf, numbered-question}
use Rattle.plainform.proofs.trees.LentTrees.+number.Goals as goal
use Rattle.plainform.proofs.trees.LentTrees.+number.Goals.{Else-record-ne1, Start}

here : (t : ℕ) (c : goal.Start t) → let trees = c.args.self.now in KnownNode trees.header trees.nodes.now c.args.node
here t c = at-node c.args.self.now c.args.node c.requires.0

-- it has its root
some : (t : ℕ) (c : goal.Start t)
    → let trees = c.args.self.now in 1 ≤ size_of (tree_in trees.header trees.nodes.now trees.classes.now c.args.node)
some t c = let trees = c.args.self.now in some-node (tree_in trees.header trees.nodes.now trees.classes.now c.args.node)

-- its own record and those of its sides
sides : (t : ℕ) (c : goal.Else-record-ne1 t)
    → let trees = c.args.self.now in
    size_of (tree_in trees.header trees.nodes.now trees.classes.now c.args.node)
    ≡ suc (size_of (tree_in trees.header trees.nodes.now trees.classes.now c.node_at-record.result.yes)
    + size_of (tree_in trees.header trees.nodes.now trees.classes.now c.node_at-record.result.no))
sides t c =
    size-here (at-node c.args.self.now c.args.node c.requires.0) c.node_at-record.ensures c.if-record-ne1.false
    c.args.self.now.classes.now

pub put_node-requires : goal.put_node-requires
put_node-requires t c = omega (arith, some t (goal.at.put_node-requires t c).Start, c.requires.1.room)

pub returns-then-record-ne1 : goal.returns-then-record-ne1
returns-then-record-ne1 t c =
    numbered-leaf (here t (goal.at.returns-then-record-ne1 t c).Start) c.node_at-record.ensures c.args.self.now.classes.now
    c.args.sets.now c.args.at c.if-record-ne1.true c.leaf_node.ensures c.put_node.ensures

pub number-middle-requires : goal.number-middle-requires
number-middle-requires t c =
    let k = here t (goal.at.number-middle-requires t c).Start in
    let fits = c.requires.1 in
    let yes = yes-known k c.node_at-record.ensures c.if-record-ne1.false in
    let later = yes-later k c.node_at-record.ensures c.if-record-ne1.false in (
      omega (arith, yes.listed, later),
      (
        yes.listed,
        record {
          few_sets = fits.few_sets;
          few_nodes = omega (arith, sides t (goal.at.number-middle-requires t c).Else-record-ne1, fits.few_nodes);
          room = omega (arith, sides t (goal.at.number-middle-requires t c).Else-record-ne1, fits.room);
        },
      ),
    )

pub put_node-requires-2 : goal.put_node-requires-2
put_node-requires-2 t c =
    let kept = c.number-middle.auto.table in
    omega (arith, sides t (goal.at.put_node-requires-2 t c).Else-record-ne1, c.requires.1.room, kept)

pub number-requires : goal.number-requires
number-requires t c =
    let k = here t (goal.at.number-requires t c).Start in
    let fits = c.requires.1 in
    let no = no-known k c.node_at-record.ensures c.if-record-ne1.false in
    let later = no-later k c.node_at-record.ensures c.if-record-ne1.false in
    let middle = c.number-middle.ensures.counted in
    let kept = c.number-middle.auto.table in (
      omega (arith, no.listed, later),
      (
        no.listed,
        record {
          few_sets = fits.few_sets;
          few_nodes = omega (arith, sides t (goal.at.number-requires t c).Else-record-ne1, fits.few_nodes, middle);
          room = omega (
            arith,
            sides t (goal.at.number-requires t c).Else-record-ne1,
            fits.room,
            middle,
            kept,
            c.put_node-2.auto.words,
          );
        },
      ),
    )

pub returns : goal.returns
returns t c =
    numbered-question (here t (goal.at.returns t c).Start) c.node_at-record.ensures c.args.self.now.classes.now
    c.args.sets.now c.args.at c.if-record-ne1.false c.requires.1.room c.number-middle.ensures
    c.class_among-class.ensures c.question_node.ensures c.put_node-2.ensures c.number.ensures
