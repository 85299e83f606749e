-- `LentTrees::collect` meets its contract. The measure is the number of nodes from the node on: a child is a
-- greater node. A leaf asks for nothing; a question for its own set, then for those of its sides.
use Prim.Native.Nat.{ℕ, suc, ◌+◌, ◌≤◌}
use native.Mathlib.Omega.{arith}
use lib.ListN.{length}
use Rattle.definitions.specs.PlainForm.{sets_in}
use Rattle.plainform.specs.LentTrees.{tree_in, KnownNode}
use Rattle.plainform.specs.Laws.LentTrees.{at-node, yes-known, no-known, yes-later, no-later, sets-here}
use Rattle.plainform.specs.Laws.Collecting.{collected-leaf, collected-question}
use Rattle.plainform.proofs.trees.LentTrees.+collect.Goals as goal
use Rattle.plainform.proofs.trees.LentTrees.+collect.Goals.{Else-record-ne1, Start}

here : (t : ℕ) (c : goal.Start t) → let trees = c.args.self.now in KnownNode trees.header trees.nodes.now c.args.node
here t c = at-node c.args.self.now c.args.node c.requires.0

-- there is room for its own set and those of its sides
abbrev uses : (t : ℕ) (c : goal.Else-record-ne1 t) (node : ℕ) → ℕ
uses t c node =
    let trees = c.args.self.now in length (sets_in (tree_in trees.header trees.nodes.now trees.classes.now node))

room : (t : ℕ) (c : goal.Else-record-ne1 t)
    → c.args.used
    + suc (uses t c c.node_at-record.result.yes + uses t c c.node_at-record.result.no)
    ≤ length c.args.sets.now
room t c =
    let k = at-node c.args.self.now c.args.node c.requires.0 in
    omega (arith, c.requires.1, sets-here k c.node_at-record.ensures c.if-record-ne1.false c.args.self.now.classes.now)

pub returns-then-record-ne1 : goal.returns-then-record-ne1
returns-then-record-ne1 t c =
    let a = c.args in
    collected-leaf (here t (goal.at.returns-then-record-ne1 t c).Start) c.node_at-record.ensures a.self.now.classes.now
    a.sets.now a.used c.if-record-ne1.true

pub note_set-own-requires : goal.note_set-own-requires
note_set-own-requires t c = omega (arith, room t (goal.at.note_set-own-requires t c).Else-record-ne1)

pub collect-left-requires : goal.collect-left-requires
collect-left-requires t c =
    let k = here t (goal.at.collect-left-requires t c).Start in
    let yes = yes-known k c.node_at-record.ensures c.if-record-ne1.false in
    let later = yes-later k c.node_at-record.ensures c.if-record-ne1.false in
    let own = c.note_set-own.ensures in (
      omega (arith, yes.listed, later),
      (yes.listed, omega (arith, room t (goal.at.collect-left-requires t c).Else-record-ne1, own.few, own.sized)),
    )

pub collect-requires : goal.collect-requires
collect-requires t c =
    let k = here t (goal.at.collect-requires t c).Start in
    let no = no-known k c.node_at-record.ensures c.if-record-ne1.false in
    let later = no-later k c.node_at-record.ensures c.if-record-ne1.false in
    let own = c.note_set-own.ensures in
    let left = c.collect-left.ensures in (
      omega (arith, no.listed, later),
      (
        no.listed,
        omega (
          arith,
          room t (goal.at.collect-requires t c).Else-record-ne1,
          own.few,
          own.sized,
          left.few,
          left.sized,
        ),
      ),
    )

pub returns : goal.returns
returns t c =
    collected-question (here t (goal.at.returns t c).Start) c.node_at-record.ensures c.args.self.now.classes.now
    c.if-record-ne1.false c.note_set-own.ensures c.collect-left.ensures c.collect.ensures
