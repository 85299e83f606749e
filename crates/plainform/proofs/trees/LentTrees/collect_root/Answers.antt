-- `LentTrees::collect_root` meets its contract: a word of 4096 is no root and has no tree.
use mathlib.Core.Path.{ap}
use native.Mathlib.Omega.{arith}
use lib.ListN.{length}
use Rattle.plainform.specs.Laws.LentTrees.{root-node}
use Rattle.plainform.specs.Laws.Collecting.{collected-absent, root-uses}
use Rattle.plainform.proofs.trees.LentTrees.collect_root.Goals as goal

pub returns-then-root-eq-NO_ROOT : goal.returns-then-root-eq-NO_ROOT
returns-then-root-eq-NO_ROOT c =
    let t = c.args.self.now in
    collected-absent t.header t.nodes.now t.classes.now c.args.root c.args.sets.now c.args.used c.if-root-eq-NO_ROOT.true

pub collect-requires : goal.collect-requires
collect-requires c =
    let t = c.args.self.now in
    let there = c.if-root-eq-NO_ROOT.false in
    let uses = root-uses t.header t.nodes.now t.classes.now c.args.root there in
    (root-node c.requires.0 there, omega (arith, c.requires.1, ap length uses))

pub returns-else-root-eq-NO_ROOT : goal.returns-else-root-eq-NO_ROOT
returns-else-root-eq-NO_ROOT c =
    let t = c.args.self.now in
    rw (root-uses t.header t.nodes.now t.classes.now c.args.root c.if-root-eq-NO_ROOT.false) c.collect.ensures
