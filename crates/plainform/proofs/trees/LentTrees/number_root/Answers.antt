-- `LentTrees::number_root` meets its contract: a word of 4096 is no root and has no tree.
use Rattle.plainform.specs.Laws.LentTrees.{root-node}
use Rattle.plainform.specs.Laws.Numbering.{numbered-absent, root-numberable, numbered-root}
use Rattle.plainform.proofs.trees.LentTrees.number_root.Goals as goal

pub returns-then-root-eq-NO_ROOT : goal.returns-then-root-eq-NO_ROOT
returns-then-root-eq-NO_ROOT c =
    let a = c.args in
    let t = a.self.now in
    numbered-absent t.header t.nodes.now t.classes.now a.sets.now a.root a.at a.table.now c.if-root-eq-NO_ROOT.true

pub number-requires : goal.number-requires
number-requires c =
    let a = c.args in
    let t = a.self.now in
    let there = c.if-root-eq-NO_ROOT.false in (
      root-node c.requires.0 there,
      root-numberable t.header t.nodes.now t.classes.now a.sets.now a.root a.at there c.requires.1,
    )

pub returns-else-root-eq-NO_ROOT : goal.returns-else-root-eq-NO_ROOT
returns-else-root-eq-NO_ROOT c =
    let a = c.args in
    let t = a.self.now in
    numbered-root t.header t.nodes.now t.classes.now a.sets.now a.root a.at c.if-root-eq-NO_ROOT.false c.number.ensures
