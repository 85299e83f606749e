-- `walking::walk` meets its contract. A leaf is put into its own record; a question's sides are put one after the
-- other. The measure is the number of nodes from the node on: a child is a greater node.
use Rattle.std.proofs.Common.{◌∙◌, arith}
use Rattle.tables.specs.Laws.KnownTables.{question-fits}
use Rattle.leafsets.specs.Laws.WalkingLeaves.{half-narrow, yes-words, no_words, walk-leaf, last_leaf}
use Rattle.leafsets.specs.Laws.WalkingLeaves.{walk-sides, last-sides}
use Rattle.leafsets.proofs.walking.+walk.Goals as goal

pub returns-then-record-ne1 : goal.returns-then-record-ne1
returns-then-record-ne1 t c =
    let a = c.args in
    let p = c.requires in
    let read = c.node_at-record in
    record {
      table =
          walk-leaf a.header a.nodes.now a.classes.now p.1 a.node p.3 read.result read.ensures
          c.if-record-ne1.true a.m.columns a.table.now c.put_leaf.new.table p.4 c.put_leaf.ensures;
      last =
          last_leaf a.header a.nodes.now a.classes.now p.1 a.node p.3 read.result read.ensures
          c.if-record-ne1.true a.m.columns;
    }

pub overflow_sub-set : goal.overflow_sub-set
overflow_sub-set t c =
    let a = c.args in
    let read = c.node_at-record in
    let fits = question-fits a.header a.nodes.now c.requires.1 a.node c.requires.3 read.result read.ensures
    c.if-record-ne1.false in
    omega (arith, c.wide.ensures, fits.in-range.class_low)

pub bounds-classes-wide : goal.bounds-classes-wide
bounds-classes-wide t c =
    let a = c.args in
    let read = c.node_at-record in
    let fits = question-fits a.header a.nodes.now c.requires.1 a.node c.requires.3 read.result read.ensures
    c.if-record-ne1.false in
    omega (arith, c.wide.ensures, fits.in-range.class_low, fits.in-range.class_high, c.requires.2)

pub walk-on_yes-requires : goal.walk-on_yes-requires
walk-on_yes-requires t c =
    let a = c.args in
    let p = c.requires in
    let read = c.node_at-record in
    let fits = question-fits a.header a.nodes.now p.1 a.node p.3 read.result read.ensures c.if-record-ne1.false in
    let side = yes-words _ (half-narrow a.header p.0) a.m.columns p.4 _ _ _ c.yes_side.ensures in (
      omega (arith, c.decreases, p.3, fits.yes_greater, fits.yes_listed),
      (p.0, p.1, p.2, fits.yes_listed, side.words, p.5),
    )

pub walk-on_no-requires : goal.walk-on_no-requires
walk-on_no-requires t c =
    let a = c.args in
    let p = c.requires in
    let read = c.node_at-record in
    let fits = question-fits a.header a.nodes.now p.1 a.node p.3 read.result read.ensures c.if-record-ne1.false in
    let side = no_words _ (half-narrow a.header p.0) a.m.columns p.4 _ _ _ c.no_side.ensures in (
      omega (arith, c.decreases, p.3, fits.no_greater, fits.no_listed),
      (p.0, p.1, p.2, fits.no_listed, side.words, c.walk-on_yes.auto.table ∙ p.5),
    )

pub returns : goal.returns
returns t c =
    let a = c.args in
    let p = c.requires in
    let read = c.node_at-record in
    record {
      table =
          walk-sides a.header a.nodes.now a.classes.now p.1 a.node p.3 read.result read.ensures p.0
          c.if-record-ne1.false p.4 c.wide.ensures c.yes_side.ensures c.no_side.ensures a.table.now
          c.walk-on_yes.ensures.table c.walk-on_no.ensures.table;
      last =
          last-sides a.header a.nodes.now a.classes.now p.1 a.node p.3 read.result read.ensures p.0
          c.if-record-ne1.false p.4 c.wide.ensures c.yes_side.ensures c.no_side.ensures c.max.ensures
          c.walk-on_yes.ensures.last c.walk-on_no.ensures.last;
    }
