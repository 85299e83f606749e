-- `transcription::reached_for` meets its contract: the record at the leaf that the walk from the root reaches.
use mathlib.Core.Path.{ap, sym, ◌∙◌}
use Prim.Native.Nat.{ℕ, ◌+◌, ◌-◌, ◌*◌}
use native.Mathlib.Omega.{arith}
use lib.Seq.{length-take-le}
use Rattle.std.proofs.Common.{rules}
use Rattle.definitions.specs.Lists.{◌!◌}
use Rattle.tables.specs.Laws.Roots.{TreeRoot, root-fits}
use Rattle.tables.specs.Laws.TableTests.{words-give}
use Rattle.trees.specs.Laws.Phones.{Column, column_fits}
use Rattle.transcripts.specs.Laws.Models.{found-reached}
use Rattle.transcripts.proofs.transcription.reached_for.Goals as goal
use Rattle.transcripts.proofs.transcription.reached_for.Goals.{After-root_of-root, Start}

-- the column of the context's own phone
column : (c : goal.Start) → Column c.args.trees.header c.args.context.now c.args.trees.header.half
column c = column_fits _ _ c.requires.0 _ (omega arith)

root : (c : goal.After-root_of-root)
    → TreeRoot c.args.trees.header c.args.trees.roots.now
    (c.args.context.now ! c.args.trees.header.half) c.args.state c.root_of-root.result
root c =
    let a = c.args in
    let p = c.requires in
    let phone : Column a.trees.header a.context.now a.trees.header.half = column_fits _ _ p.0 _ (omega arith) in
    root-fits a.trees.header a.trees.roots.now a.trees.fit.roots-listed phone.low phone.high p.1 p.2
    (c.root_of-root.ensures
    ∙ ap (λ (i : ℕ). a.trees.roots.now ! ((a.context.now ! i - 1) * a.trees.header.states + (a.state - 1)))
    c.wide-half.ensures)

pub bounds-context-half : goal.bounds-context-half
bounds-context-half c =
    omega (arith, (column (goal.at.bounds-context-half c).Start).inside, c.wide-half.ensures)

pub slice_bounds-classes-end : goal.slice_bounds-classes-end
slice_bounds-classes-end c =
    sym (length-take-le c.wide-count.result c.args.trees.classes.now
    (omega (arith, c.args.trees.fit.classes_wide, c.wide-count.ensures)))

pub returns : goal.returns
returns c =
    let a = c.args in
    found-reached a.trees.header a.trees.nodes.now a.trees.classes.now a.trees.roots.now a.context.now a.state
    _ _ _ c.node_at-record.result (root (goal.at.returns c).After-root_of-root).own c.wide-count.ensures
    (c.walk-walked.ensures _ (words-give a.trees.header a.trees.nodes.now (λ node r k. search rules)) a.trees.fit.nodes-known
    (root (goal.at.returns c).After-root_of-root).listed)
    c.node_at-record.ensures
