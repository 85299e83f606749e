-- `leaves::leaf_of` meets its contract, test by test.
use mathlib.Core.Path.{◌≡◌}
use mathlib.Core.Bool.{true, ◌&&◌}
use Prim.Native.Nat.{◌*◌}
use Rattle.std.proofs.Common.{rules}
use Rattle.std.proofs.lemmas.Bool.{not_from_true, not_from_false}
use Rattle.definitions.specs.BookReading.{node_size}
use Rattle.definitions.specs.Tables.{node_records}
use Rattle.definitions.specs.ForeignTables.{holds_only}
use Rattle.definitions.specs.Lookup.{lookup_known}
use Rattle.definitions.proofs.Laws.Lists.Tests.{held, failed}
use Rattle.tables.specs.Laws.TableTests.{words-give}
use Rattle.trees.specs.Laws.Answering.{lookup-foreign, lookup-range, lookup-leaf, lookup-fits}
use Rattle.trees.proofs.leaves.leaf_of.Goals as goal
use Rattle.trees.proofs.leaves.leaf_of.Goals.{Else-not-lookup_known}

known : (c : goal.Else-not-lookup_known)
    → (holds_only (node_size * c.args.header.nodes) c.args.nodes.now
    && lookup_known c.args.header c.args.classes.now
    (node_records c.args.header c.args.nodes.now)
    c.args.root) ≡ true
known c = held c.lookup_known.ensures (not_from_true _ c.if-not-lookup_known.false)

pub returns-then-not-lookup_known : goal.returns-then-not-lookup_known
returns-then-not-lookup_known c =
    let a = c.args in
    rw c.at.ensures (lookup-foreign a.header a.nodes.now a.classes.now a.root a.context.now
    (failed c.lookup_known.ensures (not_from_false _ c.if-not-lookup_known.true)))

pub returns-then-not-is_context : goal.returns-then-not-is_context
returns-then-not-is_context c =
    let a = c.args in
    rw c.at-then-not-is_context.ensures (lookup-range a.header a.nodes.now a.classes.now a.root a.context.now
    (known (goal.at.returns-then-not-is_context c).Else-not-lookup_known)
    (failed c.is_context.ensures (not_from_false _ c.if-not-is_context.true)))

pub returns : goal.returns
returns c =
    let a = c.args in
    let all = known (goal.at.returns c).Else-not-lookup_known in
    let (records, inside) = lookup-fits a.header a.nodes.now a.classes.now a.root a.context.now all in
    let walks = c.walk.ensures _ (words-give a.header a.nodes.now (λ node r k. search rules)) records inside in
    lookup-leaf a.header a.nodes.now a.classes.now a.root a.context.now all
    (held c.is_context.ensures (not_from_true _ c.if-not-is_context.false)) c.walk.result walks.reaches
