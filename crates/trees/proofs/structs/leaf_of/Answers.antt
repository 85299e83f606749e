-- `structs::leaf_of` meets its contract, test by test.
use mathlib.Core.Path.{◌≡◌}
use mathlib.Core.Bool.{true}
use Rattle.std.proofs.Common.{rules}
use Rattle.std.proofs.lemmas.Bool.{not_from_true, not_from_false}
use Rattle.definitions.specs.Lookup.{lookup_known}
use Rattle.definitions.proofs.Laws.Lists.Tests.{held, failed}
use Rattle.trees.specs.Laws.Answering.{records-foreign, records-range, records-leaf, records-fit, records-counted}
use Rattle.trees.proofs.structs.leaf_of.Goals as goal
use Rattle.trees.proofs.structs.leaf_of.Goals.{Else-not-lookup_known}

known : (c : goal.Else-not-lookup_known)
    → lookup_known c.args.header c.args.classes.now c.args.nodes.now c.args.root ≡ true
known c = held c.lookup_known.ensures (not_from_true _ c.if-not-lookup_known.false)

pub returns-then-not-lookup_known : goal.returns-then-not-lookup_known
returns-then-not-lookup_known c =
    let a = c.args in
    rw c.at.ensures (records-foreign a.header a.classes.now a.nodes.now a.root a.context.now
    (failed c.lookup_known.ensures (not_from_false _ c.if-not-lookup_known.true)))

pub returns-then-not-is_context : goal.returns-then-not-is_context
returns-then-not-is_context c =
    let a = c.args in
    rw c.at-then-not-is_context.ensures (records-range a.header a.classes.now a.nodes.now a.root a.context.now
    (known (goal.at.returns-then-not-is_context c).Else-not-lookup_known)
    (failed c.is_context.ensures (not_from_false _ c.if-not-is_context.true)))

pub returns : goal.returns
returns c =
    let a = c.args in
    let all = known (goal.at.returns c).Else-not-lookup_known in
    let (records, inside) = records-fit a.header a.classes.now a.nodes.now a.root a.context.now all in
    let walks = c.walk.ensures a.nodes.now (record {
      counted = records-counted a.header a.classes.now a.nodes.now a.root a.context.now all;
      own = λ node h r k. search rules;
    }) records inside in
    records-leaf a.header a.classes.now a.nodes.now a.root a.context.now all
    (held c.is_context.ensures (not_from_true _ c.if-not-is_context.false)) c.walk.result walks.reaches
