-- `walking::walk` meets its contract. The loop's invariant: of any known records that are given, the steps that are left
-- reach the leaf from `node`, which is no less than the questions met, one a step. So they never run out.
use mathlib.Core.Path.{ap, ◌∙◌}
use native.Mathlib.Omega.{arith}
use Rattle.definitions.specs.declared.Node.{Node}
use Rattle.trees.specs.Laws.Walking.{start-walking, goes_on, stops}
use borrow.Author.Rules.{rules}
use Rattle.trees.proofs.walking.walk.Goals as goal

pub loop-questions-init : goal.loop-questions-init
loop-questions-init g c nodes given known inside = start-walking _ _ _ _ given.counted _ inside

pub returns-then-record-ne1 : goal.returns-then-record-ne1
returns-then-record-ne1 g c nodes given known inside =
    let w = c.loop-questions.invariant nodes given known inside in
    let own = given.own _ w.listed c.node_at-record.result (search rules) in
    record {
      reaches = stops _ _ _ _ _ _ own _ _ w c.if-record-ne1.true;
      listed = w.listed;
      ends = λ k. c.if-record-ne1.true (ap (λ (x : Node). x.kind) own ∙ k);
    }

pub loop-questions-preserved : goal.loop-questions-preserved
loop-questions-preserved g c nodes given known inside =
    let w = c.loop-questions.invariant nodes given known inside in
    let own = given.own _ w.listed c.node_at-record.result (search rules) in
    goes_on _ _ _ _ _ _ own c.if-record-ne1.false known _ c.child_of-node.ensures _ _ w

pub returns : goal.returns
returns g c nodes given known inside =
    let w = c.loop-questions.invariant nodes given known inside in
    absurd (omega (arith, w.listed, w.further, c.loop-questions-test.false))
