-- `nodes::nodes_known` meets its contract. The loop's invariant: of any records that are given, those before `node` are
-- known.
use Rattle.std.proofs.Common.{rules}
use Rattle.std.proofs.lemmas.Bool.{not_from_true, not_from_false}
use Rattle.definitions.proofs.Laws.Lists.Tests.{held, failed}
use Rattle.tables.specs.Laws.TableTests.{judged-start, judged-more, judged-stop, judged-end}
use Rattle.tables.proofs.nodes.nodes_known.Goals as goal

pub loop-node-init : goal.loop-node-init
loop-node-init g c nodes given = judged-start _ _

pub returns-then-not-record_known : goal.returns-then-not-record_known
returns-then-not-record_known g c nodes given =
    judged-stop given (c.loop-node.invariant nodes given) (search rules) (search rules)
    (failed c.record_known.ensures (not_from_false _ c.if-not-record_known.true))

pub loop-node-preserved : goal.loop-node-preserved
loop-node-preserved g c nodes given =
    judged-more given (c.loop-node.invariant nodes given) (search rules) (search rules)
    (held c.record_known.ensures (not_from_true _ c.if-not-record_known.false))

pub returns : goal.returns
returns g c nodes given = judged-end given (c.loop-node.invariant nodes given) (search rules)
