-- `nodes::nodes_known` meets its contract. The loop's invariant: of any records that are given, those before `node` are
-- known.
use mathlib.Core.List.{List}
use Rattle.definitions.specs.declared.Node.{Node}
use Rattle.tables.specs.Records.{Gives}
use Rattle.tables.specs.Laws.TableTests.{Judged}
use Rattle.tables.proofs.nodes.nodes_known.Given as goal

abbrev pub invariant-loop-node : goal.invariant-loop-node
invariant-loop-node g l =
    (nodes : List Node) → Gives (goal.F-post g l.node_at) l.header.nodes nodes → Judged l.header nodes l.node
