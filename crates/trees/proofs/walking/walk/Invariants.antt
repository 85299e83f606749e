-- `walking::walk` meets its contract. The loop's invariant: of any known records that are given, the steps that are left
-- reach the leaf from `node`, which is no less than the questions met, one a step. So they never run out.
use mathlib.Core.List.{List}
use Prim.Native.Nat.{◌<◌}
use lib.Dec.{T}
use Rattle.definitions.specs.declared.Node.{Node}
use Rattle.definitions.specs.ForeignTables.{nodes_known}
use Rattle.tables.specs.Records.{Gives}
use Rattle.trees.specs.Laws.Walking.{Walking}
use Rattle.trees.proofs.walking.walk.Given as goal

abbrev pub invariant-loop-questions : goal.invariant-loop-questions
invariant-loop-questions g l =
    (nodes : List Node) → Gives (goal.F-post g l.node_at) l.header.nodes nodes → T (nodes_known l.header 0 nodes)
    → l.fn.root < l.header.nodes → Walking l.header nodes l.classes l.context l.fn.root l.node l.questions
