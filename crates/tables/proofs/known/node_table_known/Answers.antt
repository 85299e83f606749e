-- `known::node_table_known` meets its contract.
use Rattle.std.proofs.Common.{rules}
use Rattle.definitions.specs.ForeignTables.{node_table_known, holds_only}
use Rattle.tables.specs.Laws.TableTests.{words-give}
use Rattle.tables.proofs.known.node_table_known.Goals as goal

pub returns-then-holds_only : goal.returns-then-holds_only
unfolding node_table_known holds_only
returns-then-holds_only c =
    let given = c.nodes_known.ensures _ (words-give c.args.header c.args.words.now (λ node r k. search rules)) in
    search rules

pub returns-else-holds_only : goal.returns-else-holds_only
unfolding node_table_known holds_only
returns-else-holds_only c = search rules
