-- `known::root_table_known` meets its contract. A product of 32-bit numbers is a number of 64 bits.
use mathlib.Core.Path.{sym, ◌∙◌}
use Prim.Native.Nat.{◌<◌}
use Rattle.std.proofs.Common.{rules}
use Rattle.definitions.specs.BookLines.{root_count}
use Rattle.definitions.specs.ForeignTables.{root_table_known, holds_only}
use Rattle.definitions.proofs.Laws.Lists.Products.{product-fits}
use Rattle.tables.specs.Laws.TableTests.{holds-taken, root-count}
use Rattle.tables.proofs.known.root_table_known.Goals as goal

pub overflow_mul-roots : goal.overflow_mul-roots
overflow_mul-roots c =
    let phones : c.wide.result < 4294967296 = search rules in
    let states : c.wide-2.result < 4294967296 = search rules in
    record { fits = product-fits phones states }

pub roots_known-requires : goal.roots_known-requires
unfolding holds_only
roots_known-requires c =
    sym (root-count _ c.wide.ensures c.wide-2.ensures)
    ∙ holds-taken _ _ (sym c.holds_only.ensures ∙ c.if-holds_only.true)

pub returns-then-holds_only : goal.returns-then-holds_only
unfolding root_table_known root_count holds_only
returns-then-holds_only c = search rules

pub returns-else-holds_only : goal.returns-else-holds_only
unfolding root_table_known root_count holds_only
returns-else-holds_only c = search rules
