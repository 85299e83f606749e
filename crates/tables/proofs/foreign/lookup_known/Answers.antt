-- `foreign::lookup_known` meets its contract: the tests in another order.
use Rattle.tables.specs.Laws.LookupOrder.{lookup-order}
use Rattle.std.proofs.Common.{rules}
use Rattle.tables.proofs.foreign.lookup_known.Goals as goal

pub returns-then-records_known : goal.returns-then-records_known
returns-then-records_known c = rw lookup-order (search rules)

pub returns-else-records_known : goal.returns-else-records_known
returns-else-records_known c = rw lookup-order (search rules)
