-- The tables that a build was lent, which are cleared where it is refused.
use Rattle.definitions.specs.Faults.{Outcome, answered, refused}
use Rattle.definitions.specs.Tables.{Tables, lent_of, no_tables}
use Rattle.definitions.specs.Connecting.{Built}

unfoldable pub tables_kept : Tables → Outcome Built → Tables
tables_kept tables (answered built) = tables
tables_kept tables (refused r) = no_tables (lent_of tables)
