-- The roots in force of two lent tables, and what the code that finds them asks of these: that they are known.
use Rattle.std.specs.Prelude.{List, [], ℕ, T, take}
use Rattle.definitions.specs.declared.Header.{Header}
use Rattle.definitions.specs.Tables.{tables_contents, roots_in_force}
use Rattle.definitions.specs.ForeignTables.{header_known, plain_table_known, root_table_known}
use Rattle.tables.specs.Lending.{lent_tables}

-- one for each phone and state, in R order
abbrev pub forced_roots : Header → (roots plains : List ℕ) → List ℕ
forced_roots header roots plains = roots_in_force (tables_contents header (lent_tables [] [] roots plains))

pub record Forceable (header : Header) (roots plains : List ℕ) : Type 0 where
  pub header-known : T (header_known header)
  pub plains-known : T (plain_table_known header plains)
  pub roots-known : T (root_table_known header (take header.phones plains) roots)
