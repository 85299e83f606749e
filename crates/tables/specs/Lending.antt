-- The four lent slices of a contract: as tables, and their lengths.
use Rattle.std.specs.Prelude.{List, ℕ}
use Rattle.definitions.specs.BookReading.{Lent}
use Rattle.definitions.specs.Tables.{Tables, lent_of}

abbrev pub lent_tables : (nodes classes roots plains : List ℕ) → Tables
lent_tables nodes classes roots plains =
    record { nodes = nodes; classes = classes; roots = roots; plains = plains }

abbrev pub lengths_of : (nodes classes roots plains : List ℕ) → Lent
lengths_of nodes classes roots plains = lent_of (lent_tables nodes classes roots plains)
