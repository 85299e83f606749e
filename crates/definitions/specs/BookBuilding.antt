-- A book read and its network built, "from the tables as reading left them", and what every buffer holds
-- afterwards.
use Rattle.std.specs.Prelude.{List, ℕ}
use Rattle.definitions.specs.Faults.{Outcome, answered, refused, and_then}
use Rattle.definitions.specs.BookLines.{BookLine, header_of}
use Rattle.definitions.specs.BookReading.{Lent, read_book}
use Rattle.definitions.specs.Tables.{Book, Tables, tables_left, no_tables, tables_book}
use Rattle.definitions.specs.Connecting.{Built}
use Rattle.definitions.specs.Building.{Space, build, network_in, Buffers, buffers_of, no_buffers}

-- the lines of the book, and what was built from them
pub record BookBuilt : Type 0 where
  pub lines : List BookLine
  pub built : Built

-- the build from the tables as reading left them
unfoldable pub build_read : Lent → Space → (limit : ℕ) → List BookLine → Outcome BookBuilt
build_read lent space limit lines =
    and_then (build (header_of lines) (tables_left lent (answered lines)) space limit)
    (λ built. answered (record { lines = lines; built = built }))

-- the refusal of reading, or else the answer of the build
unfoldable pub build_book : Lent → Space → (limit : ℕ) → (text : List ℕ) → Outcome BookBuilt
build_book lent space limit text = and_then (read_book lent text) (build_read lent space limit)

-- "A refusal returns .. every word of every output buffer 0": also the tables, where the build is refused
unfoldable pub tables_after : Lent → Outcome BookBuilt → Tables
tables_after lent (answered b) = tables_left lent (answered b.lines)
tables_after lent (refused r) = no_tables lent

unfoldable pub buffers_after : Lent → Space → Outcome BookBuilt → Buffers
buffers_after lent space (answered b) =
    let book : Book = tables_book (header_of b.lines) (tables_left lent (answered b.lines)) in
    buffers_of book space (network_in b.built)
buffers_after lent space (refused r) = no_buffers space
