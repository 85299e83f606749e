-- The whole path theorem: demand 3 of every finished build. What it says is in specs/Demand.antt.
use Rattle.std.specs.Prelude.{◌≡◌, List, ℕ}
use Rattle.definitions.specs.Faults.{answered}
use Rattle.definitions.specs.BookLines.{BookLine, header_of}
use Rattle.definitions.specs.BookReading.{Lent, read_book}
use Rattle.definitions.specs.Tables.{Book, book_of, tables_book}
use Rattle.definitions.specs.Growing.{finished, grown_in}
use Rattle.definitions.specs.Connecting.{Network}
use Rattle.definitions.specs.Building.{Space, counts_in}
use Rattle.definitions.proofs.Demand.Main.{book-one-path, book-every-arc}
use Rattle.definitions.proofs.Demand.Assembly.{arcs-decoded, built-from, exactly-by-lines}
use Rattle.definitions.specs.Demand.{Demand3, tables_read, build_answer, arc_buffer}

-- For every text read into tables of any lengths, and every space and turn limit:
module _ (lent : Lent) (text : List ℕ) (lines : List BookLine) (space : Space) (limit : ℕ) where
  pub demand3 : read_book lent text ≡ answered lines
      → (turns : ℕ) (net : Network) → build_answer lent text lines space limit ≡ answered (finished turns net)
      → Demand3 lines (counts_in (header_of lines).states net) (arc_buffer lent text lines space limit)
  unfolding counts_in grown_in
  demand3 accepted turns net built =
      let left : Book = tables_book (header_of lines) (tables_read lent text lines space limit) in
      let arcs = arcs-decoded left space (header_of lines).states (finished turns net) (build_answer lent text lines space limit) built in
      let made = built-from lent text lines accepted space limit turns net built in
      record {
        exactly = rw arcs (exactly-by-lines lent text lines accepted space limit turns net built);
        one_path = rw arcs (book-one-path (book_of lines) net made);
        every_arc = rw arcs (book-every-arc (book_of lines) net made);
      }
