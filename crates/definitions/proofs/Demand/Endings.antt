-- Beside demand 3: in the network of an accepted book that a build finished no arc leaves FINAL, so an
-- accepting path enters it once, at its end. Demand 3 does not say it: a network may meet its three claims and
-- have an arc that leads on from FINAL. Whoever goes on from what paths carry to the paths of another network
-- needs both.
use Rattle.std.specs.Prelude.{◌≡◌, List, ℕ, T}
use Rattle.definitions.specs.Faults.{answered}
use Rattle.definitions.specs.BookLines.{BookLine, header_of}
use Rattle.definitions.specs.BookReading.{Lent, read_book}
use Rattle.definitions.specs.Tables.{Book, book_of, tables_book}
use Rattle.definitions.specs.Arcs.{arcs_in}
use Rattle.definitions.specs.Growing.{finished, grown_in}
use Rattle.definitions.specs.Connecting.{Network}
use Rattle.definitions.specs.Building.{Space, counts_in}
use Rattle.definitions.specs.Paths.{final_last}
use Rattle.definitions.proofs.Demand.Main.{book-final-last}
use Rattle.definitions.proofs.Demand.Assembly.{arcs-decoded, built-from}
use Rattle.definitions.specs.Demand.{tables_read, build_answer, arc_buffer}

pub finished-final : (lent : Lent) (text : List ℕ) (lines : List BookLine) (space : Space) (limit : ℕ)
    → read_book lent text ≡ answered lines
    → (turns : ℕ) (net : Network) → build_answer lent text lines space limit ≡ answered (finished turns net)
    → T (final_last
    (arcs_in (counts_in (header_of lines).states net).arcs (arc_buffer lent text lines space limit)))
unfolding counts_in grown_in
finished-final lent text lines space limit accepted turns net built =
    let left : Book = tables_book (header_of lines) (tables_read lent text lines space limit) in
    let arcs = arcs-decoded left space (header_of lines).states (finished turns net) _ built in
    let made = built-from lent text lines accepted space limit turns net built in
    rw arcs (book-final-last (book_of lines) net made)
