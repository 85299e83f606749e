-- Fault 18 is exact: the tests for foreign arcs and for foreign tables refuse what reading leaves from no text
-- of bytes, and nothing else. What is known is written as text, and reading that text leaves it again.
use Rattle.std.specs.Prelude.{◌≡◌, ◌↔◌, List, ℕ, T, ltb, length}
use Rattle.std.proofs.Common.{ap, ap₂, ◌∙◌, subst}
use Rattle.definitions.specs.declared.Counts.{Counts}
use Rattle.definitions.specs.declared.Header.{Header}
use Rattle.definitions.specs.Lists.{every}
use Rattle.definitions.specs.Faults.{answered}
use Rattle.definitions.specs.BookLines.{BookLine, header_of}
use Rattle.definitions.specs.BookReading.{Lent, read_book}
use Rattle.definitions.specs.Tables.{Tables, lent_of, tables_of, tables_left, Contents, tables_contents}
use Rattle.definitions.specs.ForeignTables.{tables_known}
use Rattle.definitions.specs.NetworkText.{network_known, Leaves}
use Rattle.definitions.specs.BookText.{lines_of_book, text_of_book}
use Rattle.definitions.proofs.Laws.Text.WrittenTexts.{text-bytes}
use Rattle.definitions.proofs.Laws.Networks.NetworkTexts.{network-bytes}
use Rattle.definitions.proofs.Laws.Networks.KnownNetworks.{arcs_held}
use Rattle.definitions.proofs.Laws.Networks.RoundTrips.{text_held, known-leaves-same, leaves-known}
use Rattle.definitions.proofs.Laws.Books.AcceptedKnown.{accepted-known}
use Rattle.definitions.proofs.Laws.Books.KnownBooks.{Stated, known-stated, known-wide, tables-again}
use Rattle.definitions.proofs.Laws.Books.WrittenBooks.{book_writer}
use Rattle.definitions.proofs.Laws.Books.BookTexts.{header-again, book-read, contents-again}

-- ---- arcs

-- arcs with their counts are known exactly when some text leaves them
pub arcs-known-exactly : (counts : Counts) (words : List ℕ)
    → T (network_known counts words)
    ↔ ((text : List ℕ) × T (every (λ byte. ltb byte 256) text) × Leaves (length words) text counts words)
arcs-known-exactly counts words = (
  λ h. (
    text_held counts words,
    network-bytes counts (arcs_held counts words),
    known-leaves-same counts words h,
  ),
  λ (text, bytes, left). (leaves-known (length words) text counts words left).0,
)

-- ---- tables

-- a text that reading into tables of these lengths accepts, with this header, leaving these words
abbrev pub LeavesTables : Lent → (text : List ℕ) → Header → Tables → Type 0
LeavesTables lent text header tables =
    (lines : List BookLine) × (read_book lent text ≡ answered lines) × (header_of lines ≡ header)
    × (tables_left lent (read_book lent text) ≡ tables)

-- known tables are left by the text of the book that they hold
known-left : (header : Header) (tables : Tables) → T (tables_known header tables)
    → LeavesTables (lent_of tables) (text_of_book header (tables_contents header tables)) header tables
unfolding tables_left
known-left header tables known =
    let contents : Contents = tables_contents header tables in
    let lent : Lent = lent_of tables in
    let stated : Stated header contents = known-stated header tables known in
    let read = book-read lent header contents stated (known-wide header tables known) in (
      lines_of_book header contents,
      read,
      header-again header contents,
      ap (tables_left lent) read ∙ ap (tables_of lent) (contents-again header contents stated)
          ∙ tables-again header tables known,
    )

-- and what a text leaves is known
left-known : (header : Header) (tables : Tables) (lent : Lent) (text : List ℕ)
    → LeavesTables lent text header tables → T (tables_known header tables)
left-known header tables lent text (lines, read, stated, left) =
    subst T (ap₂ tables_known stated left) (accepted-known lent text lines read)

-- tables with their header are known exactly when some text leaves them
pub tables-known-exactly : (header : Header) (tables : Tables)
    → T (tables_known header tables)
    ↔ ((text : List ℕ) × T (every (λ byte. ltb byte 256) text)
    × LeavesTables (lent_of tables) text header tables)
unfolding text_of_book
tables-known-exactly header tables =
    let contents : Contents = tables_contents header tables in (
      λ h. (
        text_of_book header contents,
        text-bytes (book_writer (lent_of tables)) (lines_of_book header contents),
        known-left header tables h,
      ),
      λ (text, bytes, left). left-known header tables (lent_of tables) text left,
    )
