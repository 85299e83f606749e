-- One spelling of a book, whole.
--
-- "Two accepted books give the same bytes exactly when they have the same half-width, states, phones and, tree by tree,
-- the same shape, positions, member sets and models. The plain form is itself accepted and gives every phone sequence
-- the models it had." (P1) "P1's form keeps and compares the B lines." (P2)
--
-- What a reader must believe to read it, each definition in the documents' words:
--   read_book (BookReading.antt)                    reading a text into tables of some lengths
--   contents_of (Tables.antt)                       what the lines of a book state
--   Tree, trees_of, SameBook (PlainForm.antt)       trees without numbers, where R lines give them, and when two books
--                                                  are the same: these trees, and the plain phones of the B lines
--   plain_lines, plain_text (PlainForm.antt)         the plain form, written by the writer of BookText.antt
--   trees_give (TreesGive.antt)                     what the trees give, from the lines alone, as in demand 3
use Rattle.std.specs.Prelude.{◌≡◌, ◌↔◌, List, ℕ, ◌≤◌, length}
use Rattle.definitions.specs.Faults.{answered}
use Rattle.definitions.specs.BookLines.{BookLine, header_of}
use Rattle.definitions.specs.BookReading.{Lent, read_book}
use Rattle.definitions.specs.Tables.{Contents, contents_of}
use Rattle.definitions.specs.TreesGive.{trees_give}
use Rattle.definitions.specs.PlainForm.{SameBook, plain_contents, plain_lines, plain_text}
use Rattle.definitions.proofs.Spelling.PlainStated.{accepted-stated}
use Rattle.definitions.proofs.Spelling.SameTexts.{same-text-same-book, same-book-same-text, plain-same}
use Rattle.definitions.proofs.Spelling.PlainModels.{plain-accepted, plain-again, plain-models}
use Rattle.definitions.proofs.Spelling.PlainLengths.{plain-no-longer}

-- Two accepted books, read into tables of any lengths: "the same bytes exactly when"
pub one-spelling : (lent lent' : Lent) (text text' : List ℕ) (lines lines' : List BookLine)
    → read_book lent text ≡ answered lines → read_book lent' text' ≡ answered lines'
    → (plain_text (contents_of lines) ≡ plain_text (contents_of lines'))
    ↔ SameBook (contents_of lines) (contents_of lines')
one-spelling lent lent' text text' lines lines' e e' = (
  same-text-same-book (header_of lines) (header_of lines') (contents_of lines) (contents_of lines')
      (accepted-stated lent text lines e) (accepted-stated lent' text' lines' e'),
  same-book-same-text (contents_of lines) (contents_of lines'),
)

-- The plain form of a book of these lines, which were read from a text into tables of these lengths:
pub record PlainForm (lent : Lent) (text : List ℕ) (lines : List BookLine) : Type 0 where
  -- "The plain form is itself accepted", into the very tables of the book;
  pub accepted : read_book lent (plain_text (contents_of lines)) ≡ answered (plain_lines (contents_of lines))
  -- it is the same book,
  pub same : SameBook (contents_of (plain_lines (contents_of lines))) (contents_of lines)
  -- "and gives every phone sequence the models it had";
  pub models : (S : List ℕ) → trees_give (plain_lines (contents_of lines)) S ≡ trees_give lines S
  -- it is its own plain form;
  pub again : plain_text (contents_of (plain_lines (contents_of lines))) ≡ plain_text (contents_of lines)
  -- and a buffer as long as the text that was read is not too short for it.
  pub no_longer : length (plain_text (contents_of lines)) ≤ length text

pub plain_form : (lent : Lent) (text : List ℕ) (lines : List BookLine) → read_book lent text ≡ answered lines
    → PlainForm lent text lines
plain_form lent text lines e =
    let contents : Contents = contents_of lines in
    let is : contents_of (plain_lines contents) ≡ plain_contents contents = plain-again lent text lines e in
    let same = plain-same (header_of lines) contents (accepted-stated lent text lines e) in
    record {
      accepted = plain-accepted lent text lines e;
      same = rw is same;
      models = plain-models lent text lines e;
      again = rw is (same-book-same-text (plain_contents contents) contents same);
      no_longer = plain-no-longer lent text lines e;
    }
