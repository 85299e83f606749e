-- The plain form of an accepted book: it is read into the same tables, its lines state its contents, and it gives every
-- phone sequence the models that the book gives, after as many questions. What is given is meant as demand 3 means it,
-- by the lines.
use Rattle.std.specs.Prelude.{◌≡◌, List, false, ℕ}
use Rattle.std.proofs.Math.Path.{sym, ap}
use Rattle.std.proofs.Common.{◌∙◌}
use Rattle.std.proofs.Math.Option.{none, some}
use Rattle.std.proofs.Math.Dec.{T}
use Rattle.definitions.specs.declared.Header.{Header}
use Rattle.definitions.specs.Faults.{answered, judge}
use Rattle.definitions.specs.Lists.{every}
use Rattle.definitions.specs.BookLines.{BookLine, header_of, is_phone}
use Rattle.definitions.specs.BookReading.{Lent, read_book}
use Rattle.definitions.specs.Tables.{Contents, contents_of, book_in, book_of, tables_left}
use Rattle.definitions.specs.ForeignTables.{tables_known}
use Rattle.definitions.specs.TreesGive.{trees_give}
use Rattle.definitions.specs.Transcription.{Transcribed, transcribed, is_utterance, transcribe}
use Rattle.definitions.specs.PlainForm.{numbered, plain_contents, header_for, plain_lines, plain_text}
use Rattle.definitions.proofs.Laws.Lists.Tests.{by-test, if-true}
use Rattle.definitions.proofs.Laws.Books.Books.{accepted-book}
use Rattle.definitions.proofs.Laws.Books.AcceptedKnown.{accepted-wide, accepted-known}
use Rattle.definitions.proofs.Laws.Books.KnownBooks.{Stated}
use Rattle.definitions.proofs.Laws.Books.BookTexts.{header-again, contents-again, book-read}
use Rattle.definitions.proofs.Laws.Trees.ModelsAlong.{models-along}
use Rattle.definitions.proofs.Laws.Trees.Utterances.{utterance-phones}
use Rattle.definitions.proofs.Spelling.PlainStated.{accepted-stated, plain-stated, plain-wide}
use Rattle.definitions.proofs.Spelling.TreeModels.{given-by-trees}
use Rattle.definitions.proofs.Spelling.SameTexts.{plain-same}

-- a sequence with a phone out of range is given nothing
none-given : (lines : List BookLine) (S : List ℕ) → every (is_phone (header_of lines).phones) S ≡ false
    → trees_give lines S ≡ none
unfolding trees_give
none-given lines S f = rw f

module _ (lent : Lent) (text : List ℕ) (lines : List BookLine) (e : read_book lent text ≡ answered lines) where
  abbrev contents : Contents
  contents = contents_of lines

  abbrev plain : Contents
  plain = plain_contents contents

  stated : Stated (header_of lines) contents
  stated = accepted-stated lent text lines e

  stays : Stated (header_for plain) plain
  stays = plain-stated (header_of lines) contents stated

  pub plain-accepted : read_book lent (plain_text contents) ≡ answered (plain_lines contents)
  unfolding plain_text plain_lines
  plain-accepted =
      book-read lent (header_for plain) plain stays
      (plain-wide (header_of lines) contents stated lent (accepted-wide lent text lines e))

  pub plain-again : contents_of (plain_lines contents) ≡ plain
  unfolding plain_lines
  plain-again = contents-again (header_for plain) plain stays

  -- both have the same phones, and the same models where these are in range
  same-phones : (header_of (plain_lines contents)).phones ≡ (header_of lines).phones
  unfolding contents_of plain_contents numbered plain_lines header_for
  same-phones = ap (λ (header : Header). header.phones) (header-again (header_for plain) plain)

  same-transcribed : (S : List ℕ) → T (every (is_phone (header_of lines).phones) S)
      → transcribed (book_of (plain_lines contents)) S ≡ transcribed (book_of lines) S
  unfolding book_of contents_of plain_contents numbered
  same-transcribed S h =
      ap (λ (c : Contents). transcribed (book_in c) S) plain-again
      ∙ given-by-trees (header_for plain) plain stays S h
      ∙ rw (plain-same (header_of lines) contents stated).trees
      (sym (given-by-trees (header_of lines) contents stated S h))

  pub plain-models : (S : List ℕ) → trees_give (plain_lines contents) S ≡ trees_give lines S
  unfolding transcribed
  plain-models S =
      by-test (every (is_phone (header_of lines).phones) S)
      (λ t.
      let in-range : T (every (is_phone (header_of lines).phones) S) = rw t tt in
      models-along lent (plain_text contents) (plain_lines contents) plain-accepted S (rw same-phones in-range)
      ∙ ap (λ (given : Transcribed). some given.models) (same-transcribed S in-range)
      ∙ sym (models-along lent text lines e S in-range))
      (λ f. none-given (plain_lines contents) S (rw same-phones f) ∙ sym (none-given lines S f))

  -- and so the entry transcribes by its tables what it transcribes by the book's
  pub plain-transcribed : (S : List ℕ) (size : ℕ)
      → transcribe (header_of (plain_lines contents)) (tables_left lent (read_book lent (plain_text contents))) S size
      ≡ transcribe (header_of lines) (tables_left lent (read_book lent text)) S size
  unfolding transcribe judge
  plain-transcribed S size =
      let known = accepted-known lent text lines e in
      let known-again = accepted-known lent (plain_text contents) (plain_lines contents) plain-accepted in
      let books = accepted-book lent text lines e in
      let books-again = accepted-book lent (plain_text contents) (plain_lines contents) plain-accepted in
      if-true (tables_known _ _) _ _ known-again
      ∙ by-test (is_utterance (header_of lines).phones S)
      (λ t. rw (books, books-again, same-transcribed S (utterance-phones _ S (rw t tt)), same-phones, t))
      (λ f. rw (books-again, same-phones, f))
      ∙ sym (if-true (tables_known _ _) _ _ known)
