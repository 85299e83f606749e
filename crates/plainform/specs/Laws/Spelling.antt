-- One spelling of a book, of the entries: a text is read, and what was read is written. "Two accepted books give the
-- same bytes exactly when they have the same half-width, states, phones and, tree by tree, the same shape, positions,
-- member sets and models"; the form "keeps and compares the B lines". And what was written is read with these trees and
-- plain phones. The premises are what the contracts of `read` and `write` ensure of their answers and buffers.
use Rattle.std.specs.Prelude.{if◌then◌else◌, ◌≡◌, refl, ◌↔◌, List, Bool, true, false, ℕ, ◌≤◌, T, leb, length, take, Result, Ok}
use Rattle.std.proofs.Common.{sym, ap, ◌∙◌, subst, arith, le→leb}
use Rattle.definitions.specs.declared.Header.{Header}
use Rattle.definitions.specs.declared.Refusal.{Refusal}
use Rattle.definitions.specs.declared.Fault.TheVariants.{Foreign, Short}
use Rattle.definitions.specs.Faults.{Outcome, answered, refuse, judge}
use Rattle.definitions.specs.BookLines.{BookLine, header_of}
use Rattle.definitions.specs.BookReading.{Lent, read_book}
use Rattle.definitions.specs.Tables.{Tables, tables_left, contents_of, tables_contents}
use Rattle.definitions.specs.ForeignTables.{tables_known}
use Rattle.definitions.specs.Said.{result_of}
use Rattle.definitions.specs.Transcription.{transcribe}
use Rattle.definitions.specs.PlainForm.{SameBook, plain_lines, plain_text, write_plain}
use Rattle.definitions.proofs.Laws.Lists.Tests.{if-true}
use Rattle.definitions.proofs.Laws.Text.Judging.{refused-not-answered}
use Rattle.definitions.proofs.Laws.Results.{answered-ok}
use Rattle.definitions.proofs.Laws.Books.Books.{accepted-contents}
use Rattle.definitions.proofs.Laws.Books.AcceptedKnown.{accepted-known}
use Rattle.definitions.proofs.Spelling.PlainModels.{plain-accepted, plain-transcribed}
use Rattle.definitions.proofs.Spelling.OneSpelling.{one-spelling, plain_form}
use Rattle.writing.specs.Answers.{TextLeft}
use Rattle.writing.specs.Laws.Answering.{bytes-written}

-- ---- what the entries say

-- what `read` says and leaves, where it was lent tables of these lengths
pub record ReadBy (lent : Lent) (text : List ℕ) (answer : Result Header Refusal) (tables : Tables) : Type 0 where
  pub says : answer ≡ result_of header_of (read_book lent text)
  pub leaves : tables ≡ tables_left lent (read_book lent text)

-- a run: a text is read and accepted, and the tables are written into a buffer that is long enough
pub record Run (lent : Lent) (text : List ℕ) (header : Header) (tables : Tables) (count : ℕ) (after : List ℕ)
    : Type 0
  where
    pub read : ReadBy lent text (Ok header) tables
    pub size : ℕ
    pub wrote : TextLeft (write_plain header tables size) size (Ok count) after

-- where a header is answered, lines were read, and it is theirs
header_read : {o : Outcome (List BookLine)} {header : Header} → Ok header ≡ result_of header_of o
    → (lines : List BookLine) × (o ≡ answered lines) × (header_of lines ≡ header)
header_read {o} {header} e = let h = answered-ok header_of o header (sym e) in (h.answer, h.was, h.said)

-- what is written is the plain form
plain-answered : (header : Header) (tables : Tables) (size : ℕ) (text : List ℕ)
    → write_plain header tables size ≡ answered text → plain_text (tables_contents header tables) ≡ text
unfolding write_plain judge
plain-answered header tables size text e = go (tables_known header tables) (leb (length own) size) e
  where
    own : List ℕ
    own = plain_text (tables_contents header tables)

    go : (known room : Bool)
        → ◌≡◌ {A = Outcome (List ℕ)}
        (if known then (if room then answered own else refuse Short 0) else refuse Foreign 0) (answered text)
        → own ≡ text
    go true true q = cc
    go true false q = absurd (refused-not-answered _ Short 0 text refl q)
    go false room q = absurd (refused-not-answered _ Foreign 0 text refl q)

-- what a run found and wrote: a book's lines, and the plain form of what they state
record Ran (lent : Lent) (text : List ℕ) (header : Header) (tables : Tables) (bytes : List ℕ) : Type 0 where
  lines : List BookLine
  accepted : read_book lent text ≡ answered lines
  own_header : header_of lines ≡ header
  own_tables : tables ≡ tables_left lent (read_book lent text)
  own_contents : tables_contents header tables ≡ contents_of lines
  plain : plain_text (contents_of lines) ≡ bytes

module _ {lent : Lent} {text : List ℕ} {header : Header} {tables : Tables} {count : ℕ} {after : List ℕ}
    (run : Run lent text header tables count after) where
  ran : Ran lent text header tables (take count after)
  ran =
      let (lines, accepted, own) = header_read run.read.says in
      let made = bytes-written _ run.size _ count after run.wrote refl in
      let contents : tables_contents header tables ≡ contents_of lines =
      ap (tables_contents header) run.read.leaves
      ∙ ap (λ (h : Header). tables_contents h (tables_left lent (read_book lent text))) (sym own)
      ∙ accepted-contents lent text lines accepted in
      record {
        lines = lines;
        accepted = accepted;
        own_header = own;
        own_tables = run.read.leaves;
        own_contents = contents;
        plain =
            ap plain_text (sym contents) ∙ plain-answered header tables run.size _ made.answers
            ∙ sym made.bytes;
      }

-- ---- two books

-- the bytes of two runs are the same exactly when their tables hold the same book
pub same-bytes-exactly : {lent lent' : Lent} {text text' : List ℕ} {header header' : Header} {tables tables' : Tables}
    {count count' : ℕ} {after after' : List ℕ}
    → Run lent text header tables count after → Run lent' text' header' tables' count' after'
    → (take count after ≡ take count' after')
    ↔ SameBook (tables_contents header tables) (tables_contents header' tables')
same-bytes-exactly {lent} {lent'} {text} {text'} run run' =
    let a = ran run in
    let b = ran run' in
    rw (a.own_contents, b.own_contents, ← a.plain, ← b.plain)
    (one-spelling lent lent' text text' a.lines b.lines a.accepted b.accepted)

-- ---- room

-- what was read is written, where the buffer is as long as the text or longer
plain-room : (lent : Lent) (text : List ℕ) (lines : List BookLine) → read_book lent text ≡ answered lines
    → {tables : Tables} (size : ℕ) → tables ≡ tables_left lent (read_book lent text) → length text ≤ size
    → write_plain (header_of lines) tables size ≡ answered (plain_text (tables_contents (header_of lines) tables))
unfolding write_plain judge
plain-room lent text lines e {tables} size own room =
    let known : T (tables_known (header_of lines) tables) = rw own (accepted-known lent text lines e) in
    let contents : tables_contents (header_of lines) tables ≡ contents_of lines =
    ap (tables_contents (header_of lines)) own ∙ accepted-contents lent text lines e in
    let fits : length (plain_text (tables_contents (header_of lines) tables)) ≤ size =
    rw contents (omega (arith, (plain_form lent text lines e).no_longer)) in
    if-true (tables_known (header_of lines) tables) _ _ known ∙ if-true (leb _ size) _ _ (le→leb _ size fits)

pub read-then-write : {lent : Lent} {text : List ℕ} {header : Header} {tables : Tables}
    → ReadBy lent text (Ok header) tables → {size : ℕ} {answer : Result ℕ Refusal} {after : List ℕ}
    → length text ≤ size → TextLeft (write_plain header tables size) size answer after
    → (count : ℕ) × (answer ≡ Ok count)
unfolding result_of
read-then-write {lent} {text} {header} {tables} read {size} {answer} {after} room (says, leaves) =
    let (lines, accepted, own) = header_read read.says in
    let outcome = subst (λ (h : Header). write_plain h tables size ≡ answered (plain_text (tables_contents h tables))) own
    (plain-room lent text lines accepted size read.leaves room) in
    (length (plain_text (tables_contents header tables)), says ∙ rw (outcome, result_of))

-- ---- a book written and read again

-- what `read` makes of the bytes that were written, in tables of the lengths that the book was read into
pub record ReadAgain (header : Header) (tables : Tables) (answer : Result Header Refusal) (tables' : Tables) : Type 0 where
  pub header' : Header
  pub accepted : answer ≡ Ok header'
  -- the same trees and plain phones,
  pub same : SameBook (tables_contents header' tables') (tables_contents header tables)
  -- so every phone sequence is transcribed as it was
  pub transcribes : (S : List ℕ) (size : ℕ) → transcribe header' tables' S size ≡ transcribe header tables S size

again-read : (lent : Lent) (text : List ℕ) (lines : List BookLine) → read_book lent text ≡ answered lines
    → {tables tables' : Tables} {bytes : List ℕ} {answer : Result Header Refusal}
    → tables ≡ tables_left lent (read_book lent text) → plain_text (contents_of lines) ≡ bytes
    → ReadBy lent bytes answer tables' → ReadAgain (header_of lines) tables answer tables'
unfolding result_of
again-read lent text lines e own plain again =
    let contents = contents_of lines in
    let read = plain-accepted lent text lines e in
    record {
      header' = header_of (plain_lines contents);
      accepted = again.says ∙ rw (← plain, read, result_of);
      same =
          rw (
            again.leaves,
            ← plain,
            own,
            accepted-contents lent text lines e,
            accepted-contents lent (plain_text contents) (plain_lines contents) read,
          ) (plain_form lent text lines e).same;
      transcribes = λ S size. rw (again.leaves, ← plain, own) (plain-transcribed lent text lines e S size);
    }

pub write-then-read : {lent : Lent} {text : List ℕ} {header : Header} {tables : Tables} {count : ℕ} {after : List ℕ}
    → Run lent text header tables count after → {answer : Result Header Refusal} {tables' : Tables}
    → ReadBy lent (take count after) answer tables' → ReadAgain header tables answer tables'
write-then-read {lent} {text} {header} {tables} run {answer} {tables'} again =
    let a = ran run in
    subst (λ (h : Header). ReadAgain h tables answer tables') a.own_header
    (again-read lent text a.lines a.accepted a.own_tables a.plain again)
