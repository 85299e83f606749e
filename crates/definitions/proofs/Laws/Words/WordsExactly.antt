-- Fault 18 is exact for tables of words: the test for foreign word tables refuses what reading leaves from no text of
-- bytes, and nothing else. A known table's words are written as text, and reading that text leaves the table again.
use Rattle.std.specs.Prelude.{◌≡◌, ◌↔◌, List, [], ◌∷◌, true, ltb}
use Rattle.std.proofs.Common.{sym, ap₂, ◌∙◌, subst, arith}
use Rattle.std.proofs.Math.Path.{ap}
use Rattle.std.proofs.Math.Bool.{Bool}
use Prim.Native.Nat.{ℕ, ◌/◌, ◌≤◌, ◌<◌}
use Rattle.std.proofs.Math.Dec.{T, leb, le→leb}
use Rattle.std.proofs.Math.ListN.{length}
use Rattle.definitions.specs.declared.Fault.TheVariants.{Vocabulary}
use Rattle.definitions.specs.Lists.{every}
use Rattle.definitions.specs.Faults.{answered, ◌unless◌}
use Rattle.definitions.specs.WordBooks.{WordLine, last_line, word_count, word_size, word_kind, read_words, words_left}
use Rattle.definitions.specs.WordBooks.{words_in, words_known, LeavesWords}
use Rattle.definitions.proofs.Laws.Lists.Tests.{T_and}
use Rattle.definitions.proofs.Laws.Text.Judging.{judge-passing}
use Rattle.definitions.proofs.Laws.Text.WrittenTexts.{written, text-bytes, text-taken}
use Rattle.definitions.proofs.Laws.Words.WordLines.{word_writer}
use Rattle.definitions.proofs.Laws.Words.WordTables.{known-parts, held-length, held-room, held-words, held-again}
use Rattle.definitions.proofs.Laws.Words.WordTables.{accepted-words-known}
use Rattle.definitions.proofs.Laws.Words.WrittenWords.{word_lines, lines-count, lines-words, lines_next}

-- lines that say some word are some lines
some-lines : (lines : List WordLine) → 1 ≤ word_count lines → 0 < length lines
unfolding word_count last_line
some-lines [] h = absurd (omega arith)
some-lines (line ∷ lines) h = omega arith

-- known words are left by their text
module _ (count : ℕ) (table : List ℕ) (known : T (words_known count table)) where
  abbrev lines : List WordLine
  lines = word_lines (words_in count table)

  counted : word_count lines ≡ count
  counted = lines-count (words_in count table) (held-words count table known) ∙ held-length count table

  lines-read : read_words (length table) (written (word_writer (length table)) lines) ≡ answered lines
  unfolding read_words word_kind every
  lines-read =
      let lent : ℕ = length table in
      let ((some_word, few), _, _) = (known-parts count table).0 known in
      let room : Bool = leb (word_count lines) (lent / word_size) in
      let wide : T room =
      le→leb (word_count lines) (lent / word_size) (omega (arith, counted, held-room count table known)) in
      text-taken (word_writer lent) lines (some-lines lines (rw counted some_word))
      (lines_next (words_in count table) (held-words count table known) lent (rw held-length few)) tt
      ∙ judge-passing 0 (Vocabulary unless room ∷ []) (answered lines) ((T_and room true).1 (wide, tt))

  known-leaves : LeavesWords (length table) (written (word_writer (length table)) lines) count table
  unfolding words_left
  known-leaves =
      let said = lines-words (words_in count table) (held-words count table known) in (
        lines,
        lines-read,
        counted,
        ap (words_left (length table)) lines-read ∙ rw said (held-again count table known),
      )

-- and what a text leaves is known
leaves-known : (lent : ℕ) (text : List ℕ) (count : ℕ) (table : List ℕ) → LeavesWords lent text count table
    → T (words_known count table)
leaves-known lent text count table (lines, read, stated, left) =
    subst T (ap₂ words_known stated (ap (words_left lent) (sym read) ∙ left)) (accepted-words-known lent text lines read)

-- words with their count are known exactly when some text leaves them
pub words-known-exactly : (count : ℕ) (table : List ℕ)
    → T (words_known count table)
    ↔ ((text : List ℕ) × T (every (λ byte. ltb byte 256) text) × LeavesWords (length table) text count table)
words-known-exactly count table = (
  λ h. (
    written (word_writer (length table)) (word_lines (words_in count table)),
    text-bytes (word_writer (length table)) (word_lines (words_in count table)),
    known-leaves count table h,
  ),
  λ (text, bytes, left). leaves-known (length table) text count table left,
)
