-- What becomes of one line and what is judged after the last, by the last line; what the steps of reading leave in the
-- lent table.
use Rattle.std.specs.Prelude.{if◌then◌else◌, ◌≡◌, List, [], ◌∷◌, false, ℕ, ◌/◌, leb, length, Result, Ok, Err}
use Rattle.definitions.specs.declared.Fault.{Fault}
use Rattle.definitions.specs.declared.Fault.TheVariants.{Range, Order, Vocabulary}
use Rattle.definitions.specs.declared.Refusal.{Refusal}
use Rattle.definitions.specs.Faults.{answered, Test, ◌unless◌}
use Rattle.definitions.specs.Forms.{word_forms}
use Rattle.definitions.specs.Lines.{Line, in_fixed_ranges}
use Rattle.definitions.specs.Lists.{cleared}
use Rattle.definitions.specs.WordBooks.{WordLine, word_line, comes_next, word_size, read_words, words_left}
use Rattle.lines.specs.Judging.{Verdict, verdict_by, taken_by}
use Rattle.words.specs.Entries.{entry_line, entry_of}
use Rattle.words.specs.Storing.{words_after}
use Rattle.words.specs.declared.Entry.{Entry}

-- the tests of a line and of what it says, in their order
unfoldable pub tests_in : (last : WordLine) → Line → WordLine → List Test
tests_in last line said = Range unless in_fixed_ranges word_forms line ∷ Order unless comes_next last said ∷ []

-- 12, then the line's tests
abbrev pub verdict_in : (last : WordLine) → (bytes : List ℕ) → Verdict
verdict_in last bytes = verdict_by false word_forms (λ line. tests_in last line (word_line line)) bytes

unfoldable pub step_after : Verdict → WordLine → Result Entry Fault
step_after (Ok done) line = Ok (entry_of line)
step_after (Err fault) line = Err fault

-- what taking a line gives
unfoldable pub step_of : (last : WordLine) → (bytes : List ℕ) → Result Entry Fault
step_of last bytes = step_after (verdict_in last bytes) (taken_by word_forms word_line bytes)

-- the lent table after a line, where this became of it
unfoldable pub words_taken : Result Entry Fault → (table : List ℕ) → List ℕ
words_taken (Ok line) table = words_after (entry_line line) table
words_taken (Err fault) table = table

-- after the last line: 51
unfoldable pub finish_of : (lent : ℕ) → (last : WordLine) → Result ℕ Refusal
finish_of lent last =
    if leb last.word (lent / word_size) then Ok last.word else Err (record { fault = Vocabulary; line = 0 })

-- words that are cleared as they stand
abbrev pub Cleared : (words : List ℕ) → Type 0
Cleared words = words ≡ cleared (length words)

-- the lent table after reading: of the lent length, and holding the words if the book is accepted
pub record Read (lent : ℕ) (text words : List ℕ) : Type 0 where
  pub sized : length words ≡ lent
  pub holds : (lines : List WordLine) → read_words lent text ≡ answered lines
      → words ≡ words_left lent (answered lines)
