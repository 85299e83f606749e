-- Laws about taking a line, and about judging after the last: the verdict by the last line is that of document 02 after
-- the lines taken so far; the answer on each way that the code goes; and what a step says of the line.
use Rattle.std.specs.Prelude.{◌≡◌, refl, List, [], ◌∷◌, ℕ, ◌/◌, ◌≤◌, ◌<◌, T, Ok, Err}
use Rattle.std.specs.Result.{is_ok}
use Rattle.std.proofs.Common.{sym, ap, ◌∙◌, subst}
use borrow.Author.Tests.{le-leb, lt-leb}
use Rattle.definitions.specs.declared.Fault.{Fault}
use Rattle.definitions.specs.declared.Fault.TheVariants.{Vocabulary}
use Rattle.definitions.specs.Forms.{word_forms}
use Rattle.definitions.specs.Reading.{line_tests}
use Rattle.definitions.specs.WordBooks.{WordLine, word_line, last_line, word_size, word_kind}
use Rattle.definitions.proofs.Laws.Words.WordLines.{Fits, line-fits}
use Rattle.lines.specs.Judging.{Verdict, verdict_of, verdict_by, taken_by, line_taken, line_verdict}
use Rattle.lines.specs.Laws.Judging.{verdict-taken}
use Rattle.words.specs.declared.Entry.{Entry}
use Rattle.words.specs.Entries.{entry_of}
use Rattle.words.specs.Taking.{tests_in, verdict_in, step_after, step_of, finish_of}

-- ---- the verdict

pub verdict-last : (lent : ℕ) (before : List WordLine) (bytes : List ℕ)
    → verdict_in (last_line before) bytes ≡ line_verdict (word_kind lent) before bytes
unfolding verdict_by verdict_of tests_in line_tests word_kind
verdict-last lent before bytes = refl

-- ---- the step by the verdict, and what it says of the line

module _ (last : WordLine) (bytes : List ℕ) where
  abbrev said : WordLine
  said = taken_by word_forms word_line bytes

  pub verdict-fits : verdict_in last bytes ≡ Ok tt → Fits last said
  unfolding word_kind line_taken last_line
  verdict-fits v =
      let taken = verdict-taken (word_kind 0) (last ∷ []) bytes (sym (verdict-last 0 (last ∷ []) bytes) ∙ v) in
      rw taken.taken (line-fits 0 (last ∷ []) bytes taken.line taken.passed)

  pub step-failed : {fault : Fault} → verdict_in last bytes ≡ Err fault → Err fault ≡ step_of last bytes
  unfolding step_of step_after
  step-failed v = rw v

  pub step-passed : verdict_in last bytes ≡ Ok tt → Ok (entry_of said) ≡ step_of last bytes
  unfolding step_of step_after
  step-passed v = rw v

  -- a line that was taken passed its tests
  pub step-next : (line : Entry) → step_of last bytes ≡ Ok line
      → (verdict_in last bytes ≡ Ok tt) × (line ≡ entry_of said)
  unfolding step_of step_after
  step-next line e = by (verdict_in last bytes) e
    where
      by : (v : Verdict) → step_after v said ≡ Ok line → (v ≡ Ok tt) × (line ≡ entry_of said)
      by (Ok done) q = (refl, cc)
      by (Err fault) q = absurd (subst T (sym (ap is_ok q)) tt)

  -- a line that stops failed one
  pub step-stop : (fault : Fault) → step_of last bytes ≡ Err fault → verdict_in last bytes ≡ Err fault
  unfolding step_of step_after
  step-stop fault e = by (verdict_in last bytes) e
    where
      by : (v : Verdict) → step_after v said ≡ Err fault → v ≡ Err fault
      by (Ok done) q = absurd (subst T (ap is_ok q) tt)
      by (Err other) q = let same : other ≡ fault = cc in ap Err same

-- ---- after the last line

module _ (lent : ℕ) (last : WordLine) {count : ℕ} (e : count ≡ last.word) where
  pub finish-many : lent / word_size < count → Err (record { fault = Vocabulary; line = 0 }) ≡ finish_of lent last
  unfolding finish_of
  finish-many h = rw (← e, lt-leb count (lent / word_size) h)

  pub finish-fine : count ≤ lent / word_size → Ok count ≡ finish_of lent last
  unfolding finish_of
  finish-fine h = rw (← e, le-leb count (lent / word_size) h)
