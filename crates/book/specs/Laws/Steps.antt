-- Laws about taking a line: the verdict by the state is that of document 01 after the lines before, so a line
-- that is taken fits and the state follows it, and a line that stops has that fault.
use Rattle.std.specs.Prelude.{◌≡◌, List, [], ◌∷◌, ◌++◌, ℕ, T, Ok, Err}
use Rattle.std.specs.Result.{is_ok}
use Rattle.std.proofs.Common.{sym, ap, ◌∙◌, subst}
use Rattle.definitions.specs.declared.Fault.{Fault}
use Rattle.definitions.specs.Forms.{book_forms}
use Rattle.definitions.specs.BookLines.{BookLine}
use Rattle.definitions.specs.BookReading.{Lent, book_kind}
use Rattle.lines.specs.Judging.{Verdict, verdict_by, line_taken, line_verdict}
use Rattle.booklines.specs.declared.State.{State}
use Rattle.booklines.specs.States.{state_of, next_state}
use Rattle.book.specs.Steps.{Step, book_taken, verdict_in, step_after, step_of}
use Rattle.definitions.proofs.Laws.Books.Books.{Fits, line-fits}
use Rattle.lines.specs.Laws.Judging.{verdict-taken}
use Rattle.booklines.specs.Laws.States.{tests-state, full-state, next-state}
use Rattle.lines.specs.Laws.Judging as judging

verdict-state : (lent : Lent) (before : List BookLine) (bytes : List ℕ)
    → verdict_in lent (state_of before) bytes ≡ line_verdict (book_kind lent) before bytes
unfolding book_kind
verdict-state lent before bytes =
    λ i. verdict_by (full-state before i) book_forms (λ line. tests-state lent before line i) bytes

-- a line that is taken passed its tests: it fits, and the state follows it
pub record Taken (lent : Lent) (before : List BookLine) (bytes : List ℕ) (s : State) : Type 0 where
  pub passed : judging.Taken (book_kind lent) before bytes
  pub fits : Fits lent before (book_taken bytes)
  pub state : s ≡ state_of (before ++ (book_taken bytes ∷ []))

stopped : (fault : Fault) (s : State) → ◌≡◌ {A = Step} (Err fault) (Ok s) → ⊥
stopped fault s e = subst T (sym (ap is_ok e)) tt

module _ (lent : Lent) (before : List BookLine) (bytes : List ℕ) where
  line_taken_lem : (s : State) → line_verdict (book_kind lent) before bytes ≡ Ok tt
      → ◌≡◌ {A = Step} (Ok (next_state (state_of before) (book_taken bytes))) (Ok s) → Taken lent before bytes s
  unfolding line_taken book_kind
  line_taken_lem s v k =
      let passed = verdict-taken (book_kind lent) before bytes v in
      let fits : Fits lent before (book_taken bytes) =
      rw passed.taken (line-fits lent before bytes passed.line passed.passed) in
      let same : s ≡ next_state (state_of before) (book_taken bytes) = cc in
      record {
        passed = passed;
        fits = fits;
        state = same ∙ next-state before (book_taken bytes) fits.follows;
      }

  pub step-next : (s : State) → step_of lent (state_of before) bytes ≡ Ok s → Taken lent before bytes s
  unfolding step_of step_after
  step-next s k = by (verdict_in lent (state_of before) bytes) (sym (verdict-state lent before bytes)) k
    where
      by : (v : Verdict) → line_verdict (book_kind lent) before bytes ≡ v
          → step_after v (state_of before) (book_taken bytes) ≡ Ok s → Taken lent before bytes s
      by (Ok done) v q = line_taken_lem s v q
      by (Err fault) v q = absurd (stopped fault s q)

  pub step-stop : (fault : Fault) → step_of lent (state_of before) bytes ≡ Err fault
      → line_verdict (book_kind lent) before bytes ≡ Err fault
  unfolding step_of step_after
  step-stop fault k = by (verdict_in lent (state_of before) bytes) (sym (verdict-state lent before bytes)) k
    where
      by : (v : Verdict) → line_verdict (book_kind lent) before bytes ≡ v
          → step_after v (state_of before) (book_taken bytes) ≡ Err fault
          → line_verdict (book_kind lent) before bytes ≡ Err fault
      by (Ok done) v q = absurd (stopped fault _ (sym q))
      by (Err other) v q = let same : other ≡ fault = cc in v ∙ rw same
