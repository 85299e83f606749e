-- Laws about taking the lines of any kind of text: a line that passes its tests is taken and reading goes on
-- after it, a line with a fault is refused at its number; and so from line to line of a text.
use Rattle.std.specs.Prelude.{if◌then◌else◌, ◌≡◌, Bool, true, false, not, ◌&&◌, ℕ, suc, ◌+◌, ◌-◌, ◌*◌, ◌/◌, ◌≤◌, ◌<◌, T, length, take, drop, Result, Ok, Err, ⊤}
use Rattle.std.proofs.Math.Path.{refl, sym, ap}
use Rattle.std.specs.Result.{is_ok}
use Rattle.std.proofs.Common.{◌∙◌, subst, arith}
use mathlib.Core.List.{List, [], ◌∷◌, ◌++◌, map, map-append}
use Rattle.std.proofs.Math.Option.{Option, none, some}
use Rattle.std.proofs.Math.ListN.{length-map, length-take}
use Rattle.definitions.specs.declared.Fault.{Fault}
use Rattle.definitions.specs.declared.Fault.TheVariants.{Ragged, Misprint, Count}
use Rattle.definitions.specs.Lists.{every}
use Rattle.definitions.specs.Faults.{Outcome, refuse, Test, judge, and_then}
use Rattle.definitions.specs.Forms.{Form}
use Rattle.definitions.specs.Lines.{Line, line_of, lines_of, whole_lines}
use Rattle.definitions.specs.Reading as reading
use Rattle.definitions.specs.Reading.{Kind, line_tests, line_read, read_from, read_text}
use Rattle.definitions.proofs.Laws.Lists.Tests.{by-test, held, failed}
use Rattle.definitions.proofs.Laws.Text.Judging.{AllPass}
use Rattle.definitions.proofs.Laws.Text.Reading as lines
use Rattle.lines.specs.Judging.{Verdict, verdict_of, verdict_by, line_taken, line_verdict, lines_before, line_bytes}
use Rattle.lines.specs.Rows.{line_in, parsed_of, given, option_of}
use Rattle.lines.specs.Laws.Rows.{line-back}
use Rattle.lines.specs.Laws.Texts.{lines_at, lines-count, lines_end, lines-take}

-- ---- verdicts

passed-or-failed : (fault : Fault) → ◌≡◌ {A = Verdict} (Err fault) (Ok tt) → ⊥
passed-or-failed fault e = subst T (sym (ap is_ok e)) tt

verdict-passed : (ts : List Test) → verdict_of ts ≡ Ok tt → AllPass ts
unfolding verdict_of every
verdict-passed [] e = tt
verdict-passed (t ∷ ts) e = go t.passes (λ k. verdict-passed ts k) e
  where
    go : (b : Bool) → (verdict_of ts ≡ Ok tt → AllPass ts)
        → (if b then verdict_of ts else Err t.fault) ≡ Ok tt → T (b && every (λ t. t.passes) ts)
    go true rest k = rest k
    go false rest k = absurd (passed-or-failed t.fault k)

verdict-failed : {A : Type 0} (at : ℕ) (ts : List Test) (answer : Outcome A) (fault : Fault)
    → verdict_of ts ≡ Err fault → judge at ts answer ≡ refuse fault at
unfolding verdict_of judge
verdict-failed at [] answer fault e = absurd (passed-or-failed fault (sym e))
verdict-failed at (t ∷ ts) answer fault e = go t.passes (λ k. verdict-failed at ts answer fault k) e
  where
    go : (b : Bool) → (verdict_of ts ≡ Err fault → judge at ts answer ≡ refuse fault at)
        → (if b then verdict_of ts else Err t.fault) ≡ Err fault
        → (if b then judge at ts answer else refuse t.fault at) ≡ refuse fault at
    go true rest k = rest k
    go false rest k = let same : t.fault ≡ fault = cc in rw same

-- the verdict on a line is left to these tests: those before them held
pub record LeftTo (verdict : Verdict) (tests : List Test) : Type 0 where
  pub same : verdict ≡ verdict_of tests

-- code puts the next of them: where it holds, the verdict is left to the others; where it fails, it gives its
-- fault
module _ {v : Verdict} {answer : Bool} {t : Test} {ts : List Test}
    (left : LeftTo v (t ∷ ts)) (put : answer ≡ t.passes)
  where
    pub test-held : not answer ≡ false → LeftTo v ts
    unfolding verdict_of
    test-held h = record { same = left.same ∙ rw (held put h) }

    pub test-failed : not answer ≡ true → Err t.fault ≡ v
    unfolding verdict_of
    test-failed h = sym (left.same ∙ rw (failed put h))

-- all held
pub none-failed : {v : Verdict} → LeftTo v [] → Ok tt ≡ v
unfolding verdict_of
none-failed left = sym left.same

-- what becomes of a line, by what its bytes are
module _ (forms : List Form) (tests : Line → List Test) (bytes : List ℕ) {full : Bool} where
  pub verdict-full : full ≡ true → verdict_by full forms tests bytes ≡ Err Count
  unfolding verdict_by
  verdict-full c = rw c

  pub verdict-misprint : full ≡ false → line_of forms bytes ≡ none
      → verdict_by full forms tests bytes ≡ Err Misprint
  unfolding verdict_by
  verdict-misprint c e = rw (c, e)

  pub verdict-line : {line : Line} → full ≡ false → line_of forms bytes ≡ some line
      → verdict_by full forms tests bytes ≡ verdict_of (tests line)
  unfolding verdict_by
  verdict-line c e = rw (c, e)

-- ---- a line, after the lines `before` it

module _ {L : Type 0} (kind : Kind L) (before : List L) (bytes : List ℕ) where
  -- the line taken is the line read
  taken-line : (line : Line) → line_of kind.forms bytes ≡ some line → line_taken kind bytes ≡ kind.view line
  unfolding line_taken option_of
  taken-line line e =
      ap (λ (o : Option Line). kind.view (line_in (given (parsed_of o)))) e ∙ ap kind.view (line-back line)

  -- a line that is taken passed its tests
  pub record Taken : Type 0 where
    pub line : Line
    pub passed : lines.Passed kind before bytes line
    pub taken : line_taken kind bytes ≡ kind.view line

  line-passed : (line : Line) → kind.full before ≡ false → line_of kind.forms bytes ≡ some line
      → verdict_of (line_tests kind before line) ≡ Ok tt → Taken
  line-passed line c e v =
      record {
        line = line;
        passed = record { unfinished = rw c tt; parsed = e; tested = verdict-passed _ v };
        taken = taken-line line e;
      }

  pub verdict-taken : line_verdict kind before bytes ≡ Ok tt → Taken
  verdict-taken k =
      by-test (kind.full before)
      (λ c. absurd (passed-or-failed Count (sym (verdict-full _ _ _ c) ∙ k)))
      (λ c. by-line c (line_of kind.forms bytes) refl)
    where
      by-line : kind.full before ≡ false → (o : Option Line) → line_of kind.forms bytes ≡ o → Taken
      by-line c none e = absurd (passed-or-failed Misprint (sym (verdict-misprint _ _ _ c e) ∙ k))
      by-line c (some line) e = line-passed line c e (sym (verdict-line _ _ _ c e) ∙ k)

  -- a line with a fault is refused
  verdict-refused : (fault : Fault) → line_verdict kind before bytes ≡ Err fault
      → (at : ℕ) (rest : List (List ℕ)) → read_from kind at before (bytes ∷ rest) ≡ refuse fault at
  unfolding read_from judge line_read and_then
  verdict-refused fault k at rest =
      by-test (kind.full before)
      (λ c. rw c (named Count (sym (verdict-full _ _ _ c) ∙ k)))
      (λ c. rw c (by-line c (line_of kind.forms bytes) refl))
    where
      named : (other : Fault) → ◌≡◌ {A = Verdict} (Err other) (Err fault) → refuse {A = List L} other at ≡ refuse fault at
      named other q = let same : other ≡ fault = cc in rw same

      by-line : kind.full before ≡ false → (o : Option Line) → line_of kind.forms bytes ≡ o
          → and_then (line_read kind.forms at bytes)
          (λ line. judge at (line_tests kind before line)
          (read_from kind (suc at) (reading.with_line kind before line) rest)) ≡ refuse fault at
      by-line c none e = rw (e, line_read) (named Misprint (sym (verdict-misprint _ _ _ c e) ∙ k))
      by-line c (some line) e =
          rw (e, line_read)
          (verdict-failed at (line_tests kind before line) _ fault (sym (verdict-line _ _ _ c e) ∙ k))

-- ---- from line to line of a text

-- the bytes of the next line, as a loop cuts them out
pub next-bytes : (text : List ℕ) (i : ℕ)
    → take (32 * i + 32 - 32 * i) (drop (32 * i) text) ≡ line_bytes text i
next-bytes text i =
    ap (λ (w : ℕ). take w (drop (32 * i) text)) {x = 32 * i + 32 - 32 * i} {y = 32} (omega arith)

module _ {L : Type 0} (kind : Kind L) (text : List ℕ) where
  pub lines_none : lines_before kind text 0 ≡ []
  unfolding lines_before
  lines_none = refl

  -- the lines before the next, one more being taken
  pub lines_more : (i : ℕ) → i < length text / 32
      → lines_before kind text (suc i) ≡ lines_before kind text i ++ (line_taken kind (line_bytes text i) ∷ [])
  unfolding lines_before
  lines_more i l =
      ap (λ (lines : List (List ℕ)). map (line_taken kind) lines) (lines-take text i l)
      ∙ map-append (line_taken kind) (take i (lines_of text)) (line_bytes text i ∷ [])

  -- as many lines as were taken
  pub lines-counted : (i : ℕ) → i ≤ length text / 32 → length (lines_before kind text i) ≡ i
  unfolding lines_before
  lines-counted i l =
      length-map (take i (lines_of text)) (line_taken kind) ∙ length-take i (lines_of text)
      ∙ omega (arith, l, lines-count text)

  -- reading goes on after the first lines
  abbrev pub GoesOn : (i : ℕ) → Type 0
  GoesOn i = read_text kind text ≡ read_from kind (suc i) (lines_before kind text i) (drop i (lines_of text))

  pub goes-on-first : whole_lines text ≡ true → GoesOn 0
  unfolding read_text judge lines_before
  goes-on-first whole = rw whole

  pub text-torn : whole_lines text ≡ false → read_text kind text ≡ refuse Ragged 0
  unfolding read_text judge
  text-torn torn = rw torn

  module _ (i : ℕ) (g : GoesOn i) where
    next-read : i < length text / 32
        → read_text kind text
        ≡ read_from kind (suc i) (lines_before kind text i) (line_bytes text i ∷ drop (suc i) (lines_of text))
    next-read l = g ∙ ap (read_from kind (suc i) (lines_before kind text i)) (lines_at text i l)

    pub goes-on-more : i < length text / 32 → Taken kind (lines_before kind text i) (line_bytes text i)
        → GoesOn (suc i)
    goes-on-more l t =
        next-read l ∙ lines.line_taken kind (suc i) _ _ t.line (drop (suc i) (lines_of text)) t.passed
        ∙ rw (lines_more i l, t.taken)

    pub goes-on-refused : i < length text / 32 → (fault : Fault)
        → line_verdict kind (lines_before kind text i) (line_bytes text i) ≡ Err fault
        → read_text kind text ≡ refuse fault (suc i)
    goes-on-refused l fault v =
        next-read l
        ∙ verdict-refused kind (lines_before kind text i) (line_bytes text i) fault v (suc i)
        (drop (suc i) (lines_of text))

    pub goes-on-end : length text / 32 ≤ i
        → read_text kind text ≡ read_from kind (suc i) (lines_before kind text i) []
    goes-on-end e = g ∙ ap (read_from kind (suc i) (lines_before kind text i)) (lines_end text i e)
