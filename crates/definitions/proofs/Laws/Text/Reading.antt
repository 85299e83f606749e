-- Laws about reading: a line is taken when it passes its tests, and only then; so what holds of no lines, and
-- is kept by each line that passes, holds of all lines of an accepted text. Facts about accepted books are
-- shown by this one induction; network texts are followed line by line.
use Rattle.std.specs.Prelude.{◌≡◌, refl, true, ℕ, suc, ◌+◌, ◌*◌, ◌/◌, ◌%◌, T, ltb, eqb, length}
use Rattle.std.proofs.Common.{◌∙◌, arith, lit<, length-append}
use mathlib.Core.List.{List, [], ◌∷◌, ◌++◌}
use Rattle.std.proofs.Math.Bool.{Bool, not}
use Rattle.std.proofs.Math.Option.{Option, none, some}
use Rattle.std.proofs.Math.Dec.{eqb→eq}
use Rattle.definitions.specs.declared.Fault.TheVariants.{Misprint, Count, Ragged}
use Rattle.definitions.specs.Lists.{every}
use Rattle.definitions.specs.Faults.{Outcome, answered, ◌unless◌, and_then}
use Rattle.definitions.specs.Forms.{Form}
use Rattle.definitions.specs.Lines.{Line, line_of, lines_of, ends_in_line_feed, whole_lines}
use Rattle.definitions.specs.Reading.{Kind, line_tests, line_read, with_line, read_from, read_text}
use Rattle.definitions.proofs.Laws.Lists.Tests.{T_and, T-three}
use Rattle.definitions.proofs.Laws.Lists.Records.{records-length}
use Rattle.definitions.proofs.Laws.Text.Judging.{AllPass, passes_at, judge-passing, judge-answered}
use Rattle.definitions.proofs.Laws.Text.Judging.{and_then-answered, refused-not-answered}

-- a line that was read
line_read_lem : (forms : List Form) (at : ℕ) (bytes : List ℕ) (line : Line)
    → line_read forms at bytes ≡ answered line → line_of forms bytes ≡ some line
unfolding line_read
line_read_lem forms at bytes line e = found (line_of forms bytes) refl
  where
    found : (o : Option Line) → line_of forms bytes ≡ o → line_of forms bytes ≡ some line
    found none q = absurd (refused-not-answered _ Misprint at line refl (rw (q, line_read) at e))
    found (some read) q =
        let same : ◌≡◌ {A = Outcome Line} (answered read) (answered line) = rw (q, line_read) at e in
        cc

-- one more line after `before`, that was read from its bytes and passed its tests
pub record Passed {L : Type 0} (kind : Kind L) (before : List L) (bytes : List ℕ) (line : Line) : Type 0 where
  pub unfinished : T (not (kind.full before))
  pub parsed : line_of kind.forms bytes ≡ some line
  pub tested : AllPass (line_tests kind before line)

module _ {L : Type 0} (kind : Kind L) where
  -- such a line is taken, and reading goes on after it
  pub line_taken : (at : ℕ) (before : List L) (bytes : List ℕ) (line : Line) (rest : List (List ℕ))
      → Passed kind before bytes line
      → read_from kind at before (bytes ∷ rest) ≡ read_from kind (suc at) (with_line kind before line) rest
  unfolding read_from line_read and_then every
  line_taken at before bytes line rest p =
      judge-passing at (Count unless not (kind.full before) ∷ []) _
      ((T_and (not (kind.full before)) true).1 (p.unfinished, tt))
      ∙ rw (p.parsed, line_read, and_then) (judge-passing at (line_tests kind before line) _ p.tested)

  -- and every line of an accepted text is such a line
  pub line-passed : (at : ℕ) (before : List L) (bytes : List ℕ) (rest : List (List ℕ)) (answer : List L)
      → read_from kind at before (bytes ∷ rest) ≡ answered answer
      → (line : Line) × Passed kind before bytes line
      × (read_from kind (suc at) (with_line kind before line) rest ≡ answered answer)
  unfolding read_from
  line-passed at before bytes rest answer e =
      let j = judge-answered at (Count unless not (kind.full before) ∷ []) _ answer e in
      let (line, read, next) = and_then-answered (line_read kind.forms at bytes) _ answer j.1 in
      let t = judge-answered at (line_tests kind before line) _ answer next in
      let passed : Passed kind before bytes line = record {
        unfinished = passes_at _ j.0 0 (lit< tt);
        parsed = line_read_lem kind.forms at bytes line read;
        tested = t.0;
      } in
      (line, passed, t.1)

  -- after the last line there are enough
  pub lines_end : (at : ℕ) (before answer : List L) → read_from kind at before [] ≡ answered answer
      → T (kind.enough before) × (kind.after_last before ≡ answered answer)
  unfolding read_from
  lines_end at before answer e =
      let j = judge-answered at (Count unless kind.enough before ∷ []) (kind.after_last before) answer e in
      (passes_at _ j.0 0 (lit< tt), j.1)

  pub lines-ended : (at : ℕ) (before : List L) → T (kind.enough before)
      → read_from kind at before [] ≡ kind.after_last before
  unfolding read_from every
  lines-ended at before h =
      judge-passing at (Count unless kind.enough before ∷ []) (kind.after_last before)
      ((T_and (kind.enough before) true).1 (h, tt))

  -- a text is read by its lines, where these are whole
  pub text-lines : (text : List ℕ) (answer : List L) → read_text kind text ≡ answered answer
      → T (whole_lines text) × (read_from kind 1 [] (lines_of text) ≡ answered answer)
  unfolding read_text
  text-lines text answer e =
      let whole : Bool = whole_lines text in
      let j = judge-answered 0 (Ragged unless whole ∷ []) (read_from kind 1 [] (lines_of text)) answer e in
      (passes_at _ j.0 0 (lit< tt), j.1)

  pub text-read : (text : List ℕ) → T (whole_lines text) → read_text kind text ≡ read_from kind 1 [] (lines_of text)
  unfolding read_text every
  text-read text h =
      judge-passing 0 (Ragged unless whole_lines text ∷ []) (read_from kind 1 [] (lines_of text))
      ((T_and (whole_lines text) true).1 (h, tt))

  -- an accepted text has as many lines as were read
  lines-many : (at : ℕ) (before : List L) (rest : List (List ℕ)) (answer : List L)
      → read_from kind at before rest ≡ answered answer
      → (lines : List L) × (length lines ≡ length before + length rest) × (kind.after_last lines ≡ answered answer)
  lines-many at before [] answer e = (before, omega arith, (lines_end at before answer e).1)
  lines-many at before (bytes ∷ rest) answer e =
      let (line, _, next) = line-passed at before bytes rest answer e in
      let (lines, many, judged) = lines-many (suc at) (with_line kind before line) rest answer next in
      (lines, omega (arith, many, length-append before (kind.view line ∷ [])), judged)

  pub text-many : (text : List ℕ) (answer : List L) → read_text kind text ≡ answered answer
      → (lines : List L) × (length text ≡ 32 * length lines) × (kind.after_last lines ≡ answered answer)
  unfolding whole_lines lines_of
  text-many text answer e =
      let (whole, read) = text-lines text answer e in
      let (lines, many, judged) = lines-many 1 [] (lines_of text) answer read in
      let even = eqb→eq (length text % 32) 0
      ((T-three (ltb 0 (length text)) (eqb (length text % 32) 0) (every ends_in_line_feed (lines_of text))).0 whole).1 in
      (lines, omega (arith, many, even, records-length 32 (length text / 32) text), judged)

-- all lines of an accepted text
pub record Accepted {L : Type 0} (kind : Kind L) (P : List L → Type 0) (answer : List L) : Type 0 where
  pub lines : List L
  pub holds : P lines
  pub enough : T (kind.enough lines)
  pub judged : kind.after_last lines ≡ answered answer

module _ {L : Type 0} (kind : Kind L) (P : List L → Type 0)
    (keep : (before : List L) (bytes : List ℕ) (line : Line)
    → P before → Passed kind before bytes line → P (before ++ (kind.view line ∷ [])))
  where
    lines-hold : (at : ℕ) (before : List L) (rest : List (List ℕ)) (answer : List L)
        → P before → read_from kind at before rest ≡ answered answer → Accepted kind P answer
    lines-hold at before [] answer p e =
        let (enough, judged) = lines_end kind at before answer e in
        record { lines = before; holds = p; enough = enough; judged = judged }
    lines-hold at before (bytes ∷ rest) answer p e =
        let (line, passed, next) = line-passed kind at before bytes rest answer e in
        lines-hold (suc at) (with_line kind before line) rest answer (keep before bytes line p passed) next

    pub text-holds : (text : List ℕ) (answer : List L)
        → P [] → read_text kind text ≡ answered answer → Accepted kind P answer
    text-holds text answer p e = lines-hold 1 [] (lines_of text) answer p (text-lines kind text answer e).1
