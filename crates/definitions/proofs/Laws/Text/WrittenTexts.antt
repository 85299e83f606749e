-- Laws about texts that are written line by line: they are whole lines and bytes, and reading takes each line
-- in turn, where each passes its tests after those before it. Said once for every kind of text; the laws about
-- network texts and about the texts of books use them.
use Rattle.std.specs.Prelude.{◌≡◌, Bool, not, ◌&&◌, leb, ltb, eqb, length}
use Rattle.std.proofs.Common.{ap, ◌∙◌, subst, arith, leb→le, ltb→lt}
use mathlib.Core.List.{List, [], ◌∷◌, ◌++◌, map, append-nil}
use Rattle.std.proofs.Math.Option.{some}
use Prim.Native.Nat.{ℕ, suc, ◌*◌, ◌%◌, ◌≤◌, ◌<◌}
use Rattle.std.proofs.Math.Dec.{T, lt→ltb}
use Rattle.std.proofs.lemmas.List.{length-map}
use Rattle.std.proofs.Math.Seq.{append_snoc}
use Rattle.definitions.specs.Lists.{every, concat_map}
use Rattle.definitions.specs.Forms.{Range, Form}
use Rattle.definitions.specs.Lines.{Line, form_of, line_of, in_ranges, in_fixed_ranges, line_text, lines_of}
use Rattle.definitions.specs.Lines.{ends_in_line_feed, whole_lines}
use Rattle.definitions.specs.Reading.{Kind, line_tests, read_from, read_text}
use Rattle.definitions.proofs.Laws.Lists.Tests.{T_and, T-three, between, eq→eqb}
use Rattle.definitions.proofs.Laws.Lists.Lists.{every-cons}
use Rattle.definitions.proofs.Laws.Lists.Members.{of_map, every_in, in-every}
use Rattle.definitions.proofs.Laws.Text.Judging.{AllPass, passes_at}
use Rattle.definitions.proofs.Laws.Lists.Records.{all_of, concat_map-joined, joined_length}
use Rattle.definitions.proofs.Laws.Text.LineFields.{all_fit}
use Rattle.definitions.proofs.Laws.Text.Lines.{line-length, line-end, line_reads, form-letter, text-reads}
use Rattle.definitions.proofs.Laws.Text.LineBytes.{is_byte, bytes-each, line-bytes}
use Rattle.definitions.proofs.Laws.Text.Reading.{Passed, line_taken, lines-ended, text-read}

-- ---- numbers in their ranges have room in their fields

abbrev range_fits : Range → Bool
range_fits range = ltb range.highest 1000000

pub ranges-fit : (ranges : List Range) (numbers : List ℕ) → length numbers ≡ length ranges
    → T (every range_fits ranges) → T (in_ranges ranges numbers) → T (all_fit numbers)
unfolding in_ranges every
ranges-fit [] [] e low h = tt
ranges-fit [] (n ∷ numbers) e low h = absurd (omega arith)
ranges-fit (range ∷ ranges) [] e low h = absurd h
ranges-fit (range ∷ ranges) (n ∷ numbers) e low h =
    let (first, others) = (T_and (range_fits range) (every range_fits ranges)).0 low in
    let (own, rest) = (T_and (leb range.lowest n && leb n range.highest) (in_ranges ranges numbers)).0 h in
    let (_, high) = (between range.lowest n range.highest).0 own in
    (T_and (ltb n 1000000) (all_fit numbers)).1 (
      lt→ltb n 1000000 (omega (arith, ltb→lt range.highest 1000000 first)),
      ranges-fit ranges numbers (omega arith) others rest,
    )

-- a letter's table by which a line of 32 bytes can be written: a byte, and numbers of at most six digits in at
-- most five fields
abbrev pub form_fits : Form → Bool
form_fits form = ltb form.letter 256 && leb (length form.fields) 5 && every range_fits form.fields

-- ---- how the lines of a kind of text are written

-- a line as its letter and numbers: it is taken for that line again, and its letter's table has a field for
-- each number
pub record Writes {L : Type 0} (kind : Kind L) (line : L) (own : Line) (form : Form) : Type 0 where
  pub again : kind.view own ≡ line
  pub known : form_of kind.forms own.letter ≡ some form
  pub many : length own.numbers ≡ length form.fields
  pub fits : T (form_fits form)

pub record Writer {L : Type 0} (kind : Kind L) : Type 0 where
  pub line_for : L → Line
  pub form : L → Form
  pub writes : (line : L) → Writes kind line (line_for line) (form line)

module _ {L : Type 0} {kind : Kind L} (w : Writer kind) where
  abbrev pub line_bytes : L → List ℕ
  line_bytes line = line_text (w.line_for line)

  abbrev pub written : List L → List ℕ
  written lines = concat_map line_bytes lines

  -- whether its numbers lie in the ranges of its fields
  abbrev pub ranged : L → Bool
  ranged line = in_ranges (w.form line).fields (w.line_for line).numbers

  -- ---- one line

  module _ (line : L) where
    letter-is : (w.form line).letter ≡ (w.line_for line).letter
    letter-is = form-letter kind.forms (w.line_for line).letter (w.form line) (w.writes line).known

    fitting : T (ltb (w.form line).letter 256) × T (leb (length (w.form line).fields) 5)
        × T (every range_fits (w.form line).fields)
    fitting =
        let form : Form = w.form line in
        (T-three (ltb form.letter 256) (leb (length form.fields) 5) (every range_fits form.fields)).0
        (w.writes line).fits

    pub few : length (w.line_for line).numbers ≤ 5
    few = omega (arith, (w.writes line).many, leb→le (length (w.form line).fields) 5 fitting.1)

    pub fit : T (ranged line) → T (all_fit (w.line_for line).numbers)
    fit h = ranges-fit (w.form line).fields (w.line_for line).numbers (w.writes line).many fitting.2 h

    -- what is written is read
    reads : T (ranged line) → line_of kind.forms (line_bytes line) ≡ some (w.line_for line)
    reads h =
        let numbers : List ℕ = (w.line_for line).numbers in
        let form : Form = w.form line in
        let known : form_of kind.forms form.letter ≡ some form =
        ap (form_of kind.forms) letter-is ∙ (w.writes line).known in
        subst (λ letter. line_of kind.forms (line_text (record { letter = letter; numbers = numbers }))
        ≡ some (record { letter = letter; numbers = numbers })) letter-is
        (line_reads kind.forms form numbers known (w.writes line).many few (fit h))

  -- ---- their text

  pub text-bytes : (lines : List L) → T (every is_byte (written lines))
  text-bytes lines =
      bytes-each line_bytes lines (λ line. line-bytes (w.line_for line)
      (subst (λ letter. T (ltb letter 256)) (letter-is line) (fitting line).0))

  module _ (lines : List L) (h : T (every ranged lines)) where
    -- of all their texts, what holds of the text of each line in its ranges
    of-texts : (test : List ℕ → Bool) → ((line : L) → T (ranged line) → T (test (line_bytes line)))
        → T (every test (map line_bytes lines))
    of-texts test each =
        every_in test (map line_bytes lines) (λ bytes i.
        let (line, own, e) = of_map line_bytes bytes lines i in
        rw e (each line (in-every ranged lines h line own)))

    sized : T (all_of 32 (map line_bytes lines))
    sized =
        of-texts (λ bytes. eqb (length bytes) 32)
        (λ line r. eq→eqb _ _ (line-length (w.line_for line) (few line) (fit line r)))

    text-lines : lines_of (written lines) ≡ map line_bytes lines
    text-lines = ap lines_of (concat_map-joined line_bytes lines) ∙ text-reads (map line_bytes lines) sized

    pub text-length : length (written lines) ≡ 32 * length lines
    text-length =
        ap length (concat_map-joined line_bytes lines) ∙ joined_length 32 (map line_bytes lines) sized
        ∙ rw (length-map lines line_bytes)

    text-whole : 0 < length lines → T (whole_lines (written lines))
    unfolding whole_lines ends_in_line_feed
    text-whole some-line =
        let text : List ℕ = written lines in
        (T-three (ltb 0 (length text)) (eqb (length text % 32) 0) (every ends_in_line_feed (lines_of text))).1 (
          lt→ltb 0 (length text) (omega (arith, text-length)),
          eq→eqb (length text % 32) 0 (omega (arith, text-length)),
          rw text-lines (of-texts ends_in_line_feed
              (λ line r. eq→eqb _ _ (line-end (w.line_for line) (few line) (fit line r)))),
        )

  -- ---- reading it

  -- a line that passes its tests after those before it
  pub record Next (before : List L) (line : L) : Type 0 where
    pub unfinished : T (not (kind.full before))
    pub tested : AllPass (line_tests kind before (w.line_for line))

  next-ranged : (before : List L) (line : L) → Next before line → T (ranged line)
  unfolding line_tests in_fixed_ranges
  next-ranged before line n =
      let own : T (in_fixed_ranges kind.forms (w.line_for line)) =
      passes_at (line_tests kind before (w.line_for line)) n.tested 1 (omega arith) in
      rw ((w.writes line).known, in_fixed_ranges) at own

  next-passed : (before : List L) (line : L) → Next before line
      → Passed kind before (line_bytes line) (w.line_for line)
  next-passed before line n =
      record {
        unfinished = n.unfinished;
        parsed = reads line (next-ranged before line n);
        tested = n.tested;
      }

  -- lines that do so one after the other
  abbrev pub AllNext : (before lines : List L) → Type 0
  AllNext before [] = Unit {0}
  AllNext before (line ∷ lines) = Next before line × AllNext (before ++ (line ∷ [])) lines

  -- and others after them
  pub next-parts : (before k l : List L) → AllNext before k → AllNext (before ++ k) l
      → AllNext before (k ++ l)
  next-parts before [] l n m = rw append-nil at m
  next-parts before (line ∷ k) l n m =
      (n.0, next-parts (before ++ (line ∷ [])) k l n.1 (rw (append_snoc before line k) m))

  pub all-ranged : (before lines : List L) → AllNext before lines → T (every ranged lines)
  unfolding every
  all-ranged before [] n = tt
  all-ranged before (line ∷ lines) n =
      (every-cons ranged line lines).1
      (next-ranged before line n.0, all-ranged (before ++ (line ∷ [])) lines n.1)

  lines-taken : (at : ℕ) (before lines : List L) → AllNext before lines → T (kind.enough (before ++ lines))
      → read_from kind at before (map line_bytes lines) ≡ kind.after_last (before ++ lines)
  lines-taken at before [] n full = lines-ended kind at before (rw append-nil at full) ∙ rw append-nil
  lines-taken at before (line ∷ lines) n full =
      let next = lines-taken (suc at) (before ++ (line ∷ [])) lines n.1
      (rw (append_snoc before line lines) full) in
      line_taken kind at before (line_bytes line) (w.line_for line) (map line_bytes lines)
      (next-passed before line n.0)
      ∙ rw (w.writes line).again (next ∙ rw (append_snoc before line lines))

  -- the text of all lines is read to its end
  pub text-taken : (lines : List L) → 0 < length lines → AllNext [] lines → T (kind.enough lines)
      → read_text kind (written lines) ≡ kind.after_last lines
  text-taken lines some-line n full =
      let h = all-ranged [] lines n in
      text-read kind (written lines) (text-whole lines h some-line)
      ∙ rw (text-lines lines h) (lines-taken 1 [] lines n full)
