-- Laws about the lines of network text: the lines that pass their tests are those of known counts and arcs.
-- The idea: a line that was read is its counts or its arc written, and its tests ask of them what the test for
-- foreign arcs asks. The laws about network texts use them.
use Rattle.std.specs.Prelude.{◌≡◌, refl, true, false, ◌&&◌, ℕ, ◌*◌, ◌≤◌, ◌<◌, T, eqb, length}
use Rattle.std.proofs.Common.{sym, ap, ap₂, ◌∙◌, subst, arith, leb→le}
use mathlib.Core.List.{List, [], ◌∷◌, ◌++◌, map}
use Rattle.std.proofs.Math.Bool.{Bool, and-true, and_assoc}
use Rattle.std.proofs.Math.Option.{none, some, none-ne-some}
use Prim.Native.Char.{code}
use Rattle.std.proofs.Math.Dec.{leb, le→leb}
use borrow.Author.Tests.{lt-ltb, le-leb, ne_eqb, eqb-true}
use Rattle.definitions.specs.declared.Counts.{Counts}
use Rattle.definitions.specs.Lists.{if◌then◌else◌, ◌!◌, every, last_passes, concat_map}
use Rattle.definitions.specs.Forms.{Form, form_w, form_a, network_forms}
use Rattle.definitions.specs.Lines.{line_feed, Line, form_of, line_of, in_ranges, in_fixed_ranges, line_text}
use Rattle.definitions.specs.Reading.{line_tests}
use Rattle.definitions.specs.Arcs.{Arc, arc, arc_size, arc_words}
use Rattle.definitions.specs.NetworkText.{NetworkLine, W, A, network_line, counts_in_line, counts_of}
use Rattle.definitions.specs.NetworkText.{arc_in_line, arcs_of, is_state, network_follows, within_counts}
use Rattle.definitions.specs.NetworkText.{network_in_order, network_tests, network_complete, network_kind}
use Rattle.definitions.specs.NetworkText.{arc_known, never_descending, line_of_counts, line_of_arc}
use Rattle.definitions.proofs.Laws.Lists.Tests.{T_and, T-three}
use Rattle.definitions.proofs.Laws.Lists.Lists.{three, four}
use Rattle.definitions.proofs.Laws.Text.Judging.{AllPass}
use Rattle.definitions.proofs.Laws.Text.LineFields.{all_fit}
use Rattle.definitions.proofs.Laws.Text.Lines.{Read, line_writes}
use Rattle.definitions.proofs.Laws.Text.Reading.{Passed}
use Rattle.definitions.proofs.Laws.Text.WrittenTexts.{ranges-fit, Writes, Writer, Next}

-- ---- the lines of counts and arcs

abbrev pub lines_for : Counts → List Arc → List NetworkLine
lines_for counts arcs = W counts.states counts.metastates counts.arcs ∷ map A arcs

a-lines : (arcs : List Arc) → concat_map arc_in_line (map A arcs) ≡ arcs
unfolding concat_map arc_in_line
a-lines [] = refl
a-lines (a ∷ arcs) = ap (λ (l : List Arc). a ∷ l) (a-lines arcs)

pub lines-arcs : (counts : Counts) (arcs : List Arc) → arcs_of (lines_for counts arcs) ≡ arcs
unfolding arcs_of concat_map arc_in_line
lines-arcs counts arcs = a-lines arcs

pub lines-counts : (counts : Counts) (arcs : List Arc) → counts_of (lines_for counts arcs) ≡ counts
unfolding counts_of counts_in_line
lines-counts counts arcs = refl

-- all lines are there when there are as many arcs as the W line counts
pub lines-complete : (counts : Counts) (arcs : List Arc)
    → network_complete (lines_for counts arcs) ≡ eqb (length arcs) counts.arcs
unfolding network_complete
lines-complete counts arcs =
    let some-line = lt-ltb 0 (length (lines_for counts arcs)) (omega arith) in
    rw (some-line, lines-arcs counts arcs, lines-counts counts arcs)

-- ---- a line is written as it was read

-- the line of a network line
abbrev line_for : NetworkLine → Line
line_for (W states metastates arcs) =
    line_of_counts (record { states = states; metastates = metastates; arcs = arcs })
line_for (A a) = line_of_arc a

-- and the table of its letter
abbrev form_for : NetworkLine → Form
form_for (W states metastates arcs) = form_w
form_for (A a) = form_a

line-again : (line : Line) (form : Form) → form_of network_forms line.letter ≡ some form
    → length line.numbers ≡ length form.fields → line_for (network_line line) ≡ line
unfolding form_of network_line line_of_counts line_of_arc arc_words
line-again line form = go (eqb (code "W") line.letter) (eqb (code "A") line.letter) refl refl
  where
    n : List ℕ
    n = line.numbers

    made : (letter : ℕ) (numbers : List ℕ) → letter ≡ line.letter → numbers ≡ line.numbers
        → record { letter = letter; numbers = numbers } ≡ line
    made letter numbers e f = ap₂ (λ (x : ℕ) (y : List ℕ). record { letter = x; numbers = y }) e f

    go : (w a : Bool) → eqb (code "W") line.letter ≡ w → eqb (code "A") line.letter ≡ a
        → (if w then some form_w else if a then some form_a else none) ≡ some form
        → length n ≡ length form.fields
        → line_for (if w then W (n ! 0) (n ! 1) (n ! 2) else A (arc (n ! 0) (n ! 1) (n ! 2) (n ! 3))) ≡ line
    go true a e f k many =
        let own : form_w ≡ form = cc in
        made (code "W") _ (eqb-true _ _ e) (three n (rw (← own) at many))
    go false true e f k many =
        let own : form_a ≡ form = cc in
        made (code "A") _ (eqb-true _ _ f) (four n (rw (← own) at many))
    go false false e f k many = absurd (none-ne-some form k)

-- a line of 32 bytes with a line feed at its end is its network line written
line-found : (bytes : List ℕ) (line : Line) → length bytes ≡ 32 → bytes ! 31 ≡ line_feed
    → line_of network_forms bytes ≡ some line
    → (line_for (network_line line) ≡ line) × (line_text (line_for (network_line line)) ≡ bytes)
line-found bytes line size feed e =
    let r : Read network_forms bytes line = line_writes network_forms bytes size feed line e in
    let known = rw (← r.parts.letter) at r.parts.known in
    let again : line_for (network_line line) ≡ line = line-again line r.parts.form known r.many in
    (again, ap line_text again ∙ r.written)

-- ---- what a line's tests ask

-- counts that a W line states, and an arc that an A line states
abbrev pub counts_ranged : Counts → Bool
counts_ranged counts = in_ranges form_w.fields (counts.states ∷ counts.metastates ∷ counts.arcs ∷ [])

abbrev pub arc_ranged : Arc → Bool
arc_ranged a = in_ranges form_a.fields (a.from ∷ a.to ∷ a.model ∷ a.phone ∷ [])

-- whether an arc may stand after others
abbrev pub may_follow : (done : List Arc) → Arc → Bool
may_follow done a = last_passes (λ b. leb b.from a.from) done

module _ (lent : ℕ) (counts : Counts) where
  -- the W line: its ranges, and a table wide enough
  counts-tested : every (λ t. t.passes) (line_tests (network_kind lent) [] (line_of_counts counts))
      ≡ (counts_ranged counts && leb (arc_size * counts.arcs) lent)
  unfolding every line_tests network_kind network_tests network_line line_of_counts in_fixed_ranges form_of
      network_follows within_counts network_in_order counts_in_line
  counts-tested = rw (and-true (leb (arc_size * counts.arcs) lent))

  -- an A line after some: its arc is known, and its source does not descend
  arc-tested : (done : List Arc) (a : Arc)
      → every (λ t. t.passes) (line_tests (network_kind lent) (lines_for counts done) (line_of_arc a))
      ≡ (arc_known counts a && may_follow done a)
  unfolding every line_tests network_kind network_tests network_line line_of_arc arc_words in_fixed_ranges form_of
      network_follows within_counts network_in_order counts_in_line arc_known
  arc-tested done a =
      rw (
        lt-ltb 0 (length (lines_for counts done)) (omega arith),
        lines-arcs counts done,
        lines-counts counts done,
        le-leb 0 lent (omega arith),
        and-true (may_follow done a),
      ) (simp and_assoc)

-- ---- one line more

-- the numbers of a line in its ranges have room in their fields
pub counts-fit : (counts : Counts) → T (counts_ranged counts) → T (all_fit (line_of_counts counts).numbers)
unfolding line_of_counts every
counts-fit counts h = ranges-fit form_w.fields _ refl tt h

pub arc-fit : (a : Arc) → T (arc_ranged a) → T (all_fit (line_of_arc a).numbers)
unfolding line_of_arc arc_words every
arc-fit a h = ranges-fit form_a.fields _ refl tt h

pub known-ranged : (counts : Counts) (a : Arc) → T (arc_known counts a) → T (arc_ranged a)
unfolding arc_known
known-ranged counts a h = ((T-three (arc_ranged a) (is_state counts a.from) (is_state counts a.to)).0 h).0

-- how network text is written
pub network-writes : (lent : ℕ) (line : NetworkLine)
    → Writes (network_kind lent) line (line_for line) (form_for line)
unfolding network_kind network_line form_of line_of_counts line_of_arc arc_words every
network-writes lent (W states metastates arcs) =
    record { again = refl; known = refl; many = refl; fits = tt }
network-writes lent (A a) = record { again = refl; known = refl; many = refl; fits = tt }

abbrev pub network_writer : (lent : ℕ) → Writer (network_kind lent)
network_writer lent = record { line_for = line_for; form = form_for; writes = network-writes lent }

module _ (lent : ℕ) (counts : Counts) where
  -- the lines of known counts and arcs pass their tests
  pub counts-next : T (counts_ranged counts) → arc_size * counts.arcs ≤ lent
      → Next (network_writer lent) [] (W counts.states counts.metastates counts.arcs)
  unfolding network_kind network_complete
  counts-next h wide =
      let room : Bool = leb (arc_size * counts.arcs) lent in
      record {
        unfinished = tt;
        tested = rw (counts-tested lent counts) ((T_and (counts_ranged counts) room).1 (h, le→leb _ _ wide));
      }

  pub arc-next : (done : List Arc) (a : Arc) → length done < counts.arcs → T (arc_known counts a)
      → T (may_follow done a) → Next (network_writer lent) (lines_for counts done) (A a)
  unfolding network_kind
  arc-next done a fewer known follows =
      record {
        unfinished = rw (lines-complete counts done, ne_eqb (length done) counts.arcs (λ e. omega arith)) tt;
        tested =
            rw (arc-tested lent counts done a)
            ((T_and (arc_known counts a) (may_follow done a)).1 (known, follows));
      }

-- no A line comes first, and no W line later
arc-late : (lent : ℕ) (a : Arc) → AllPass (line_tests (network_kind lent) [] (line_of_arc a)) → ⊥
unfolding every line_tests network_kind network_line line_of_arc network_follows
arc-late lent a h = h

counts-first : (lent : ℕ) (counts own : Counts) (done : List Arc)
    → AllPass (line_tests (network_kind lent) (lines_for counts done) (line_of_counts own)) → ⊥
unfolding every line_tests network_kind network_line line_of_counts network_follows
counts-first lent counts own done h =
    rw (ne_eqb (length (lines_for counts done)) 0 (λ e. omega arith)) at h

-- and lines that pass their tests are those of known counts and arcs
pub record CountsLine (lent : ℕ) (bytes : List ℕ) (line : Line) (counts : Counts) : Type 0 where
  pub own : line ≡ line_of_counts counts
  pub written : line_text (line_of_counts counts) ≡ bytes
  pub ranged : T (counts_ranged counts)
  pub wide : arc_size * counts.arcs ≤ lent

pub record ArcLine (counts : Counts) (done : List Arc) (bytes : List ℕ) (line : Line) (a : Arc) : Type 0 where
  pub own : line ≡ line_of_arc a
  pub written : line_text (line_of_arc a) ≡ bytes
  pub known : T (arc_known counts a)
  pub follows : T (may_follow done a)

module _ (lent : ℕ) (bytes : List ℕ) (line : Line) (size : length bytes ≡ 32) (feed : bytes ! 31 ≡ line_feed)
  where
    pub counts-found : Passed (network_kind lent) [] bytes line
        → (counts : Counts) × CountsLine lent bytes line counts
    unfolding network_kind
    counts-found p =
        let (again, written) = line-found bytes line size feed p.parsed in
        go (network_line line) again written
      where
        tested : (own : Line) → own ≡ line → AllPass (line_tests (network_kind lent) [] own)
        tested own e = rw e p.tested

        go : (own : NetworkLine) → line_for own ≡ line → line_text (line_for own) ≡ bytes
            → (counts : Counts) × CountsLine lent bytes line counts
        go (W states metastates arcs) again written =
            let counts : Counts = record { states = states; metastates = metastates; arcs = arcs } in
            let (ranged, wide) = (T_and (counts_ranged counts) (leb (arc_size * arcs) lent)).0
            (subst T (counts-tested lent counts) (tested (line_of_counts counts) again)) in
            (counts, record { own = sym again; written = written; ranged = ranged; wide = leb→le _ _ wide })
        go (A a) again written = absurd (arc-late lent a (tested (line_of_arc a) again))

    pub arc-found : (counts : Counts) (done : List Arc)
        → Passed (network_kind lent) (lines_for counts done) bytes line
        → (a : Arc) × ArcLine counts done bytes line a
    unfolding network_kind
    arc-found counts done p =
        let (again, written) = line-found bytes line size feed p.parsed in
        go (network_line line) again written
      where
        tested : (own : Line) → own ≡ line → AllPass (line_tests (network_kind lent) (lines_for counts done) own)
        tested own e = rw e p.tested

        go : (own : NetworkLine) → line_for own ≡ line → line_text (line_for own) ≡ bytes
            → (a : Arc) × ArcLine counts done bytes line a
        go (W states metastates arcs) again written =
            absurd (counts-first lent counts _ done (tested (line_for (W states metastates arcs)) again))
        go (A a) again written =
            let (known, follows) = (T_and (arc_known counts a) (may_follow done a)).0
            (subst T (arc-tested lent counts done a) (tested (line_of_arc a) again)) in
            (a, record { own = sym again; written = written; known = known; follows = follows })

-- ---- sources that never descend

-- in two parts: neither descends, and the second may stand after the first
pub order-parts : (done : List Arc) (a : Arc) (arcs : List Arc)
    → never_descending (done ++ (a ∷ arcs))
    ≡ (never_descending done && may_follow done a && never_descending (a ∷ arcs))
unfolding never_descending last_passes
order-parts [] a arcs = refl
order-parts (b ∷ []) a arcs = refl
order-parts (b ∷ c ∷ done) a arcs = rw (order-parts (c ∷ done) a arcs) (simp and_assoc)
