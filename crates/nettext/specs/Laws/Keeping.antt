-- Laws about what every line that is taken keeps: a table wide enough for the arcs that the W line promised,
-- and no more arcs than those. So the next line's arc has room, and no count runs over.
use Rattle.std.specs.Prelude.{◌≡◌, List, [], ◌∷◌, ◌++◌, not, ℕ, suc, ◌*◌, ◌≤◌, ◌<◌, T, eqb, length}
use Rattle.std.proofs.Common.{sym, ◌∙◌, arith, leb→le, eqb→eq, lit<, lt-ltb}
use Rattle.std.proofs.lemmas.Bool.{eqb-false}
use Rattle.definitions.specs.Arcs.{arc_size}
use Rattle.definitions.specs.Lists.{concat_map}
use Rattle.definitions.specs.Reading.{line_tests}
use Rattle.definitions.specs.NetworkText.{NetworkLine, W, A, counts_in_line, counts_of, arc_in_line, arcs_of}
use Rattle.definitions.specs.NetworkText.{network_follows, network_tests, network_complete, network_kind}
use Rattle.definitions.proofs.Laws.Lists.Tests.{by-test}
use Rattle.definitions.proofs.Laws.Text.Judging.{passes_at}
use Rattle.lines.specs.Judging.{line_taken}
use Rattle.lines.specs.Laws.Judging.{Taken, verdict-taken}
use Rattle.nettext.specs.States.{state_of}
use Rattle.nettext.specs.Storing.{HasRoom}
use Rattle.nettext.specs.Taking.{Ready}
use Rattle.nettext.specs.Laws.States.{verdict-state, counts-more, arc-more, arc-started}
use Rattle.nettext.specs.Laws.Taking.{step-next}

-- ---- a line that is taken

-- lines are missing, it may stand next, and the table is wide enough for the arcs that it promises
pub record Fits (lent : ℕ) (before : List NetworkLine) (line : NetworkLine) : Type 0 where
  pub unfinished : T (not (network_complete before))
  pub follows : T (network_follows before line)
  pub wide : arc_size * (counts_in_line line).arcs ≤ lent

pub line-fits : (lent : ℕ) (before : List NetworkLine) (bytes : List ℕ)
    → Taken (network_kind lent) before bytes → Fits lent before (line_taken (network_kind lent) bytes)
unfolding network_kind line_tests network_tests
line-fits lent before bytes t =
    let passed = passes_at (line_tests (network_kind lent) before t.line) t.passed.tested in
    rw t.taken (record {
      unfinished = t.passed.unfinished;
      follows = passed 0 (lit< tt);
      wide = leb→le _ _ (passed 4 (lit< tt));
    })

-- ---- what it keeps

pub record Kept (lent : ℕ) (before : List NetworkLine) : Type 0 where
  pub wide : arc_size * (counts_of before).arcs ≤ lent
  pub arcs : length (arcs_of before) ≤ (counts_of before).arcs

-- before the first line nothing is promised
pub kept-none : (lent : ℕ) → Kept lent []
unfolding counts_of arcs_of concat_map
kept-none lent = record { wide = omega arith; arcs = omega arith }

-- arcs are missing while the lines are not all
arcs-missing : (lent : ℕ) (before : List NetworkLine) → Kept lent before → 0 < length before
    → T (not (network_complete before)) → length (arcs_of before) < (counts_of before).arcs
unfolding network_complete
arcs-missing lent before k started t =
    let arcs : ℕ = length (arcs_of before) in
    let all : ℕ = (counts_of before).arcs in
    by-test (eqb arcs all)
    (λ e. absurd (rw (lt-ltb 0 (length before) started, e) at t))
    (λ e. let differ : arcs ≡ all → ⊥ = eqb-false arcs all e in omega (arith, k.arcs))

pub kept_more : (lent : ℕ) (before : List NetworkLine) (line : NetworkLine) → Kept lent before
    → Fits lent before line → Kept lent (before ++ (line ∷ []))
unfolding network_follows counts_in_line counts_of arcs_of arc_in_line concat_map
kept_more lent [] (W states metastates arcs) k f = record { wide = f.wide; arcs = omega arith }
kept_more lent (first ∷ before) (W states metastates arcs) k f =
    absurd (omega (arith, eqb→eq (suc (length before)) 0 f.follows))
kept_more lent before (A a) k f =
    let started : 0 < length before = arc-started before a f.follows in
    let same : counts_of (before ++ (A a ∷ [])) ≡ counts_of before = counts-more before (A a) started in
    record {
      wide = rw same k.wide;
      arcs = rw same (omega (arith, arc-more before a, arcs-missing lent before k started f.unfinished));
    }

-- ---- what follows

kept-room : (lent : ℕ) (before : List NetworkLine) (line : NetworkLine) → Kept lent before
    → Fits lent before line → HasRoom (length (arcs_of before)) lent line
kept-room lent before (W states metastates arcs) k f = tt
kept-room lent before (A a) k f =
    let started : 0 < length before = arc-started before a f.follows in
    omega (arith, k.wide, arcs-missing lent before k started f.unfinished)

pub kept-ready : (lent : ℕ) (before : List NetworkLine) (bytes : List ℕ) → Kept lent before
    → length before < 18446744073709551615 → lent ≤ 18446744073709551615 → Ready lent (state_of before) bytes
unfolding state_of
kept-ready lent before bytes k lines size = record {
  counts = record { lines = lines; arcs = omega (arith, k.wide, k.arcs) };
  room = λ next e.
      let passed = sym (verdict-state lent before bytes) ∙ (step-next lent (state_of before) bytes next e).0 in
      let taken = verdict-taken (network_kind lent) before bytes passed in
      kept-room lent before (line_taken (network_kind lent) bytes) k (line-fits lent before bytes taken);
}
