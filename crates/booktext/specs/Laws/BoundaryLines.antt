-- Laws about the B lines: the next ones, where a word names a plain phone, and how many there are at most.
use Rattle.std.specs.Prelude.{◌≡◌, refl, List, [], ◌∷◌, ◌++◌, true, false, ℕ, suc, ◌+◌, ◌≤◌, ◌<◌, eqb, length, drop}
use Rattle.std.proofs.Common.{ap, ◌∙◌, add-one, arith, drop_of_length-le, drop-cons}
use Rattle.definitions.specs.Lists.{◌!◌}
use Rattle.definitions.specs.BookLines.{B}
use Rattle.definitions.specs.BookText.{book_line_for, boundaries_from}
use Rattle.definitions.proofs.Laws.Lists.Tests.{by-test}
use Rattle.booktext.specs.Parts.{boundary_lines}
use Rattle.booktext.specs.Laws.Putting.{Next, Places}

-- the line of one word, if it is a plain phone
pub no-boundary-line : (phone plain : ℕ) → eqb plain 0 ≡ true → boundary_lines phone (plain ∷ []) ≡ []
unfolding boundaries_from
no-boundary-line phone plain e = rw e

pub boundary-line : (phone plain : ℕ) → eqb plain 0 ≡ false
    → boundary_lines phone (plain ∷ []) ≡ book_line_for (B phone plain) ∷ []
unfolding boundaries_from
boundary-line phone plain e = rw e

boundary-first : (phone plain : ℕ) (plains : List ℕ)
    → boundary_lines phone (plain ∷ plains)
    ≡ boundary_lines phone (plain ∷ []) ++ boundary_lines (suc phone) plains
unfolding boundaries_from
boundary-first phone plain plains = by-test (eqb plain 0) (λ e. rw e) (λ e. rw e)

pub boundaries-next : (i : ℕ) (plains : List ℕ) → i < length plains
    → Next (boundary_lines (i + 1) (drop i plains)) (boundary_lines (i + 1) ((plains ! i) ∷ []))
    (boundary_lines (i + 1 + 1) (drop (i + 1) plains))
boundaries-next i plains h =
    record {
      parts = ap (boundary_lines (i + 1)) (drop-cons plains i 0 h)
          ∙ boundary-first (i + 1) (plains ! i) (drop (suc i) plains) ∙ rw (add-one i, add-one (suc i));
    }

pub boundaries-end : (i : ℕ) (plains : List ℕ) → length plains ≤ i → boundary_lines (i + 1) (drop i plains) ≡ []
unfolding boundaries_from
boundaries-end i plains h = rw (drop_of_length-le plains {i = i} h)

abbrev pub boundaries : (plains : List ℕ) → Places (length plains) (boundary_lines 1 plains)
boundaries plains =
    record {
      at = λ i. boundary_lines (i + 1) ((plains ! i) ∷ []);
      rest = λ i. boundary_lines (i + 1) (drop i plains);
      starts = refl;
      next = λ i. boundaries-next i plains;
      ends = boundaries-end (length plains) plains (omega arith);
    }

pub boundaries-most : (phone : ℕ) (plains : List ℕ) → length (boundary_lines phone plains) ≤ length plains
unfolding boundaries_from
boundaries-most phone [] = omega arith
boundaries-most phone (plain ∷ plains) =
    let rest = boundaries-most (suc phone) plains in
    by-test (eqb plain 0) (λ e. rw e (omega arith)) (λ e. rw e (omega arith))
