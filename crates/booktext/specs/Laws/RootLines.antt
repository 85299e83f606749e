-- Laws about the R lines: the next ones, where there is a root, and how many there are at most.
use Rattle.std.specs.Prelude.{◌≡◌, refl, List, [], ◌∷◌, ◌++◌, true, false, ℕ, suc, ◌+◌, ◌/◌, ◌%◌, ◌≤◌, ◌<◌, eqb, length, drop}
use Rattle.std.proofs.Common.{ap, ◌∙◌, add-one, arith, drop_of_length-le, drop-cons}
use Rattle.definitions.specs.Lists.{◌!◌}
use Rattle.definitions.specs.BookLines.{R, no_root}
use Rattle.definitions.specs.BookText.{book_line_for, roots_listed}
use Rattle.definitions.proofs.Laws.Lists.Tests.{by-test}
use Rattle.booktext.specs.Parts.{root_lines}
use Rattle.booktext.specs.Laws.Putting.{Next, Places}

-- the line of one word, if it is a root
pub no-root-line : (states at word : ℕ) → eqb word no_root ≡ true → root_lines states at (word ∷ []) ≡ []
unfolding roots_listed
no-root-line states at word e = rw e

pub root_line : (states at word : ℕ) → eqb word no_root ≡ false
    → root_lines states at (word ∷ []) ≡ book_line_for (R (at / states + 1) (at % states + 1) word) ∷ []
unfolding roots_listed
root_line states at word e = rw e

root-first : (states at word : ℕ) (words : List ℕ)
    → root_lines states at (word ∷ words) ≡ root_lines states at (word ∷ []) ++ root_lines states (suc at) words
unfolding roots_listed
root-first states at word words = by-test (eqb word no_root) (λ e. rw e) (λ e. rw e)

pub roots-next : (states i : ℕ) (roots : List ℕ) → i < length roots
    → Next (root_lines states i (drop i roots)) (root_lines states i ((roots ! i) ∷ []))
    (root_lines states (i + 1) (drop (i + 1) roots))
roots-next states i roots h =
    record {
      parts = ap (root_lines states i) (drop-cons roots i 0 h) ∙ root-first states i (roots ! i) (drop (suc i) roots)
          ∙ rw (add-one i);
    }

pub roots-end : (states i : ℕ) (roots : List ℕ) → length roots ≤ i → root_lines states i (drop i roots) ≡ []
unfolding roots_listed
roots-end states i roots h = rw (drop_of_length-le roots {i = i} h)

abbrev pub roots_written : (states : ℕ) (roots : List ℕ) → Places (length roots) (root_lines states 0 roots)
roots_written states roots =
    record {
      at = λ i. root_lines states i ((roots ! i) ∷ []);
      rest = λ i. root_lines states i (drop i roots);
      starts = refl;
      next = λ i. roots-next states i roots;
      ends = roots-end states (length roots) roots (omega arith);
    }

pub roots-most : (states at : ℕ) (roots : List ℕ) → length (root_lines states at roots) ≤ length roots
unfolding roots_listed
roots-most states at [] = omega arith
roots-most states at (word ∷ words) =
    let rest = roots-most states (suc at) words in
    by-test (eqb word no_root) (λ e. rw e (omega arith)) (λ e. rw e (omega arith))
