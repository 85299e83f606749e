-- Laws about a row judged by the fixed ranges of its letter, field by field.
use Rattle.std.specs.Prelude.{◌≡◌, refl, List, [], ◌∷◌, Bool, true, false, ◌&&◌, ℕ, zero, suc, ◌+◌, ◌≤◌, ◌<◌, leb, take, drop}
use Rattle.std.proofs.Math.Path.{sym}
use Rattle.std.proofs.Common.{ap, ◌∙◌, add-one, drop_of_length-le}
use Rattle.std.proofs.Math.Option.{none, some}
use native.Mathlib.Omega.{arith}
use Rattle.std.proofs.Math.ListN.{length}
use Rattle.std.proofs.Math.Seq.{drop-cons}
use Rattle.definitions.specs.Lists.{◌!◌}
use Rattle.definitions.specs.Forms.{Range, Form, ◌‥◌}
use Rattle.definitions.specs.Lines.{form_of, in_ranges, in_fixed_ranges}
use Rattle.definitions.proofs.Laws.Lists.Tests.{by-test}
use Rattle.lines.specs.Places.{form_in, form_at, ranges_at, range_at, form_count}
use Rattle.lines.specs.Rows.{line_in}
use Rattle.lines.specs.declared.Row.{Row}
use Rattle.lines.specs.Laws.Tables.{form_here, form-here, ranges-here, used-few}

-- whether a number lies in a range
abbrev pub within : Range → ℕ → Bool
within range n = leb range.lowest n && leb n range.highest

-- the numbers before a field lie in the ranges of the letter at a place
pub record Judging (place used : ℕ) (numbers : List ℕ) (field : ℕ) : Type 0 where
  pub known : place < form_count
  pub many : used ≡ length (ranges_at place)
  pub few : used ≤ 5
  pub sized : length numbers ≡ 5
  pub rest : in_ranges (ranges_at place) numbers ≡ in_ranges (drop field (ranges_at place)) (drop field numbers)

pub judging-start : (place used : ℕ) (numbers : List ℕ) → place < form_count → used ≡ length (ranges_at place)
    → length numbers ≡ 5 → Judging place used numbers 0
judging-start place used numbers h e sized =
    record { known = h; many = e; few = omega (arith, used-few place h); sized = sized; rest = refl }

module _ {place used : ℕ} {numbers : List ℕ} {field : ℕ} (j : Judging place used numbers field) where
  abbrev range : Range
  range = range_at place field

  judged-next : field < used → in_ranges (ranges_at place) numbers
      ≡ (within range (numbers ! field)
      && in_ranges (drop (field + 1) (ranges_at place)) (drop (field + 1) numbers))
  unfolding in_ranges
  judged-next h =
      let range-there : field < length (ranges_at place) = omega arith in
      let number-there : field < length numbers = omega arith in
      j.rest ∙ rw (drop-cons (ranges_at place) field (0 ‥ 0), drop-cons numbers field 0, add-one)

  pub range-passed : field < used → within range (numbers ! field) ≡ true
      → Judging place used numbers (field + 1)
  range-passed h e =
      record { known = j.known; many = j.many; few = j.few; sized = j.sized; rest = judged-next h ∙ rw e }

  pub range-left : field < used → within range (numbers ! field) ≡ false
      → in_ranges (ranges_at place) numbers ≡ false
  range-left h e = judged-next h ∙ rw e

  pub ranges-end : used ≤ field → in_ranges (ranges_at place) numbers ≡ true
  unfolding in_ranges
  ranges-end h = j.rest ∙ rw (drop_of_length-le (ranges_at place) {i = field} (omega arith))

-- only the numbers in used fields count
ranges-taken : (ranges : List Range) (numbers : List ℕ) (used : ℕ) → length ranges ≤ used
    → in_ranges ranges (take used numbers) ≡ in_ranges ranges numbers
unfolding in_ranges
ranges-taken [] numbers used h = refl
ranges-taken (r ∷ ranges) numbers zero h = absurd (omega arith)
ranges-taken (r ∷ ranges) [] (suc used) h = refl
ranges-taken (r ∷ ranges) (n ∷ numbers) (suc used) h =
    ap (λ (rest : Bool). within r n && rest) (ranges-taken ranges numbers used (omega arith))

ranges-short : (ranges : List Range) (numbers : List ℕ) (used : ℕ) → used < length ranges
    → in_ranges ranges (take used numbers) ≡ false
unfolding in_ranges
ranges-short [] numbers used h = absurd (omega arith)
ranges-short (r ∷ ranges) numbers zero h = refl
ranges-short (r ∷ ranges) [] (suc used) h = refl
ranges-short (r ∷ ranges) (n ∷ numbers) (suc used) h =
    rw (ranges-short ranges numbers used (omega arith)) (by-test (within r n) (λ e. rw e) (λ e. rw e))

-- ---- a row by the place of its letter

module _ (forms : List Form) (row : Row) where
  pub row-unknown : form_of forms row.letter ≡ none → in_fixed_ranges forms (line_in row) ≡ false
  unfolding in_fixed_ranges line_in
  row-unknown unknown = rw (unknown, in_fixed_ranges)

module _
    (forms : List Form) (row : Row) (place : ℕ)
    (h : place < form_count) (e : form_at place ≡ form_of forms row.letter) where
  row-known : in_fixed_ranges forms (line_in row) ≡ in_ranges (ranges_at place) (take row.used row.numbers)
  unfolding in_fixed_ranges line_in
  row-known =
      let known : form_of forms row.letter ≡ some (form_here place) = sym e ∙ form-here place h in
      rw (known, in_fixed_ranges, ranges-here place h)

  pub row-short : row.used < length (ranges_at place) → in_fixed_ranges forms (line_in row) ≡ false
  row-short l = row-known ∙ ranges-short (ranges_at place) row.numbers row.used l

  pub row-full : length (ranges_at place) ≤ row.used
      → in_fixed_ranges forms (line_in row) ≡ in_ranges (ranges_at place) row.numbers
  row-full l = row-known ∙ ranges-taken (ranges_at place) row.numbers row.used l
