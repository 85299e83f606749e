-- Laws about rows: a line goes into a row whole, and what a parsed row holds.
use Rattle.std.specs.Prelude.{◌≡◌, refl, List, [], ◌∷◌, ℕ, length, Some, None}
use Rattle.std.specs.List.{slice_get}
use Rattle.std.proofs.Common.{sym, ap, ◌∙◌}
use Rattle.std.proofs.Math.Option as maths
use Rattle.std.proofs.Math.Option.{none, some}
use Rattle.std.proofs.lemmas.Option.{none-some}
use Rattle.definitions.specs.Lists.{◌!◌}
use Rattle.definitions.specs.Lines.{Line}
use Rattle.definitions.proofs.Laws.Lists.Lists.{padded-take}
use Rattle.definitions.proofs.Laws.Matrices.SevenWords.{padded-column}
use Rattle.lines.specs.Rows.{line_in, row_of, parsed_of, option_of}
use Rattle.lines.specs.declared.Row.{Row}

pub line-back : (line : Line) → line_in (row_of line) ≡ line
unfolding line_in row_of
line-back line = rw (padded-take 5 (length line.numbers) line.numbers refl)

-- the numbers beyond the line's are 0
pub number_read : (row : Row) → row ≡ row_of (line_in row) → (i : ℕ) → row.numbers ! i ≡ (line_in row).numbers ! i
unfolding row_of
number_read row e i = ap (λ (r : Row). r.numbers ! i) e ∙ padded-column 5 (line_in row).numbers i

-- ---- an option of the definitions, by the one of the code

pub of-none : {A B : Type 0} (f : A → B) (o : maths.Option A) → option_of f o ≡ None → none ≡ o
unfolding option_of
of-none f none e = refl
of-none f (some a) e = absurd (none-some _ (sym e))

pub of-some : {A : Type 0} (o : maths.Option A) {a : A} → option_of (λ a. a) o ≡ Some a → some a ≡ o
unfolding option_of
of-some none {a} e = absurd (none-some a e)
of-some (some b) e = cc

-- ---- what the parser's answer says of the line

pub none-parsed : (o : maths.Option Line) → None ≡ parsed_of o → o ≡ none
unfolding option_of
none-parsed none e = refl
none-parsed (some line) e = absurd (none-some _ e)

pub some-parsed : (o : maths.Option Line) {row : Row} → Some row ≡ parsed_of o → o ≡ some (line_in row)
unfolding option_of
some-parsed none e = absurd (none-some _ (sym e))
some-parsed (some line) {row} e =
    let same : row ≡ row_of line = cc in ap some (sym (ap line_in same ∙ line-back line))

-- beyond the line's numbers its row has 0
pub whole_row : (o : maths.Option Line) {row : Row} → Some row ≡ parsed_of o → row ≡ row_of (line_in row)
unfolding option_of
whole_row none e = absurd (none-some _ (sym e))
whole_row (some line) {row} e =
    let same : row ≡ row_of line = cc in same ∙ ap row_of (sym (ap line_in same ∙ line-back line))

-- ---- the letter of a line

pub no-letter : (s : List ℕ) → slice_get s 0 ≡ None → length s ≡ 0
no-letter [] e = refl
no-letter (b ∷ s) e = absurd (none-some b (sym e))

pub the-letter : (s : List ℕ) {b : ℕ} → slice_get s 0 ≡ Some b → b ≡ s ! 0
the-letter [] {b} e = absurd (none-some b e)
the-letter (a ∷ s) e = cc
