-- Laws about finding a line again in the text: line by line, those before are not the one that passes.
-- The proof of the function that looks for it goes by them.
use Rattle.std.specs.Prelude.{◌≡◌, refl, Option, Some, None, List, ◌∷◌, map, Bool, true, false, ℕ, suc, ◌+◌, ◌/◌, ◌≤◌, ◌<◌, length, drop}
use Rattle.std.proofs.Math.Path.{sym, ap}
use Rattle.std.proofs.Common.{◌∙◌}
use Rattle.std.proofs.Math.Numerals.{add-one}
use Rattle.definitions.specs.Lines.{line_of, lines_of}
use Rattle.definitions.specs.BookReading.{line_where}
use Rattle.lines.specs.Judging.{line_bytes}
use Rattle.definitions.specs.BookLines.{BookLine, R, book_line}
use Rattle.definitions.specs.Forms.{book_forms}
use Rattle.definitions.specs.Lists.{padded}
use Rattle.lines.specs.Rows.{line_in, row_of, parsed_of, given}
use Rattle.lines.specs.declared.Row.{Row}
use Rattle.book.specs.Steps.{book_taken, line_number_of}
use Rattle.lines.specs.Laws.Texts.{lines_at, lines_end}

-- what the bytes of a line are taken for, by what the parser gives
pub row-taken : (bytes : List ℕ) {row : Row} → Some row ≡ parsed_of (line_of book_forms bytes)
    → book_taken bytes ≡ book_line (line_in row)
row-taken bytes e = ap (λ (o : Option Row). book_line (line_in (given o))) (sym e)

pub misprint-taken : (bytes : List ℕ) (parsed : Option Row) → parsed ≡ parsed_of (line_of book_forms bytes)
    → ((row : Row) → parsed ≡ Some row → ⊥) → book_taken bytes ≡ R 0 0 0
unfolding book_line line_in row_of padded
misprint-taken bytes None e n = ap (λ (o : Option Row). book_line (line_in (given o))) (sym e)
misprint-taken bytes (Some row) e n = absurd (n row refl)

module _ (text : List ℕ) (test : BookLine → Bool) where
  -- the number of the line that passes the test, among the lines from the i-th on
  abbrev from_line : (i : ℕ) → List (List ℕ) → ℕ
  from_line i lines = line_where test (suc i) (map book_taken lines)

  -- none of the first i lines passes
  abbrev pub Passed : (i : ℕ) → Type 0
  Passed i = line_number_of text test ≡ from_line i (drop i (lines_of text))

  pub passed_none : Passed 0
  passed_none = refl

  module _ (i : ℕ) (p : Passed i) where
    pub found-end : length text / 32 ≤ i → i + 1 ≡ line_number_of text test
    unfolding line_where
    found-end e = add-one i ∙ sym (p ∙ ap (from_line i) (lines_end text i e))

    module _ (l : i < length text / 32) where
      here : line_number_of text test ≡ from_line i (line_bytes text i ∷ drop (suc i) (lines_of text))
      here = p ∙ ap (from_line i) (lines_at text i l)

      pub found_here : test (book_taken (line_bytes text i)) ≡ true → i + 1 ≡ line_number_of text test
      unfolding line_where
      found_here e = add-one i ∙ sym (here ∙ rw e)

      pub passed-more : test (book_taken (line_bytes text i)) ≡ false → Passed (i + 1)
      unfolding line_where
      passed-more e = rw (add-one i) (here ∙ rw e)
