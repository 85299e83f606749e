-- Laws about matrices by value: made column by column in seven words, and read from a list at a turn of a loop.
use Rattle.std.specs.Prelude.{◌≡◌, List, [], ◌++◌, ℕ, ◌+◌, ◌≤◌, ◌<◌, length, get_or, set, drop}
use Rattle.std.proofs.Common.{sym, ap, ◌∙◌, arith}
use Rattle.definitions.specs.Lists.{◌!◌, cleared, padded}
use Rattle.definitions.specs.Matrices.{Matrix, most_half, most_columns, matrix_words}
use Rattle.definitions.proofs.Laws.Lists.Lists.{drop-cleared}
use Rattle.definitions.proofs.Laws.Matrices.SevenWords.{words-column, words-length}
use Rattle.matrix.specs.Shapes.{width_of, matrix_in, HasWidth}
use Rattle.matrix.specs.Laws.Widths.{matrix-back, has_width}
use Rattle.matrix.specs.Laws.Words.{Columns, columns-more, filled-rest, words-rest}
use Rattle.lists.specs.Held.{start_of, list_in, Holds}
use Rattle.lists.specs.Laws.Held.{columns-length, place-within, list_at}

-- ---- made column by column

module _ {half : ℕ} (narrow : half ≤ most_half) (x : Matrix) (e : length x ≡ width_of half) where
  seven : length (matrix_words x) ≡ most_columns
  seven = words-length x (omega (arith, e))

  pub made_more : {c v : ℕ} {s : List ℕ} → Columns (matrix_words x) c s → c < width_of half → v ≡ x ! c
      → Columns (matrix_words x) (c + 1) (set s c v)
  made_more {c} f h q = columns-more seven f (omega arith) (q ∙ sym (words-column x c))

  pub made-end : {c : ℕ} {s : List ℕ} → Columns (matrix_words x) c s → width_of half ≤ c → s ≡ matrix_words x
  made-end {c} f h = filled-rest f (words-rest x c (omega (arith, e)) (omega (arith, f.within)))

-- those columns written over zeros
pub over-zeros : (x : Matrix) → length x ≤ most_columns → {width : ℕ} → width ≡ length x
    → x ++ drop width (cleared most_columns) ≡ matrix_words x
unfolding matrix_words padded
over-zeros x h {width} e = ap (λ (l : List ℕ). x ++ l) (drop-cleared width most_columns ∙ rw e)

-- ---- read from a list

-- the matrix at a place, read as a value
module _ {half : ℕ} {words : List ℕ} (h : Holds half words) (place : ℕ) (k : place < words ! 0) where
  pub width-at : length (get_or (list_in half words) place []) ≡ width_of half
  width-at =
      ap length (list_at half words place k)
      ∙ columns-length half words (start_of half place) (place-within h.space place (omega (arith, h.few)))

  module _ {columns : List ℕ} (e : columns ≡ matrix_words (get_or (list_in half words) place [])) where
    pub matrix-read : get_or (list_in half words) place [] ≡ matrix_in half columns
    matrix-read = sym (matrix-back (get_or (list_in half words) place []) width-at e)

    pub width-read : HasWidth (width_of half) columns
    width-read = has_width (get_or (list_in half words) place []) width-at e
