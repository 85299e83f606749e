-- Laws about seven words that hold a matrix of so many columns: the matrix is read back from them, and words that
-- hold what it meets another in hold a matrix of that width.
use Rattle.std.specs.Prelude.{◌≡◌, List, ℕ, ◌≤◌, length, take}
use Rattle.std.proofs.Common.{sym, ap, ◌∙◌, arith, length-take, length-take-le}
use Rattle.definitions.specs.Matrices.{Matrix, most_columns, matrix_words, meet}
use Rattle.definitions.proofs.Laws.Matrices.Matrices.{meet-length}
use Rattle.definitions.proofs.Laws.Matrices.SevenWords.{words-length, words_take}
use Rattle.matrix.specs.Shapes.{HasWidth}

-- the words of a matrix of that width
module _ (m : Matrix) {width : ℕ} (e : length m ≡ width) {columns : List ℕ} (w : columns ≡ matrix_words m) where
  pub matrix-back : take width columns ≡ m
  matrix-back = ap (take width) w ∙ words_take m e

  pub has_width : HasWidth width columns
  has_width = w ∙ ap matrix_words (sym matrix-back)

module _ {width : ℕ} (narrow : width ≤ most_columns) {columns : List ℕ} (w : HasWidth width columns) where
  pub width-taken : length (take width columns) ≡ width
  width-taken =
      let seven = ap length w ∙ words-length (take width columns) (simp length-take (omega arith)) in
      length-take-le width columns (omega (arith, seven))

  -- met with a matrix of that width
  module _ (m : Matrix) (e : length m ≡ width) {met : List ℕ}
      (q : met ≡ matrix_words (meet (take width columns) m)) where
    met-length : length (meet (take width columns) m) ≡ width
    met-length = meet-length (take width columns) m (width-taken ∙ sym e) ∙ width-taken

    pub met-matrix : take width met ≡ meet (take width columns) m
    met-matrix = matrix-back (meet (take width columns) m) met-length q

    pub met-width : HasWidth width met
    met-width = has_width (meet (take width columns) m) met-length q
