-- Laws about a loop that meets the first columns of two matrices, held in seven words each: what holds before each
-- column, and what it gives at an empty one and past the last; about the test of its first word; and about a meeting
-- with words that hold a matrix. One proof serves every width.
use Rattle.std.specs.Prelude.{◌≡◌, List, Bool, true, not, ℕ, ◌+◌, ◌≤◌, ◌<◌, T, eqb, length, set, take}
use Rattle.std.proofs.Math.Path.{sym}
use Rattle.std.proofs.Common.{ap, ap₂, ◌∙◌, subst, arith, length-take, get_or-take, eq-eqb, ne_eqb, eqb-true}
use Rattle.std.proofs.Math.Numerals.{add-one}
use Rattle.std.specs.Int.Bits.{bit_and}
use Rattle.std.proofs.lemmas.Bool.{eqb-false}
use Rattle.definitions.specs.Lists.{◌!◌, cleared}
use Rattle.definitions.specs.Matrices.{Matrix, most_columns, matrix_words, meet, valid}
use Rattle.definitions.specs.Meeting.{columns_met, met_words}
use Rattle.definitions.proofs.Laws.Lists.Tests.{by-test}
use Rattle.definitions.proofs.Laws.Matrices.Matrices.{meet-column, meet-length}
use Rattle.definitions.proofs.Laws.Matrices.SevenWords.{words-column, words-length}
use Rattle.definitions.proofs.Laws.Matrices.Meeting.{NoneEmpty, valid-met, first_word, met-empty, met_all}
use Rattle.lines.specs.Laws.Filling.{filled-start}
use Rattle.matrix.specs.Laws.Widths.{matrix-back}
use Rattle.matrix.specs.Laws.Words.{Columns, columns-more, filled-rest, words-rest}

-- the columns before one were met, none of them empty, and are written
pub record Meeting (a b : List ℕ) (width column : ℕ) (columns : List ℕ) : Type 0 where
  pub within : column ≤ width
  pub filled : NoneEmpty (take width a) (take width b) column
  pub written : Columns (matrix_words (meet (take width a) (take width b))) column columns

pub meeting-start : (a b : List ℕ) (width : ℕ) → Meeting a b width 0 (cleared most_columns)
meeting-start a b width =
    record { within = omega arith; filled = λ c h. absurd (omega arith); written = filled-start _ _ }

module _ {a b : List ℕ} {width column : ℕ} {columns : List ℕ} (s : Meeting a b width column columns)
    (seven : length a ≡ most_columns) (same : length b ≡ length a) where
  abbrev m : Matrix
  m = take width a

  abbrev n : Matrix
  n = take width b

  widths : length m ≡ length n
  widths = simp (length-take, same)

  -- the next column
  module _ (h : column < width) (k : column < most_columns) where
    both : bit_and (m ! column) (n ! column) ≡ bit_and (a ! column) (b ! column)
    both = ap₂ bit_and (get_or-take width a column 0 h) (get_or-take width b column 0 h)

    inside : column < length m
    inside = rw length-take (omega arith)

    -- is empty: the meeting ends
    pub meeting-empty : bit_and (a ! column) (b ! column) ≡ 0
        → (cleared most_columns ≡ met_words m n) × (column + 1 ≡ columns_met m n)
    unfolding met_words
    meeting-empty z =
        let (count, invalid) = met-empty m n widths column inside s.filled (both ∙ z) in
        (rw invalid, add-one column ∙ sym count)

    -- is not, and is written
    pub meeting-more : (bit_and (a ! column) (b ! column) ≡ 0 → ⊥)
        → Meeting a b width (column + 1) (set columns column (bit_and (a ! column) (b ! column)))
    meeting-more some = record {
      within = omega arith;
      filled = λ c l z.
          by-test (eqb c column)
          (λ t. some (sym both ∙ ap (λ (i : ℕ). bit_and (m ! i) (n ! i)) (sym (eqb-true c column t)) ∙ z))
          (λ t. s.filled c (omega (arith, eqb-false c column t)) z);
      written =
          columns-more long s.written k
          (sym (words-column (meet m n) column ∙ meet-column m n column ∙ both));
    }
      where
        long : length (matrix_words (meet m n)) ≡ most_columns
        long = words-length (meet m n) (rw (meet-length m n widths, length-take) (omega arith))

  -- past the last column
  pub meeting-last : length m ≡ column → (columns ≡ met_words m n) × (column ≡ columns_met m n)
  meeting-last last =
      let (count, holds) = met_all m n widths (rw last s.filled) in
      let long : length (meet m n) ≡ column = meet-length m n widths ∙ last in
      let few : column ≤ most_columns = omega (arith, length-take width a, last) in (
        filled-rest s.written (words-rest (meet m n) column (omega (arith, long)) few) ∙ sym (valid-met m n holds),
        sym (count ∙ last),
      )

-- the first word tells whether the meeting is valid
pub first-tells : (a b : List ℕ) (width : ℕ) → length a ≡ most_columns → length b ≡ length a → 0 < width
    → {words : List ℕ} → words ≡ met_words (take width a) (take width b)
    → not (eqb (words ! 0) 0) ≡ valid (meet (take width a) (take width b))
first-tells a b width seven same some w =
    let m : Matrix = take width a in
    let n : Matrix = take width b in
    let columns : 0 < length (meet m n) =
    rw (meet-length m n (simp (length-take, same)), length-take) (omega arith) in
    let tells = first_word m n columns in
    rw w
    (by-test (valid (meet m n))
    (λ t. rw (ne_eqb (met_words m n ! 0) 0 (λ z. subst T (sym t ∙ tells.0 z) tt), t))
    (λ t. rw (eq-eqb (met_words m n ! 0) 0 (tells.1 t), t)))

-- met with the seven words of a matrix, in as many columns as it has
module _ (columns : List ℕ) (m : Matrix) {width : ℕ} (e : length m ≡ width) {other : List ℕ}
    (o : other ≡ matrix_words m) {count : ℕ} (w : count ≡ width) where
  pub met-test : {answer : Bool} → answer ≡ valid (meet (take count columns) (take count other))
      → answer ≡ valid (meet (take width columns) m)
  met-test a =
      a ∙ ap (λ (k : ℕ). valid (meet (take k columns) (take k other))) w
      ∙ ap (λ (n : Matrix). valid (meet (take width columns) n)) (matrix-back m e o)

  pub met-whole : valid (meet (take width columns) m) ≡ true → {met : List ℕ}
      → met ≡ met_words (take count columns) (take count other) → met ≡ matrix_words (meet (take width columns) m)
  met-whole holds a =
      a ∙ ap (λ (k : ℕ). met_words (take k columns) (take k other)) w
      ∙ ap (met_words (take width columns)) (matrix-back m e o) ∙ valid-met (take width columns) m holds
