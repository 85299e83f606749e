-- Laws about shapes: a root's matrix is columns around its phone, and the shift of a matrix's seven words is
-- the seven words of the shifted matrix.
use Rattle.std.specs.Prelude.{◌≡◌, refl, List, ◌∷◌, ◌++◌, leb, ltb, eqb, length, take, drop, replicate}
use Rattle.std.proofs.Math.Path.{sym, ap}
use Rattle.std.proofs.Common.{◌∙◌, length-append, length-drop, length-take-le, take_all, get_or-append-add}
use Prim.Native.Nat.{ℕ, suc, ◌+◌, ◌-◌, ◌*◌, ◌≤◌, ◌<◌, min}
use native.Mathlib.Omega.{arith}
use Rattle.std.proofs.lemmas.List.{length-replicate, get_or-replicate, get_or_at}
use Rattle.std.proofs.Math.ListN.{get_or-append, get_or-eq_default}
use Rattle.std.proofs.Math.Seq.{get_or-take, get_or-drop, ext_get_or}
use borrow.Author.Tests.{eqb-true, eqb-false, ltb-true, ltb-false, le-leb, lt-ltb, le-ltb, eq-eqb, ne_eqb}
use Rattle.definitions.specs.Lists.{if◌then◌else◌, ◌!◌}
use Rattle.definitions.specs.PhoneSets.{alone, all_phones}
use Rattle.definitions.specs.Matrices.{Matrix, most_columns, matrix_words, root_matrix, shift}
use Rattle.definitions.proofs.Laws.Lists.Tests.{by-test}
use Rattle.definitions.proofs.Laws.Lists.Lists.{map-up_from-length, map-up_from-at}
use Rattle.definitions.proofs.Laws.Matrices.SevenWords.{words-length, words-shift}
use Rattle.matrix.specs.Shapes.{columns_around, shifted_column, shifted_words}
use Rattle.matrix.specs.Laws.Words.{seven-length, seven_at}

-- ---- the places before and after one element

module _ (front back : List ℕ) (x : ℕ) {n : ℕ} (e : length front ≡ n) where
  front_at : (c : ℕ) → c < n → (front ++ (x ∷ back)) ! c ≡ front ! c
  front_at c h = get_or-append front (x ∷ back) 0 c (omega arith)

  back_at : (c : ℕ) → n < c → (front ++ (x ∷ back)) ! c ≡ back ! (c - suc n)
  back_at c h =
      let place : c ≡ length front + suc (c - suc n) = omega arith in
      ap (λ (i : ℕ). (front ++ (x ∷ back)) ! i) place ∙ get_or-append-add front (x ∷ back) (suc (c - suc n)) 0

-- ---- columns around a centre

root-around : (half phones p : ℕ)
    → root_matrix half phones p ≡ columns_around half (all_phones phones) (alone p) (all_phones phones)
unfolding root_matrix
root-around half phones p = refl

module _ (half left centre right : ℕ) where
  pub around-length : length (columns_around half left centre right) ≡ suc (2 * half)
  around-length = simp (length-append, length-replicate) (omega arith)

  pub around-words : half ≤ 3
      → take most_columns (matrix_words (columns_around half left centre right))
      ≡ matrix_words (columns_around half left centre right)
  around-words h =
      let m : Matrix = columns_around half left centre right in
      take_all most_columns (matrix_words m) (omega (arith, words-length m (omega (arith, around-length))))

  -- the columns, by place
  pub around-left : (column : ℕ) → column < half → left ≡ columns_around half left centre right ! column
  around-left column h =
      sym (front_at (replicate half left) (replicate half right) centre (length-replicate half left) column h
      ∙ get_or-replicate half column left 0 h)

  pub around-centre : (column : ℕ) → column ≡ half → centre ≡ columns_around half left centre right ! column
  around-centre column e =
      sym (get_or_at (replicate half left) centre (replicate half right) 0 column
      (length-replicate half left ∙ sym e))

  pub around-right : (column : ℕ) → half < column → column ≤ 2 * half
      → right ≡ columns_around half left centre right ! column
  around-right column h k =
      sym (back_at (replicate half left) (replicate half right) centre (length-replicate half left) column h
      ∙ get_or-replicate half (column - suc half) right 0 (omega arith))

  pub around-beyond : (column : ℕ) → 2 * half < column → 0 ≡ columns_around half left centre right ! column
  around-beyond column h =
      sym (get_or-eq_default (columns_around half left centre right) 0 {n = column}
      (omega (arith, around-length)))

  -- the seven words
  pub around-seven : length (take most_columns (matrix_words (columns_around half left centre right))) ≡ most_columns
  unfolding matrix_words
  around-seven = seven-length (columns_around half left centre right)

  pub around-at : (column : ℕ) → column < most_columns
      → columns_around half left centre right ! column
      ≡ take most_columns (matrix_words (columns_around half left centre right)) ! column
  unfolding matrix_words
  around-at column h = seven_at (columns_around half left centre right) column h

-- the matrix that a phone's roots carry, as the code shapes it
pub root-shaped : (half phones p : ℕ) → half ≤ 3 → phones ≤ 64 → p ≤ phones
    → {all centre : ℕ} {columns : List ℕ} → all ≡ all_phones (min phones 64)
    → centre ≡ (if leb p 64 then alone p else 0)
    → columns ≡ take most_columns (matrix_words (columns_around half all centre all))
    → columns ≡ matrix_words (root_matrix half phones p)
root-shaped half phones p narrow few high {all} {centre} a e s =
    let most : min phones 64 ≡ phones = omega arith in
    let sides : all ≡ all_phones phones = a ∙ ap all_phones most in
    let own : centre ≡ alone p = e ∙ rw (le-leb p 64 (omega arith)) in
    s ∙ around-words half all centre all narrow
    ∙ rw (sides, own) (ap matrix_words (sym (root-around half phones p)))

-- ---- the shift

module _ (last all : ℕ) (columns : List ℕ) where
  pub shifted-last : (column : ℕ) → column ≡ last → all ≡ shifted_column last all columns column
  unfolding shifted_column
  shifted-last column e = rw (eq-eqb column last e)

  pub shifted-beyond : (column : ℕ) → last < column → columns ! column ≡ shifted_column last all columns column
  unfolding shifted_column
  shifted-beyond column h = rw (ne_eqb column last (λ e. omega arith), lt-ltb last column h)

  pub shifted_next : (column : ℕ) → column < last → columns ! suc column ≡ shifted_column last all columns column
  unfolding shifted_column
  shifted_next column h = rw (ne_eqb column last (λ e. omega arith), le-ltb last column (omega arith))

  -- beyond the seventh
  pub shifted_end : (column : ℕ) → column < last → length columns ≤ suc column
      → 0 ≡ shifted_column last all columns column
  shifted_end column h k = sym (get_or-eq_default columns 0 {n = suc column} k) ∙ shifted_next column h

  pub shifted-length : length (shifted_words last all columns) ≡ most_columns
  unfolding shifted_words
  shifted-length = map-up_from-length (shifted_column last all columns) 0 most_columns

  pub shifted_at : (column : ℕ) → column < most_columns
      → shifted_column last all columns column ≡ shifted_words last all columns ! column
  unfolding shifted_words
  shifted_at column h =
      sym (map-up_from-at (shifted_column last all columns) 0 most_columns column column h (omega arith))

-- the shift of seven words, part by part
module _ (last all : ℕ) (words : List ℕ) (e : length words ≡ most_columns) (h : last < most_columns) where
  parts : List ℕ
  parts = take last (drop 1 words) ++ (all ∷ drop (suc last) words)

  front_length : length (take last (drop 1 words)) ≡ last
  front_length = length-take-le last (drop 1 words) (simp length-drop (omega arith))

  parts-front : (c : ℕ) → c < last → shifted_column last all words c ≡ parts ! c
  unfolding parts
  parts-front c l =
      let next : 1 + c ≡ suc c = omega arith in
      sym (front_at (take last (drop 1 words)) (drop (suc last) words) all front_length c l
      ∙ get_or-take last (drop 1 words) c 0 l ∙ get_or-drop 1 words c 0 ∙ ap (λ (i : ℕ). words ! i) next
      ∙ shifted_next last all words c l)

  parts_last : (c : ℕ) → c ≡ last → shifted_column last all words c ≡ parts ! c
  unfolding parts
  parts_last c q =
      sym (shifted-last last all words c q)
      ∙ sym (get_or_at (take last (drop 1 words)) all (drop (suc last) words) 0 c (front_length ∙ sym q))

  parts-back : (c : ℕ) → last < c → shifted_column last all words c ≡ parts ! c
  unfolding parts
  parts-back c l =
      let place : suc last + (c - suc last) ≡ c = omega arith in
      sym (back_at (take last (drop 1 words)) (drop (suc last) words) all front_length c l
      ∙ get_or-drop (suc last) words (c - suc last) 0 ∙ ap (λ (i : ℕ). words ! i) place
      ∙ shifted-beyond last all words c l)

  parts_at : (c : ℕ) → shifted_column last all words c ≡ parts ! c
  parts_at c = by-test (ltb c last) (λ t. parts-front c (ltb-true c last t))
      (λ t. by-test (eqb c last) (λ u. parts_last c (eqb-true c last u))
      (λ u. parts-back c (omega (arith, ltb-false c last t, eqb-false c last u))))

  parts-length : length parts ≡ most_columns
  unfolding parts
  parts-length = simp (length-append, front_length, length-drop) (omega arith)

  shifted-parts : shifted_words last all words ≡ take last (drop 1 words) ++ (all ∷ drop (suc last) words)
  unfolding parts
  shifted-parts =
      ext_get_or 0 (shifted_words last all words) parts (shifted-length last all words ∙ sym parts-length)
      (λ c l. sym (shifted_at last all words c (omega (arith, shifted-length last all words))) ∙ parts_at c)

-- the shift of a matrix's words is that of the matrix
pub shift-words : (phones last : ℕ) (m : Matrix) → last < most_columns → length m ≡ suc last
    → shifted_words last (all_phones phones) (matrix_words m) ≡ matrix_words (shift phones m)
shift-words phones last m h e =
    shifted-parts last (all_phones phones) (matrix_words m) (words-length m (omega arith)) h
    ∙ sym (words-shift phones last m e)
