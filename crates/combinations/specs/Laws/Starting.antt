-- Laws about the choice that a phone starts with: no leaf, and the matrix that its roots carry. It may be made,
-- and the combinations that begin with it are the phone's.
use Rattle.std.specs.Prelude.{◌≡◌, refl, List, [], ◌∷◌, ℕ, ◌≤◌, ◌<◌, T, eqb, length, take}
use Rattle.std.proofs.Common.{arith, le-leb, lt-ltb, eqb-true, eq-eqb}
use Rattle.std.proofs.lemmas.Bool.{eqb-false}
use Rattle.definitions.specs.Lists.{◌!◌, concat_map, padded}
use Rattle.definitions.specs.PhoneSets.{has}
use Rattle.definitions.specs.Matrices.{Matrix, matrix_words, root_matrix, valid}
use Rattle.definitions.specs.Tables.{Book}
use Rattle.definitions.specs.Combinations.{Leaf, combinations_of}
use Rattle.definitions.proofs.Laws.Lists.Tests.{by-test}
use Rattle.definitions.proofs.Laws.Matrices.PhoneSets.{has-alone, has_all}
use Rattle.definitions.proofs.Laws.Matrices.Matrices.{root-column, root-other, root-length, valid-columns}
use Rattle.matrix.specs.Laws.Widths.{matrix-back, has_width}
use Rattle.matrix.specs.declared.Matrix as shaped
use Rattle.matrix.specs.Shapes.{width_of}
use Rattle.leafsets.specs.Leaves.{leaf_words, leaves_for, leaves_in, IsList}
use Rattle.choices.specs.declared.Choice.{Choice}
use Rattle.choices.specs.Choices.{Chosen, chosen_from}
use Rattle.choices.specs.Laws.ReadBack.{read_back, is-list, for-wide, trees-for}

-- ---- the matrix that a phone's roots carry

module _ (half phones p : ℕ) (low : 1 ≤ p) (high : p ≤ phones) where
  abbrev root : Matrix
  root = root_matrix half phones p

  -- the phone itself is in every column
  root-member : (c : ℕ) → c < length root → T (has p (root ! c))
  root-member c k = by-test (eqb c half)
      (λ t. rw (eqb-true c half t, root-column half phones p, has-alone p p low, eq-eqb p p refl) tt)
      (λ t. rw (
        root-other half phones p c (omega (arith, root-length half phones p)) (eqb-false c half t),
        has_all p phones,
        lt-ltb 0 p low,
        le-leb p phones high,
      ) tt)

  pub root-valid : T (valid (root_matrix half phones p))
  root-valid = (valid-columns root).1 (λ c k. (p, root-member c k))

-- ---- the choice that a phone of a book starts with, over the lists of its leaves

abbrev pub start_of : (phone : ℕ) → (top : shaped.Matrix) → Choice
start_of phone top = record { phone = phone; taken = 0; leaves = 0 ∷ 0 ∷ 0 ∷ []; matrix = top }

module _ (book : Book) (phone width : ℕ) (e : width ≡ width_of book.half) (narrow : book.half ≤ 3) where
  list-leaves : (state : ℕ) {words : List ℕ} → words ≡ concat_map leaf_words (leaves_for book phone state)
      → leaves_in width words ≡ leaves_for book phone state
  list-leaves state l =
      let leaves : List Leaf = leaves_for book phone state in
      rw (l, e) (read_back (width_of book.half) (omega arith) leaves (for-wide book phone state))

  pub list-is : (state : ℕ) {words : List ℕ} → words ≡ concat_map leaf_words (leaves_for book phone state)
      → IsList width words
  list-is state l =
      let leaves : List Leaf = leaves_for book phone state in
      rw (l, e) (is-list (width_of book.half) (omega arith) leaves (for-wide book phone state))

  module _ (top : shaped.Matrix) (t : top.columns ≡ matrix_words (root_matrix book.half book.phones phone))
    where
      top-width : length (root_matrix book.half book.phones phone) ≡ width
      top-width = omega (arith, e, root-length book.half book.phones phone)

      top-met : take width top.columns ≡ root_matrix book.half book.phones phone
      top-met = matrix-back _ top-width t

      pub start-chosen : 1 ≤ phone → phone ≤ book.phones → Chosen width (start_of phone top)
      unfolding padded
      start-chosen low high = record {
        narrow = omega arith;
        leaves = refl;
        matrix = has_width _ top-width t;
        holds = rw top-met (root-valid book.half book.phones phone low high);
      }

      module _ (some : 1 ≤ book.states) (few : book.states ≤ 3) {first second third : List ℕ}
          (a : first ≡ concat_map leaf_words (leaves_for book phone 1))
          (b : second ≡ concat_map leaf_words (leaves_for book phone 2))
          (c : third ≡ concat_map leaf_words (leaves_for book phone 3))
        where
          pub start-all : chosen_from width book.states first second third (start_of phone top)
              ≡ combinations_of book phone
          unfolding combinations_of
          start-all =
              rw (top-met, list-leaves 1 a, list-leaves 2 b, list-leaves 3 c, trees-for book phone some few)
