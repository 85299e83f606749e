-- Laws about lists of leaves read back: the words of leaves whose matrices have so many columns are a list of
-- these leaves, and those of a phone's trees have the columns of its book. Choosing reads the lists so.
use Rattle.std.specs.Prelude.{◌≡◌, leb, length}
use Rattle.std.proofs.Math.Path.{refl, ap}
use Rattle.std.proofs.Common.{sym, ◌∙◌, arith, lit<, le-leb}
use mathlib.Core.List.{List, [], ◌∷◌, map}
use Prim.Native.Nat.{ℕ, zero, suc, ◌≤◌}
use Rattle.std.proofs.Math.ListN.{take}
use Rattle.definitions.specs.Lists.{concat_map, up_from}
use Rattle.definitions.specs.Tables.{Book}
use Rattle.definitions.specs.Combinations.{Leaf, leaves_of}
use Rattle.definitions.proofs.Laws.Lists.Tests.{by-test}
use Rattle.definitions.proofs.Laws.Lists.Members.{map_back}
use Rattle.definitions.proofs.Laws.Matrices.Matrices.{root-length}
use Rattle.definitions.proofs.Laws.Matrices.SevenWords.{words-length, words_take}
use Rattle.definitions.proofs.Laws.Lists.Records.{written_all}
use Rattle.definitions.proofs.Laws.Trees.LeafMatrices.{leaf-inside}
use Rattle.matrix.specs.Shapes.{width_of}
use Rattle.leafsets.specs.Leaves.{leaf_size, leaf_words, leaves_for, leaf_in, leaves_in, IsList}
use Rattle.choices.specs.Laws.LeafLists.{Wide}

-- ---- leaves of one width

module _ (width : ℕ) where
  leaf-back : (l : Leaf) → length l.carried ≡ width → leaf_in width (leaf_words l) ≡ l
  unfolding leaf_in leaf_words
  leaf-back l e = rw (words_take l.carried e)

  module _ (narrow : width ≤ 7) where
    leaf-sized : (l : Leaf) → length l.carried ≡ width → length (leaf_words l) ≡ leaf_size
    unfolding leaf_words
    leaf-sized l e = ap suc (words-length l.carried (omega (arith, e)))

    -- read back they are the leaves
    pub read_back : (leaves : List Leaf) → Wide width leaves
        → leaves_in width (concat_map leaf_words leaves) ≡ leaves
    unfolding leaves_in
    read_back leaves w =
        ap (map (leaf_in width))
        (written_all leaf_words leaf_size leaves (λ l i. leaf-sized l (w l i)) (lit< tt))
        ∙ map_back leaf_words (leaf_in width) leaves (λ l i. leaf-back l (w l i))

    pub is-list : (leaves : List Leaf) → Wide width leaves → IsList width (concat_map leaf_words leaves)
    is-list leaves w = ap (concat_map leaf_words) (sym (read_back leaves w))

-- ---- the leaves of a phone's trees

module _ (book : Book) (phone : ℕ) where
  leaves-wide : (state : ℕ) → Wide (width_of book.half) (leaves_of book phone state)
  leaves-wide state l i =
      (leaf-inside book phone state l i).width
      ∙ omega (arith, root-length book.half book.phones phone)

  pub for-wide : (state : ℕ) → Wide (width_of book.half) (leaves_for book phone state)
  unfolding leaves_for
  for-wide state l i =
      by-test (leb state book.states) (λ t. leaves-wide state l (rw t at i)) (λ t. absurd (rw t at i))

  for-state : (state : ℕ) → state ≤ book.states → leaves_for book phone state ≡ leaves_of book phone state
  unfolding leaves_for
  for-state state h = rw (le-leb state book.states h)

  -- the trees are the first of three, of which those that the book lacks have none
  pub trees-for : 1 ≤ book.states → book.states ≤ 3
      → take book.states (leaves_for book phone 1 ∷ leaves_for book phone 2 ∷ leaves_for book phone 3 ∷ [])
      ≡ map (λ state. leaves_of book phone state) (up_from 1 book.states)
  unfolding up_from
  trees-for a b = go book.states refl a b
    where
      go : (k : ℕ) → book.states ≡ k → 1 ≤ k → k ≤ 3
          → take k (leaves_for book phone 1 ∷ leaves_for book phone 2 ∷ leaves_for book phone 3 ∷ [])
          ≡ map (λ state. leaves_of book phone state) (up_from 1 k)
      go zero e a b = absurd (omega arith)
      go (suc zero) e a b = rw (for-state 1 (omega arith))
      go (suc (suc zero)) e a b = rw (for-state 1 (omega arith), for-state 2 (omega arith))
      go (suc (suc (suc zero))) e a b =
          rw (for-state 1 (omega arith), for-state 2 (omega arith), for-state 3 (omega arith))
      go (suc (suc (suc (suc k)))) e a b = absurd (omega arith)
