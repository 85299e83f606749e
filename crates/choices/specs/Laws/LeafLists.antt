-- Laws about a list of leaves read back from its words: how many leaves there are, where the node and the
-- matrix of each stand, and how wide it is.
use Rattle.std.specs.Prelude.{◌≡◌, get_or}
use Rattle.std.proofs.Math.Path.{sym, ap}
use Rattle.std.proofs.Common.{◌∙◌, lit<, length-drop, drop-drop}
use mathlib.Core.List.{List, []}
use Prim.Native.Nat.{ℕ, suc, ◌+◌, ◌*◌, ◌/◌, ◌≤◌, ◌<◌}
use native.Mathlib.Omega.{arith}
use Rattle.std.proofs.Math.ListN.{length, take, drop, length-map, length-take}
use Rattle.std.proofs.Math.Seq.{get_or-drop, get_or-take}
use Rattle.definitions.specs.Lists.{◌!◌, concat_map, records, IsIn}
use Rattle.definitions.specs.Matrices.{Matrix, most_columns, matrix_words}
use Rattle.definitions.specs.Combinations.{Leaf}
use Rattle.definitions.proofs.Laws.Lists.Lists.{concat_map-map, map_at, drop-take}
use Rattle.definitions.proofs.Laws.Lists.Records.{records-length, record-at, record-again}
use Rattle.definitions.proofs.Laws.Lists.Members.{place_of}
use Rattle.definitions.proofs.Laws.Matrices.SevenWords.{words-length}
use Rattle.leafsets.specs.Leaves.{leaf_size, leaf_words, leaf_in, leaves_in, IsList}
use Rattle.choices.specs.Choices.{no_leaf}

module _ (width : ℕ) (words : List ℕ) where
  abbrev parts : List (List ℕ)
  parts = records leaf_size (length words / leaf_size) words

  pub leaves-length : length (leaves_in width words) ≡ length words / leaf_size
  unfolding leaves_in
  leaves-length =
      length-map parts (leaf_in width) ∙ records-length leaf_size (length words / leaf_size) words

  -- the words of the leaf at a place
  module _ (place : ℕ) (h : place < length (leaves_in width words)) where
    abbrev pub leaf_at : Leaf
    leaf_at = get_or (leaves_in width words) place no_leaf

    listed : place < length words / leaf_size
    listed = omega (arith, leaves-length)

    pub leaf-within : leaf_size * place + leaf_size ≤ length words
    leaf-within = omega (arith, listed)

    leaf-is : leaf_at ≡ leaf_in width (take leaf_size (drop (leaf_size * place) words))
    unfolding leaves_in
    leaf-is =
        map_at (leaf_in width) parts [] no_leaf place (rw records-length listed)
        ∙ ap (leaf_in width) (record-at leaf_size (length words / leaf_size) words place listed)

    pub leaf-node : words ! (leaf_size * place) ≡ leaf_at.node
    unfolding leaf_in
    leaf-node =
        let first : leaf_size * place + 0 ≡ leaf_size * place = omega arith in
        let words-from : List ℕ = drop (leaf_size * place) words in
        sym (ap (λ (l : Leaf). l.node) leaf-is ∙ get_or-take leaf_size words-from 0 0 (omega arith)
        ∙ get_or-drop (leaf_size * place) words 0 0 ∙ rw first)

    pub leaf-width : width ≤ most_columns → length leaf_at.carried ≡ width
    unfolding leaf_in
    leaf-width narrow =
        ap (λ (l : Leaf). length l.carried) leaf-is
        ∙ simp (length-take, length-drop) (omega (arith, leaf-within))

    -- where the words are such a list, its matrix stands as seven words
    module _ (narrow : width ≤ most_columns) (is : IsList width words) where
      again : List ℕ → List ℕ
      again part = leaf_words (leaf_in width part)

      again-length : (part : List ℕ) → length (again part) ≡ leaf_size
      unfolding again leaf_words leaf_in
      again-length part =
          let m : Matrix = take width (drop 1 part) in
          ap suc (words-length m (simp length-take (omega arith)))

      flat : words ≡ concat_map again parts
      unfolding again leaves_in
      flat = is ∙ concat_map-map leaf_words (leaf_in width) parts

      pub leaf-columns : take most_columns (drop (leaf_size * place + 1) words) ≡ matrix_words leaf_at.carried
      unfolding again leaf_words
      leaf-columns =
          let from : List ℕ = drop (leaf_size * place) words in
          ap (take most_columns) (sym (drop-drop 1 (leaf_size * place) words)) ∙ sym (drop-take 1 most_columns from)
          ∙ ap (drop 1) (sym (record-again again leaf_size (lit< tt) again-length words flat place listed))
          ∙ ap (λ (l : Leaf). matrix_words l.carried) (sym leaf-is)

-- leaves whose matrices have so many columns
abbrev pub Wide : (width : ℕ) → List Leaf → Type 0
Wide width leaves = (l : Leaf) → IsIn l leaves → length l.carried ≡ width

pub list-wide : (width : ℕ) (words : List ℕ) → width ≤ most_columns → Wide width (leaves_in width words)
list-wide width words narrow l i =
    let (place, h, e) = place_of l (leaves_in width words) no_leaf i in
    ap (λ (k : Leaf). length k.carried) (sym e) ∙ leaf-width width words place h narrow
