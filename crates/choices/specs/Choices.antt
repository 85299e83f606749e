-- Choices of leaves, one from each of a phone's first trees, and the combinations that begin with one.
use Rattle.std.specs.Option.{unwrap_or}
use Rattle.std.specs.Prelude.{Option, IfSome, ◌≡◌, List, [], ◌∷◌, Bool, true, ℕ, ◌+◌, ◌≤◌, ◌<◌, T, length, set, take, get_or}
use Rattle.definitions.specs.Lists.{padded}
use Rattle.definitions.specs.Matrices.{Matrix, most_columns, matrix_words, valid, meet}
use Rattle.definitions.specs.Combinations.{Leaf, Combination, choose}
use Rattle.definitions.specs.Searching.{FirstFrom}
use Rattle.matrix.specs.Shapes.{HasWidth}
use Rattle.leafsets.specs.Leaves.{leaves_in, IsList}
use Rattle.choices.specs.declared.Choice.{Choice}

-- a choice as the definition has it: its leaves, and its matrix of so many columns
abbrev pub leaves_taken : Choice → List ℕ
leaves_taken choice = take choice.taken choice.leaves

abbrev pub matrix_met : (width : ℕ) → Choice → Matrix
matrix_met width choice = take width choice.matrix.columns

-- the combination that it is, where a leaf of each tree is taken
abbrev pub combination_of : (width : ℕ) → Choice → Combination
combination_of width choice =
    record { phone = choice.phone; leaves = leaves_taken choice; carried = matrix_met width choice }

-- a choice that may be made: valid, with 0 beyond its leaves and columns
pub record Chosen (width : ℕ) (choice : Choice) : Type 0 where
  pub narrow : width ≤ most_columns
  pub leaves : choice.leaves ≡ padded 3 (leaves_taken choice)
  pub matrix : HasWidth width choice.matrix.columns
  pub holds : T (valid (matrix_met width choice))

-- a choice, and lists of leaves for the trees that are left
pub record Choosable (width trees : ℕ) (first second third : List ℕ) (choice : Choice) : Type 0 where
  pub chosen : Chosen width choice
  pub few : choice.taken + trees ≤ 3
  pub first_is : IsList width first
  pub second_is : IsList width second
  pub third_is : IsList width third

-- the trees that are left
abbrev pub trees_in : (width trees : ℕ) → (first second third : List ℕ) → List (List Leaf)
trees_in width trees first second third =
    take trees (leaves_in width first ∷ leaves_in width second ∷ leaves_in width third ∷ [])

-- the combinations that begin with a choice
abbrev pub chosen_from : (width trees : ℕ) → (first second third : List ℕ) → Choice → List Combination
chosen_from width trees first second third choice =
    choose choice.phone (leaves_taken choice) (matrix_met width choice)
    (trees_in width trees first second third)

abbrev pub no_leaf : Leaf
no_leaf = record { node = 0; carried = [] }

-- whether the leaf at a place meets a matrix validly
abbrev pub fits_at : (m : Matrix) → List Leaf → (place : ℕ) → Bool
fits_at m leaves place = valid (meet m (get_or leaves place no_leaf).carried)

-- the first place, from one on, of a leaf that meets a matrix validly, or the number of leaves
abbrev pub FirstFit : (m : Matrix) → List Leaf → (from place : ℕ) → Type 0
FirstFit m leaves from place = FirstFrom (fits_at m leaves) (length leaves) from place

-- that place, if there is one
pub record FitFound (m : Matrix) (leaves : List Leaf) (from : ℕ) (place : Option ℕ) : Type 0 where
  pub first : FirstFit m leaves from (unwrap_or place (length leaves))
  pub inside : IfSome place (λ p. p < length leaves)

-- a leaf that can be taken too: it meets the choice's matrix validly, and a tree is left for it
pub record Takeable (width : ℕ) (choice : Choice) (words : List ℕ) (place : ℕ) : Type 0 where
  pub chosen : Chosen width choice
  pub is : IsList width words
  pub more : choice.taken < 3
  pub inside : place < length (leaves_in width words)
  pub fits : fits_at (matrix_met width choice) (leaves_in width words) place ≡ true

-- the choice with the leaf at a place of a list taken too
abbrev pub WithLeaf : (width : ℕ) → Choice → (words : List ℕ) → (place : ℕ) → Choice → Type 0
WithLeaf width choice words place next =
    (next.phone ≡ choice.phone) × (next.taken ≡ choice.taken + 1)
    × (next.leaves ≡ set choice.leaves choice.taken (get_or (leaves_in width words) place no_leaf).node)
    × (next.matrix.columns
    ≡ matrix_words (meet (matrix_met width choice) (get_or (leaves_in width words) place no_leaf).carried))
