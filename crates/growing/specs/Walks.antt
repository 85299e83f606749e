-- Walks along chains: by the keys of the elements alone, and by a test of places.
use Rattle.std.specs.Prelude.{◌≡◌, List, Bool, true, false, Option, None, Some, ℕ, ◌≤◌, ◌<◌, length, [], ◌∷◌}
use Rattle.definitions.specs.Lists.{◌!◌}
use Rattle.growing.specs.Chains.{Code, head_of, heads_in, Linked, link_of}

-- keys as elements
abbrev pub key_code : Code ℕ
key_code = record { nothing = 0; size = 1; words = λ key. key ∷ []; read = λ row. row ! 0; key = λ key. key }

-- chains through elements of these keys, at whose places the test may be made
pub record Walkable (asks : ℕ → Type 0) (chains keys : List ℕ) : Type 0 where
  pub linked : Linked key_code (heads_in chains) chains keys
  pub asked : (i : ℕ) → i < length keys → asks i

-- what a walk along the chain of a key answers: a place at which the test held, or none where it held at none that has
-- the head of the key
pub record Walked (tells : ℕ → Bool → Type 0) (heads : ℕ) (keys : List ℕ) (key : ℕ) (answer : Option ℕ) : Type 0 where
  pub none : answer ≡ None → (i : ℕ) → i < length keys → head_of heads (keys ! i) ≡ head_of heads key → tells i false
  pub some : (place : ℕ) → answer ≡ Some place → (place < length keys) × tells place true

-- the test held at none from the next place of the chain on, if there is one, which has the head
pub record Passed (tells : ℕ → Bool → Type 0) (heads : ℕ) (keys : List ℕ) (key : ℕ) (next : Option ℕ) : Type 0 where
  pub within : link_of next ≤ length keys
  pub own : (i : ℕ) → next ≡ Some i → head_of heads (keys ! i) ≡ head_of heads key
  pub none_after : (i : ℕ) → link_of next ≤ i → i < length keys → head_of heads (keys ! i) ≡ head_of heads key
      → tells i false
