-- What opening a gap in words and writing columns into it leaves, word by word.
use Rattle.std.specs.Prelude.{◌≡◌, ◌⊎◌, List, ℕ, ◌+◌, ◌≤◌, ◌<◌, length}
use Rattle.definitions.specs.Lists.{◌!◌}

-- the words between two places moved on by `size`; the others before that are as they were
pub record Opened (size from end : ℕ) (before after : List ℕ) : Type 0 where
  pub sized : length after ≡ length before
  pub kept : (i : ℕ) → i < from + size → after ! i ≡ before ! i
  pub moved : (i : ℕ) → from ≤ i → i < end → after ! (i + size) ≡ before ! i

-- the first `count` of the new words written from a place on; the others are as they were
pub record Put (new : List ℕ) (from count : ℕ) (before after : List ℕ) : Type 0 where
  pub sized : length after ≡ length before
  pub put : (c : ℕ) → c < count → after ! (from + c) ≡ new ! c
  pub kept : (i : ℕ) → (i < from) ⊎ (from + count ≤ i) → after ! i ≡ before ! i
