-- Rows of bits that no follower of a matrix is missing from, and the search along them.
use Rattle.std.specs.Option.{unwrap_or}
use Rattle.std.specs.Prelude.{Option, IfSome, ◌≡◌, List, true, ℕ, ◌+◌, ◌/◌, ◌%◌, ◌≤◌, ◌<◌, T, length}
use Rattle.definitions.specs.Combinations.{most_combinations, Combination}
use Rattle.definitions.specs.PhoneSets.{has}
use Rattle.definitions.specs.Matrices.{Matrix}
use Rattle.index.specs.declared.rows.Rows.{Rows}
use Rattle.index.specs.Indexing.{block_size, farthest, IsSet, IsMarked}
use Rattle.index.specs.Following.{follows_at}

-- a row has the bit of each combination that follows
pub record Admits (shifted : Matrix) (combinations : List Combination) (index : List ℕ)
    (row : ℕ) : Type 0 where
  pub near : row ≤ farthest
  pub marked : (number : ℕ) → number < length combinations → follows_at shifted combinations number ≡ true
      → IsMarked index row number

pub record Admitting (shifted : Matrix) (combinations : List Combination) (index : List ℕ)
    (rows : Rows) : Type 0 where
  pub first : Admits shifted combinations index rows.first
  pub second : Admits shifted combinations index rows.second
  pub third : Admits shifted combinations index rows.third

-- rows that begin not too far
pub record Near (rows : Rows) : Type 0 where
  pub first : rows.first ≤ farthest
  pub second : rows.second ≤ farthest
  pub third : rows.third ≤ farthest

-- a place of a block is set in all three, and so the bit of a combination
pub record AllSet (index : List ℕ) (rows : Rows) (block place : ℕ) : Type 0 where
  pub first : IsSet index (rows.first + block) place
  pub second : IsSet index (rows.second + block) place
  pub third : IsSet index (rows.third + block) place

abbrev pub AllMarked : (index : List ℕ) → Rows → (number : ℕ) → Type 0
AllMarked index rows number = AllSet index rows (number / block_size) (number % block_size + 1)

-- a set that has the places of a block which are set in all three
abbrev pub HasAllSet : (index : List ℕ) → Rows → (block set : ℕ) → Type 0
HasAllSet index rows block set =
    (place : ℕ) → 1 ≤ place → place ≤ 64 → AllSet index rows block place → T (has place set)

-- a search along rows, from a combination on
pub record AlongRows (rows : Rows) (from count : ℕ) : Type 0 where
  pub near : Near rows
  pub within : from ≤ count
  pub few : count ≤ most_combinations

-- the next combination, from one on, whose bits are set in all rows: none stands before it
pub record NextMarked (index : List ℕ) (rows : Rows) (from count next : ℕ) : Type 0 where
  pub after : from ≤ next
  pub within : next ≤ count
  pub passed : (number : ℕ) → from ≤ number → number < next → AllMarked index rows number → ⊥

-- the combination that is found, if there is one
pub record MarkedFound (index : List ℕ) (rows : Rows) (from count : ℕ) (found : Option ℕ) : Type 0 where
  pub next : NextMarked index rows from count (unwrap_or found count)
  pub some : IfSome found (λ n. n < count)
