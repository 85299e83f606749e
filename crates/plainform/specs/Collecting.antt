-- Sets noted in lent words: after those that were noted, each further one at its first use.
use Rattle.std.specs.Prelude.{◌≡◌, List, ℕ, ◌+◌, ◌≤◌, length, take}
use Rattle.definitions.specs.PlainForm.{first_uses}

-- the words before and how many sets were noted in them, these uses, how many are noted then, and the words after
pub record Collected (before : List ℕ) (used : ℕ) (uses : List ℕ) (count : ℕ) (after : List ℕ) : Type 0 where
  pub sized : length after ≡ length before
  pub few : count ≤ used + length uses
  pub holds : take count after ≡ first_uses (take used before) uses
