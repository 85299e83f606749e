-- A search over places with a test, as the code puts it: which places were passed, and where the search ends.
use Rattle.std.specs.Prelude.{◌≡◌, Bool, true, false, ℕ, ◌≤◌, ◌<◌}

-- from one place up to another, the test fails
pub record NoneFrom (test : ℕ → Bool) (size from place : ℕ) : Type 0 where
  pub after : from ≤ place
  pub within : place ≤ size
  pub passed : (i : ℕ) → from ≤ i → i < place → test i ≡ false

-- the first place, from one on, where the test holds, or the number of places
pub record FirstFrom (test : ℕ → Bool) (size from place : ℕ) : Type 0 where
  pub none : NoneFrom test size from place
  pub found : place < size → test place ≡ true
