-- The search for the next combination that follows.
use Rattle.std.specs.Option.{unwrap_or}
use Rattle.std.specs.Prelude.{Option, IfSome, List, Bool, ℕ, ◌<◌, length}
use Rattle.definitions.specs.Matrices.{Matrix, valid, meet}
use Rattle.definitions.specs.Combinations.{Combination}
use Rattle.definitions.specs.Metastates.{numbered}
use Rattle.definitions.specs.Searching.{NoneFrom, FirstFrom}

-- whether a combination follows: its matrix meets the shifted matrix validly
abbrev pub follows_at : (shifted : Matrix) → List Combination → (number : ℕ) → Bool
follows_at shifted combinations number = valid (meet shifted (numbered combinations number).carried)

-- where to look after a combination: none from it up to the next follows
abbrev pub Beyond : (shifted : Matrix) → List Combination → (number next : ℕ) → Type 0
Beyond shifted combinations number next =
    (number < next) × NoneFrom (follows_at shifted combinations) (length combinations) number next

-- the first combination, from one on, that follows, or the number of combinations
abbrev pub NextFollower : (shifted : Matrix) → List Combination → (from number : ℕ) → Type 0
NextFollower shifted combinations from number =
    FirstFrom (follows_at shifted combinations) (length combinations) from number

-- the combination that is found, if there is one
pub record FollowerFound (shifted : Matrix) (combinations : List Combination) (from : ℕ) (found : Option ℕ)
    : Type 0 where
  pub next : NextFollower shifted combinations from (unwrap_or found (length combinations))
  pub some : IfSome found (λ n. n < length combinations)
