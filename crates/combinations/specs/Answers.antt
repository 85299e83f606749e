-- What combining answers, and what it leaves.
use Rattle.std.specs.Prelude.{Result, ◌≡◌, List, map, ℕ, suc, length}
use Rattle.definitions.specs.declared.Fault.{Fault}
use Rattle.definitions.specs.Faults.{Outcome, answered, refused}
use Rattle.definitions.specs.Lists.{concat_map, up_from, cleared, padded}
use Rattle.definitions.specs.Tables.{Book}
use Rattle.definitions.specs.Combinations.{Combination, combinations_of, combinations}
use Rattle.choices.specs.Space.{added_in, Grown}
use Rattle.combinations.specs.declared.ByPhone.{ByPhone}

-- how many combinations belong to phones up to one
unfoldable pub end_of : Book → (phone : ℕ) → ℕ
end_of book phone = length (concat_map (λ p. combinations_of book p) (up_from 1 phone))

-- of phone 0, which has none, and of each phone
unfoldable pub ends_of : Book → List ℕ
ends_of book = map (end_of book) (up_from 0 (suc book.phones))

-- 0 after a refusal
unfoldable pub ends_left : Book → Outcome (List Combination) → List ℕ
ends_left book (answered found) = padded 65 (ends_of book)
ends_left book (refused r) = cleared 65

-- the count and the ends
abbrev pub by_phone : Book → (found : List Combination) → ByPhone
by_phone book found = record { count = length found; ends = padded 65 (ends_of book) }

-- ---- the combinations of all phones

-- space without a record, and no ends noted
pub record Clear (space ends : List ℕ) : Type 0 where
  pub space_clear : space ≡ cleared (length space)
  pub ends_clear : ends ≡ cleared 65

abbrev pub all_in : Book → (space : List ℕ) → Outcome (List Combination)
all_in book space = added_in book.half (length space) 0 (combinations book)

-- what adding them to such space answers and leaves, with how many there are after each phone
pub record AllAdded (book : Book) (space : List ℕ) (answer : Result ℕ Fault) (space' ends' : List ℕ) : Type 0 where
  pub grown : Grown book.half space 0 (all_in book space) answer space'
  pub noted : (found : List Combination) → all_in book space ≡ answered found → ends' ≡ padded 65 (ends_of book)
