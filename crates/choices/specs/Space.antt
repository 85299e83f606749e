-- Combinations in lent space: those added so far, and what adding more answers and leaves.
use Rattle.std.specs.Prelude.{Result, Ok, Err, ◌≡◌, List, [], ◌∷◌, ◌++◌, ℕ, ◌+◌, ◌*◌, ◌≤◌, leb, length, take}
use Rattle.definitions.specs.declared.Fault.{Fault}
use Rattle.definitions.specs.declared.Fault.TheVariants.{Choices}
use Rattle.definitions.specs.Faults.{Outcome, answered, refused, judge, ◌unless◌}
use Rattle.definitions.specs.Lists.{concat_map, padded}
use Rattle.definitions.specs.Combinations.{Combination, combination_size, combination_words, combination_room}

-- space that holds so many records of a book with this half-width, and 0 after them
pub record Holding (half : ℕ) (space : List ℕ) (count : ℕ) : Type 0 where
  pub roomy : count ≤ combination_room half (length space)
  pub rest : space ≡ padded (length space) (take (combination_size half * count) space)

-- combinations added to so many, in lent space of so many words: 30 where they have no room
unfoldable pub added_in : (half space count : ℕ) → (new : List Combination) → Outcome (List Combination)
added_in half space count new =
    judge 0 (Choices unless leb (count + length new) (combination_room half space) ∷ []) (answered new)

unfoldable pub adding_of : (count : ℕ) → Outcome (List Combination) → Result ℕ Fault
adding_of count (answered new) = Ok (count + length new)
adding_of count (refused r) = Err r.fault

-- the words before, how many records they hold, the outcome, the answer, and the words after
pub record Grown (half : ℕ) (before : List ℕ) (count : ℕ) (outcome : Outcome (List Combination)) (answer : Result ℕ Fault)
    (after : List ℕ) : Type 0 where
  pub answers : answer ≡ adding_of count outcome
  pub holds : (new : List Combination) → outcome ≡ answered new
      → after ≡ padded (length before)
      (take (combination_size half * count) before ++ concat_map (combination_words half) new)
  pub sized : length after ≡ length before

-- what adding these combinations answers and leaves
abbrev pub Added : (half : ℕ) → (before : List ℕ) → (count : ℕ) → (new : List Combination) → (answer : Result ℕ Fault)
    → (after : List ℕ) → Type 0
Added half before count new answer after =
    Grown half before count (added_in half (length before) count new) answer after
