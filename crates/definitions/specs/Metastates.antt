-- Document 01, "Matrices and metastates" and "Connecting": metastates, which of them start, follow one
-- another and end.
use Rattle.std.specs.Prelude.{if◌then◌else◌, List, [], ◌∷◌, map, Bool, ◌&&◌, ℕ, suc, ◌+◌, eqb, get_or}
use Rattle.definitions.specs.Lists.{same}
use Rattle.definitions.specs.Matrices.{Matrix, matrix_size, matrix_record, valid, meet, shift, start_cut}
use Rattle.definitions.specs.Matrices.{ends_here}
use Rattle.definitions.specs.Tables.{Book}
use Rattle.definitions.specs.Lookup.{model_at}
use Rattle.definitions.specs.Combinations.{Combination}

-- "A metastate is a combination's number with a matrix"
pub record Metastate : Type 0 where
  pub number : ℕ
  pub carried : Matrix

unfoldable pub same_metastate : Metastate → Metastate → Bool
same_metastate x y = eqb x.number y.number && same x.carried y.carried

-- a metastate is "held as eight 64-bit words"
abbrev pub metastate_size : (half : ℕ) → ℕ
metastate_size half = 1 + matrix_size half

unfoldable pub metastate_words : (half : ℕ) → Metastate → List ℕ
metastate_words half x = x.number ∷ matrix_record half x.carried

abbrev pub no_combination : Combination
no_combination = record { phone = 0; leaves = []; carried = [] }

-- a combination by its number
abbrev pub numbered : List Combination → ℕ → Combination
numbered combinations j = get_or combinations j no_combination

-- "Start metastates: each silence combination whose matrix, with columns 0..n−1 cut to {1}, is valid, with
-- that cut matrix, in combination order." The list begins with combination `number`.
unfoldable pub starts_from : (half number : ℕ) → List Combination → List Metastate
starts_from half number [] = []
starts_from half number (c ∷ cs) =
    let cut : Matrix = start_cut half c.carried in
    if eqb c.phone 1 && valid cut
    then record { number = number; carried = cut } ∷ starts_from half (suc number) cs
    else starts_from half (suc number) cs

-- "for each combination in order whose matrix meets q's shifted matrix validly"; "The new metastate carries
-- the meet, not the combination's own matrix." The list begins with combination `number`.
unfoldable pub followers_from : (shifted : Matrix) → (number : ℕ) → List Combination → List Metastate
followers_from shifted number [] = []
followers_from shifted number (c ∷ cs) =
    let met : Matrix = meet shifted c.carried in
    if valid met
    then record { number = number; carried = met } ∷ followers_from shifted (suc number) cs
    else followers_from shifted (suc number) cs

-- a metastate's combination, and its phone
unfoldable pub combination_of : (combinations : List Combination) → Metastate → Combination
combination_of combinations x = numbered combinations x.number

unfoldable pub phone_of : (combinations : List Combination) → Metastate → ℕ
phone_of combinations x = (combination_of combinations x).phone

module _ (book : Book) (combinations : List Combination) where
  unfoldable pub starts : List Metastate
  starts = starts_from book.half 0 combinations

  unfoldable pub followers : Metastate → List Metastate
  followers q = followers_from (shift book.phones q.carried) 0 combinations

  -- the models of a metastate's states
  unfoldable pub models_of : Metastate → List ℕ
  models_of x = map (λ node. model_at book.nodes node) (combination_of combinations x).leaves

  -- "if its phone is 1 and columns n+1..2n all hold 1, the arc from its last state to 1 with 0, 0"
  unfoldable pub may_end : Metastate → Bool
  may_end q = eqb (phone_of combinations q) 1 && ends_here book.half q.carried
