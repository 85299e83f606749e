-- The shift of a matrix with the set that its last column takes; with all phones it is the definitions' shift.
use Rattle.std.specs.Prelude.{◌≡◌, Bool, List, [], ◌∷◌, ◌++◌, ℕ, drop}
use Rattle.definitions.specs.Matrices.{Matrix}
use Rattle.definitions.specs.MatrixLists.{same_list, shift_list}

abbrev pub shifted_by : (all : ℕ) → Matrix → Matrix
shifted_by all m = drop 1 m ++ (all ∷ [])

-- an answer whether two lists are the same once shifted, in a book of any number of phones
abbrev pub SameShifted : (a b : List Matrix) → Bool → Type 0
SameShifted a b answer = (phones : ℕ) → answer ≡ same_list (shift_list phones a) (shift_list phones b)
