-- Document 02, P6: lists of matrices. "Leaves, combinations and metastates then carry a list of up to eight valid
-- matrices without repeats, ascending by columns as numbers". Here a list may be of any length; where it is judged,
-- more than eight are too many.
use Rattle.std.specs.Prelude.{if◌then◌else◌, List, [], ◌∷◌, map, Bool, true, false, ◌&&◌, ℕ, ◌+◌, ◌-◌, ◌*◌, leb, length}
use Rattle.definitions.specs.Lists.{◌!◌, at_least_one, concat_map, same, precedes, padded}
use Rattle.definitions.specs.BookLines.{Part}
use Rattle.definitions.specs.Matrices.{Matrix, matrix_size, matrix_record, root_matrix, yes_side, no_side, valid}
use Rattle.definitions.specs.Matrices.{meet, shift, start_cut, ends_here}

-- ---- the list that matrices make: "valid matrices without repeats, ascending"

-- a matrix put in its place, unless it is there
unfoldable pub insert_matrix : Matrix → List Matrix → List Matrix
insert_matrix m [] = m ∷ []
insert_matrix m (x ∷ l) =
    if same m x then x ∷ l else (if precedes m x then m ∷ x ∷ l else x ∷ insert_matrix m l)

-- one matrix more, if it is valid
unfoldable pub added : List Matrix → Matrix → List Matrix
added l m = if valid m then insert_matrix m l else l

-- several, one after the other
unfoldable pub gather : (sofar : List Matrix) → List Matrix → List Matrix
gather sofar [] = sofar
gather sofar (m ∷ l) = gather (added sofar m) l

-- "once invalid matrices and repeats are gone"
abbrev pub normal : List Matrix → List Matrix
normal l = gather [] l

-- ---- what is done with lists

-- whether any matrix is left
unfoldable pub holds_some : List Matrix → Bool
holds_some [] = false
holds_some (m ∷ l) = true

unfoldable pub same_list : List Matrix → List Matrix → Bool
same_list [] [] = true
same_list [] (b ∷ l) = false
same_list (a ∷ k) [] = false
same_list (a ∷ k) (b ∷ l) = same a b && same_list k l

-- "A list meets another matrix by matrix"
abbrev pub pairs_met : List Matrix → List Matrix → List Matrix
pairs_met k l = concat_map (λ m. map (meet m) l) k

unfoldable pub meet_lists : List Matrix → List Matrix → List Matrix
meet_lists k l = normal (pairs_met k l)

-- the shift of each matrix. What comes out may repeat and is not in order; it is only met with others.
unfoldable pub shift_list : (phones : ℕ) → List Matrix → List Matrix
shift_list phones l = map (shift phones) l

-- the list of a root, and of a combination at the start of a sentence
unfoldable pub root_list : (half phones p : ℕ) → List Matrix
root_list half phones p = normal (root_matrix half phones p ∷ [])

unfoldable pub start_list : (half : ℕ) → List Matrix → List Matrix
start_list half l = normal (map (start_cut half) l)

-- "a path may end where one matrix has silence in all columns to the right"
unfoldable pub list_ends : (half : ℕ) → List Matrix → Bool
list_ends half l = at_least_one (ends_here half) l

-- ---- the two sides of a question of several parts, by the sets of the classes, which count from 1

abbrev pub set_asked : (classes : List ℕ) → Part → ℕ
set_asked classes part = classes ! (part.class - 1)

-- "the answer is yes when all parts are yes"
unfoldable pub all_yes : (classes : List ℕ) → List Part → Matrix → Matrix
all_yes classes [] m = m
all_yes classes (part ∷ parts) m = all_yes classes parts (yes_side part.position (set_asked classes part) m)

unfoldable pub yes_list : (classes : List ℕ) → List Part → List Matrix → List Matrix
yes_list classes parts l = normal (map (all_yes classes parts) l)

-- "the no side needs a list of matrices, one for each part that fails"
unfoldable pub each_no : (classes : List ℕ) → List Part → Matrix → List Matrix
each_no classes parts m = map (λ part. no_side part.position (set_asked classes part) m) parts

unfoldable pub no_list : (classes : List ℕ) → List Part → List Matrix → List Matrix
no_list classes parts l = normal (concat_map (each_no classes parts) l)

-- ---- how many, and in words

-- "a list of up to eight"; "Number 34 refuses a list of more than eight"
abbrev pub most_matrices : ℕ
most_matrices = 8

abbrev pub is_short : List Matrix → Bool
is_short l = leb (length l) most_matrices

-- "in both records the matrix becomes list length and eight matrices"
abbrev pub list_size : (half : ℕ) → ℕ
list_size half = 1 + most_matrices * matrix_size half

unfoldable pub list_record : (half : ℕ) → List Matrix → List ℕ
list_record half l = length l ∷ padded (most_matrices * matrix_size half) (concat_map (matrix_record half) l)
