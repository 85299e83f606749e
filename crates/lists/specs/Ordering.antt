-- The order of two matrices as the code answers it, and where a matrix belongs in a list.
use Rattle.std.specs.Prelude.{◌≡◌, List, ◌∷◌, ◌++◌, ℕ, ◌≤◌, length, take, drop, Option, Some, None}
use Rattle.std.specs.Ordering.{nat_cmp}
use Rattle.std.specs.Cmp.Lexicographic.{slice_cmp}
use Rattle.std.specs.declared.cmp.Ordering.{Ordering}
use Rattle.definitions.specs.Matrices.{Matrix}
use Rattle.definitions.specs.MatrixLists.{insert_matrix}

-- by the first column that differs, as the library orders slices
abbrev pub order_of : Matrix → Matrix → Ordering
order_of m x = slice_cmp nat_cmp m x

-- a list with a matrix put in before a place
abbrev pub inserted_at : (place : ℕ) → Matrix → List Matrix → List Matrix
inserted_at place m l = take place l ++ (m ∷ drop place l)

-- the place that a matrix has, or it is there
abbrev pub BelongsAt : Matrix → List Matrix → Option ℕ → Type 0
BelongsAt m l (Some place) = (place ≤ length l) × (insert_matrix m l ≡ inserted_at place m l)
BelongsAt m l None = insert_matrix m l ≡ l
