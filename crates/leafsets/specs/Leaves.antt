-- Leaves in lent words: a table with a record for each node, and lists of leaves ascending by node.
use Rattle.std.specs.Prelude.{if◌then◌else◌, ◌≡◌, List, [], ◌∷◌, ◌++◌, map, Bool, false, not, ℕ, ◌+◌, ◌*◌, ◌/◌, ◌≤◌, max, T, leb, eqb, length, take, drop}
use Rattle.definitions.specs.Lists.{◌!◌, concat_map, up_from, select, records}
use Rattle.definitions.specs.Matrices.{most_columns, matrix_words}
use Rattle.definitions.specs.Tables.{Book}
use Rattle.definitions.specs.Combinations.{Leaf, leaves_of}

-- a number and a matrix
abbrev pub leaf_size : ℕ
leaf_size = 1 + most_columns

-- ---- the table: 1 and its matrix in the record of each leaf's node

unfoldable pub put_leaf : (table : List ℕ) → Leaf → List ℕ
put_leaf table l =
    take (leaf_size * l.node) table ++ (1 ∷ matrix_words l.carried) ++ drop (leaf_size * l.node + leaf_size) table

unfoldable pub put_leaves : (table : List ℕ) → List Leaf → List ℕ
put_leaves table [] = table
put_leaves table (l ∷ leaves) = put_leaves (put_leaf table l) leaves

-- whether a node's record is used, and the node with the matrix in its record
unfoldable pub is_marked : (table : List ℕ) → (node : ℕ) → Bool
is_marked table node = not (eqb (table ! (leaf_size * node)) 0)

unfoldable pub listed_at : (table : List ℕ) → (node : ℕ) → List ℕ
listed_at table node = node ∷ take most_columns (drop (leaf_size * node + 1) table)

-- the used records in order
unfoldable pub listed : (table : List ℕ) → List ℕ
listed table =
    concat_map (listed_at table) (select (is_marked table) (up_from 0 (length table / leaf_size)))

-- no record is used
abbrev pub NoneUsed : (table : List ℕ) → Type 0
NoneUsed table = (node : ℕ) → is_marked table node ≡ false

-- the used records are all those of nodes from one to another
abbrev pub UsedWithin : (first last : ℕ) → (table : List ℕ) → Type 0
UsedWithin first last table = (node : ℕ) → T (is_marked table node) → (first ≤ node) × (node ≤ last)

-- the greatest node of leaves, 0 where there are none
unfoldable pub last_node : List Leaf → ℕ
last_node [] = 0
last_node (l ∷ leaves) = max l.node (last_node leaves)

-- ---- the list: the node and the matrix of each leaf

unfoldable pub leaf_words : Leaf → List ℕ
leaf_words l = l.node ∷ matrix_words l.carried

-- the leaves of a phone's tree for a state; a state that the book lacks has none
unfoldable pub leaves_for : Book → (phone state : ℕ) → List Leaf
leaves_for book phone state = if leb state book.states then leaves_of book phone state else []

-- a list read back, with matrices of so many columns
unfoldable pub leaf_in : (width : ℕ) → List ℕ → Leaf
leaf_in width words = record { node = words ! 0; carried = take width (drop 1 words) }

unfoldable pub leaves_in : (width : ℕ) → (words : List ℕ) → List Leaf
leaves_in width words = map (leaf_in width) (records leaf_size (length words / leaf_size) words)

-- words that are a list of leaves with matrices of so many columns
abbrev pub IsList : (width : ℕ) → (words : List ℕ) → Type 0
IsList width words = words ≡ concat_map leaf_words (leaves_in width words)

-- what listing leaves into lent words leaves: so many records of the list are these words, and no record of the
-- table is used any more
pub record Listing (words table_before list_before : List ℕ) (count : ℕ) (table list : List ℕ) : Type 0 where
  pub room : leaf_size * count ≤ length list
  pub holds : take (leaf_size * count) list ≡ words
  pub list_sized : length list ≡ length list_before
  pub table_sized : length table ≡ length table_before
  pub none : NoneUsed table
