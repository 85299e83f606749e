-- Document 01, "Matrices and metastates": the leaves of a tree with their matrices, and the valid
-- combinations of leaves.
use Rattle.std.specs.Prelude.{if◌then◌else◌, List, [], ◌∷◌, ◌++◌, map, Bool, ℕ, zero, suc, ◌+◌, ◌-◌, ◌/◌, min, leb, ltb, length}
use Rattle.definitions.specs.declared.Header.{Header}
use Rattle.definitions.specs.declared.Fault.TheVariants.{Foreign, Choices}
use Rattle.definitions.specs.Faults.{Outcome, answered, refused, judge, ◌unless◌}
use Rattle.definitions.specs.Lists.{◌!◌, concat_map, up_from, cleared, padded}
use Rattle.definitions.specs.Matrices.{Matrix, matrix_size, matrix_record, root_matrix, yes_side, no_side}
use Rattle.definitions.specs.Matrices.{valid, meet}
use Rattle.definitions.specs.BookLines.{question, leaf, Asked}
use Rattle.definitions.specs.Tables.{Book, root_of, Tables, tables_book}
use Rattle.definitions.specs.ForeignTables.{tables_known}
use Rattle.definitions.specs.Lookup.{node_at}

-- a leaf of a tree: its node number, and the matrix of the contexts that reach it
pub record Leaf : Type 0 where
  pub node : ℕ
  pub carried : Matrix

-- the two sides of a question. "Yes keeps in the question's column the class's members, no keeps the others";
-- classes count from 1
abbrev pub on_yes : (classes : List ℕ) → Asked → Matrix → Matrix
on_yes classes asked matrix = yes_side asked.position (classes ! (asked.class - 1)) matrix

abbrev pub on_no : (classes : List ℕ) → Asked → Matrix → Matrix
on_no classes asked matrix = no_side asked.position (classes ! (asked.class - 1)) matrix

-- the leaves below a node that carries a matrix, the yes side first. Children are greater than their node,
-- so as many levels as there are nodes are enough.
unfoldable pub leaves_below : (levels : ℕ) → Book → Matrix → (node : ℕ) → List Leaf
leaves_below zero book matrix node = []
leaves_below (suc levels) book matrix node =
    elim (node_at book.nodes node) [
      | question asked yes_node no_node ↦
          leaves_below levels book (on_yes book.classes asked matrix) yes_node
          ++ leaves_below levels book (on_no book.classes asked matrix) no_node
      | leaf model ↦ record { node = node; carried = matrix } ∷ []
    ]

-- ascending by node number
unfoldable pub is_before : Leaf → Leaf → Bool
is_before l other = ltb l.node other.node

unfoldable pub insert_leaf : Leaf → List Leaf → List Leaf
insert_leaf l [] = l ∷ []
insert_leaf l (first ∷ leaves) =
    if is_before l first then l ∷ first ∷ leaves else first ∷ insert_leaf l leaves

unfoldable pub ascending : List Leaf → List Leaf
ascending [] = []
ascending (l ∷ leaves) = insert_leaf l (ascending leaves)

-- the leaves of a phone's tree for a state, from the root's matrix down
unfoldable pub leaves_of : Book → (phone state : ℕ) → List Leaf
leaves_of book phone state =
    let top : Matrix = root_matrix book.half book.phones phone in
    ascending (leaves_below (length book.nodes) book top (root_of book phone state))

-- "A combination is a phone with one leaf from each of its k trees whose matrices meet in a valid matrix."
pub record Combination : Type 0 where
  pub phone : ℕ
  pub leaves : List ℕ
  pub carried : Matrix

-- the combinations that begin with these leaves, whose matrices meet in `matrix`, and take one leaf of each
-- further tree
unfoldable pub choose : (phone : ℕ) → (leaves : List ℕ) → Matrix → (trees : List (List Leaf)) → List Combination
choose phone leaves matrix [] =
    if valid matrix then record { phone = phone; leaves = leaves; carried = matrix } ∷ [] else []
choose phone leaves matrix (tree ∷ trees) =
    concat_map (λ l. choose phone (leaves ++ (l.node ∷ [])) (meet matrix l.carried) trees) tree

-- each leaf's matrix lies within the root's, so the root's is where their meeting starts
unfoldable pub combinations_of : Book → (phone : ℕ) → List Combination
combinations_of book phone =
    choose phone [] (root_matrix book.half book.phones phone)
    (map (λ state. leaves_of book phone state) (up_from 1 book.states))

-- "Combinations are numbered from 0, ascending by (phone, first leaf, second, third)"
unfoldable pub combinations : Book → List Combination
combinations book = concat_map (λ phone. combinations_of book phone) (up_from 1 book.phones)

-- "each held as eleven 64-bit words: phone, three leaf nodes (0 beyond k), matrix"
abbrev pub combination_size : (half : ℕ) → ℕ
combination_size half = 4 + matrix_size half

unfoldable pub combination_words : (half : ℕ) → Combination → List ℕ
combination_words half c = c.phone ∷ padded 3 c.leaves ++ matrix_record half c.carried

-- "Only whole records of lent space count"; "more combinations than the lent space or 65535"
abbrev pub most_combinations : ℕ
most_combinations = 65535

unfoldable pub combination_room : (half space : ℕ) → ℕ
combination_room half space = min (space / combination_size half) most_combinations

-- the combinations of a book in tables, into lent space of so many words: 18, then 30
unfoldable pub combine : Header → Tables → (space : ℕ) → Outcome (List Combination)
combine header tables space =
    let found : List Combination = combinations (tables_book header tables) in
    judge 0
    (Foreign unless tables_known header tables
    ∷ Choices unless leb (length found) (combination_room header.half space)
    ∷ [])
    (answered found)

-- "the words after the last record are 0"
unfoldable pub combination_space : (half space : ℕ) → Outcome (List Combination) → List ℕ
combination_space half space (answered found) = padded space (concat_map (combination_words half) found)
combination_space half space (refused r) = cleared space
