-- How often nodes are named: the counts that the code keeps, and the names that they count.
use Rattle.std.specs.Prelude.{if◌then◌else◌, List, [], ◌∷◌, ◌++◌, map, not, ◌&&◌, ℕ, suc, ltb, eqb, length, set, Option, position}
use Rattle.definitions.specs.Lists.{◌!◌, concat_map, up_from, occurrences}
use Rattle.definitions.specs.BookLines.{TreeNode, children_of}

-- the names that stand in nodes, as their children, and in roots
abbrev pub all_names : List TreeNode → (roots : List ℕ) → List ℕ
all_names nodes roots = concat_map children_of nodes ++ roots

-- how often each of the nodes 0, 1, .. is named in a list of names
unfoldable pub counts_of : (nodes : ℕ) → (names : List ℕ) → List ℕ
counts_of nodes names = map (λ node. occurrences node names) (up_from 0 nodes)

-- one more naming of a node; a node without a count, or a count that is full, stays
unfoldable pub named_again : (counts : List ℕ) → (node : ℕ) → List ℕ
named_again counts node =
    if ltb node (length counts) && ltb (counts ! node) 4294967295
    then set counts node (suc (counts ! node))
    else counts

-- the same for each of a list of names
unfoldable pub named_all : (counts names : List ℕ) → List ℕ
named_all counts [] = counts
named_all counts (node ∷ names) = named_all (named_again counts node) names

-- the lowest node whose count is not 1, or one past the last
unfoldable pub first_misnamed : (counts : List ℕ) → ℕ
first_misnamed [] = 0
first_misnamed (count ∷ counts) = if eqb count 1 then suc (first_misnamed counts) else 0

-- the same where there is one
abbrev pub misnamed_place : (counts : List ℕ) → Option ℕ
misnamed_place counts = position (λ count. not (eqb count 1)) counts
