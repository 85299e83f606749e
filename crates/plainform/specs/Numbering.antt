-- Trees numbered anew, by their words in a lent table.
use Rattle.std.specs.Prelude.{if◌then◌else◌, ◌≡◌, List, ℕ, ◌+◌, ◌*◌, ◌≤◌, eqb, length}
use Rattle.definitions.specs.Forms.{most_nodes}
use Rattle.definitions.specs.Lists.{concat_map}
use Rattle.definitions.specs.BookLines.{TreeNode, no_root}
use Rattle.definitions.specs.BookReading.{node_size}
use Rattle.definitions.specs.Tables.{node_words}
use Rattle.definitions.specs.PlainForm.{Tree, size_of, nodes_from, all_nodes}
use Rattle.lines.specs.Putting.{put_at}

-- the words of nodes, and of trees from a number on
abbrev pub words_of : List TreeNode → List ℕ
words_of nodes = concat_map node_words nodes

abbrev pub all_words : (sets : List ℕ) → (at : ℕ) → List Tree → List ℕ
all_words sets at trees = words_of (all_nodes sets at trees)

-- the new root for a root, where its tree is numbered from `at` on
abbrev pub start_of : (root at : ℕ) → ℕ
start_of root at = if eqb root no_root then no_root else at

-- so many nodes, numbered from `at` on: they and the sets are no more than a book has nodes, and their records have
-- room
pub record Numberable (sets : List ℕ) (at size : ℕ) (table : List ℕ) : Type 0 where
  pub few_sets : length sets ≤ most_nodes
  pub few_nodes : at + size ≤ most_nodes
  pub room : node_size * (at + size) ≤ length table

-- a tree whose root has number `at`, the table before, the number after its last node, and the table after
pub record Numbered (sets : List ℕ) (at : ℕ) (tree : Tree) (before : List ℕ) (next : ℕ) (after : List ℕ) : Type 0
  where
    pub counted : next ≡ at + size_of tree
    pub put : after ≡ put_at (node_size * at) (words_of (nodes_from sets at tree)) before

-- the same of trees one after the other
pub record NumberedTrees (sets : List ℕ) (at : ℕ) (trees : List Tree) (before : List ℕ) (next : ℕ) (after : List ℕ)
    : Type 0
  where
    pub counted : next ≡ at + length (all_nodes sets at trees)
    pub put : after ≡ put_at (node_size * at) (all_words sets at trees) before
