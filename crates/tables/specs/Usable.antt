-- The book that a function walks the trees of, and what it asks of the words that it is lent: the header in its
-- ranges, tables that are wide enough, nodes and roots in range, and no node a child twice. The roots are those
-- in force, one for each phone and state: it is not asked that they were read from R lines, nor how often they
-- name a node. Known tables with their roots in force are such (`tables-fit`, `forced-book` in
-- Laws/KnownTables.antt).
use Rattle.std.specs.Prelude.{List, map, ℕ, ◌-◌, ◌*◌, ◌≤◌, T, ltb, length, take, drop}
use Rattle.definitions.specs.BookLines.{TreeNode, root_count}
use Rattle.definitions.specs.Tables.{node_of, tree_node, Book, node_records}
use Rattle.definitions.specs.declared.Header.{Header}
use Rattle.definitions.specs.declared.Node.{Node}
use Rattle.definitions.specs.Lists.{every, records}
use Rattle.definitions.specs.ForeignTables.{header_known, nodes_known}
use Rattle.definitions.specs.Ranges.{InRange}
use Rattle.definitions.specs.BookReading.{node_size, ChildOnce}

-- the records from a node on, in a table of so many nodes
abbrev pub records_from : (nodes at : ℕ) → (words : List ℕ) → List Node
records_from nodes at words = map node_of (records node_size (nodes - at) (drop (node_size * at) words))

-- the nodes that the records are
abbrev pub tree_nodes : Header → (words : List ℕ) → List TreeNode
tree_nodes header words = map tree_node (node_records header words)

-- the book of these nodes and classes with these roots in force
unfoldable pub book_with : Header → (nodes classes roots : List ℕ) → Book
book_with header nodes classes roots =
    record {
      half = header.half;
      states = header.states;
      phones = header.phones;
      nodes = tree_nodes header nodes;
      classes = take header.classes classes;
      roots = take (root_count header) roots;
    }

-- roots for all phones and states, each a node
pub record RootsListed (header : Header) (roots : List ℕ) : Type 0 where
  pub enough : root_count header ≤ length roots
  pub listed : T (every (λ root. ltb root header.nodes) (take (root_count header) roots))

pub record Fit (header : Header) (nodes classes roots : List ℕ) : Type 0 where
  pub header-known : T (header_known header)
  pub ranges : InRange header
  pub nodes-known : T (nodes_known header 0 (node_records header nodes))
  pub classes_wide : header.classes ≤ length classes
  pub roots-listed : RootsListed header roots
  pub once : ChildOnce (tree_nodes header nodes)
