-- Laws about tables: the book read back out of the tables that hold it is that book.
-- So whatever a later stage computes from tables as reading left them, it computes from the lines' book.
-- And about the records in any table of nodes: how many they are, and the words that each reads.
use Rattle.std.specs.Prelude.{◌≡◌, refl, List, [], ◌∷◌, ◌++◌, map, ℕ, ◌-◌, length, take}
use Rattle.std.proofs.Common.{ap, ap₂, ◌∙◌, lit<, get_or-take}
use Rattle.std.proofs.lemmas.List.{length-map}
use Rattle.definitions.specs.declared.Header.{Header}
use Rattle.definitions.specs.Lists.{concat_map, cleared, padded}
use Rattle.definitions.specs.BookLines.{TreeNode, question, leaf, root_count}
use Rattle.definitions.specs.BookReading.{Lent, node_size}
use Rattle.definitions.specs.Tables.{node_words, node_of, tree_node, node_records, tables_of, Contents}
use Rattle.definitions.specs.Tables.{tables_contents}
use Rattle.definitions.proofs.Laws.Lists.Lists.{padded-take}
use Rattle.definitions.proofs.Laws.Lists.Records.{read_length, flat-records}

-- a header that states a book's counts
pub record Heads (header : Header) (contents : Contents) : Type 0 where
  pub half : header.half ≡ contents.half
  pub states : header.states ≡ contents.states
  pub phones : header.phones ≡ contents.phones
  pub nodes : header.nodes ≡ length contents.nodes
  pub classes : header.classes ≡ length contents.classes
  pub roots : root_count header ≡ length contents.roots
  pub plains : header.phones ≡ length contents.plains

pub node-sized : (node : TreeNode) → length (node_words node) ≡ node_size
unfolding node_words
node-sized (question asked yes_node no_node) = refl
node-sized (leaf model) = refl

node-back : (node : TreeNode) → tree_node (node_of (node_words node)) ≡ node
unfolding tree_node node_of node_words
node-back (question asked yes_node no_node) = refl
node-back (leaf model) = refl

nodes-back : (nodes : List TreeNode) → map tree_node (map node_of (map node_words nodes)) ≡ nodes
nodes-back [] = refl
nodes-back (node ∷ nodes) =
    ap₂ (λ (x : TreeNode) (l : List TreeNode). x ∷ l) (node-back node) (nodes-back nodes)

-- more words after its own change no record
pub node-of-first : (words : List ℕ) → node_of (take node_size words) ≡ node_of words
unfolding node_of
node-of-first words =
    rw (
      get_or-take node_size words 0 0 (lit< tt),
      get_or-take node_size words 1 0 (lit< tt),
      get_or-take node_size words 2 0 (lit< tt),
      get_or-take node_size words 3 0 (lit< tt),
      get_or-take node_size words 4 0 (lit< tt),
    )

-- as many records as the header says, whatever the table
pub node-records-length : (header : Header) (words : List ℕ)
    → length (node_records header words) ≡ header.nodes
unfolding node_records
node-records-length header words = read_length node_size node_of header.nodes words

pub tree-nodes-length : (header : Header) (words : List ℕ)
    → length (map tree_node (node_records header words)) ≡ header.nodes
tree-nodes-length header words =
    length-map (node_records header words) tree_node ∙ node-records-length header words

-- the records in a table that begins with elements written as five words each
pub written-nodes : {A : Type 0} (words : A → List ℕ) → ((x : A) → length (words x) ≡ node_size)
    → (header : Header) (xs : List A) (rest : List ℕ) → header.nodes ≡ length xs
    → node_records header (concat_map words xs ++ rest) ≡ map node_of (map words xs)
unfolding node_records
written-nodes words sized header xs rest e =
    rw e (ap (map node_of) (flat-records words node_size sized xs rest))

-- the records in a node table, and the nodes that they are
pub tables-records : (header : Header) (size : ℕ) (nodes : List TreeNode) → header.nodes ≡ length nodes
    → node_records header (padded size (concat_map node_words nodes)) ≡ map node_of (map node_words nodes)
unfolding padded
tables-records header size nodes e =
    written-nodes node_words node-sized header nodes (cleared (size - length (concat_map node_words nodes))) e

tables-nodes : (header : Header) (size : ℕ) (nodes : List TreeNode) → header.nodes ≡ length nodes
    → map tree_node (node_records header (padded size (concat_map node_words nodes))) ≡ nodes
tables-nodes header size nodes e = ap (map tree_node) (tables-records header size nodes e) ∙ nodes-back nodes

pub tables-contents : (header : Header) (lent : Lent) (contents : Contents) → Heads header contents
    → tables_contents header (tables_of lent contents) ≡ contents
unfolding tables_contents tables_of
tables-contents header lent contents h = λ i. record {
  half = h.half i;
  states = h.states i;
  phones = h.phones i;
  nodes = tables-nodes header lent.nodes contents.nodes h.nodes i;
  classes = padded-take lent.classes header.classes contents.classes h.classes i;
  roots = padded-take lent.roots (root_count header) contents.roots h.roots i;
  plains = padded-take lent.plains header.phones contents.plains h.plains i;
}
