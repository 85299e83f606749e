-- Document 01, "Tree book", and document 02, P2: the tables that reading leaves, and the book read back out
-- of them, in which each phone has its trees in force.
use Rattle.std.specs.Prelude.{if◌then◌else◌, List, [], ◌∷◌, map, ℕ, ◌+◌, ◌-◌, ◌*◌, ◌/◌, ◌%◌, eqb, length, take}
use Rattle.definitions.specs.declared.Header.{Header}
use Rattle.definitions.specs.declared.Node.{Node}
use Rattle.definitions.specs.Faults.{Outcome, answered, refused}
use Rattle.definitions.specs.Lists.{◌!◌, select, concat_map, up_from, records, cleared, padded}
use Rattle.definitions.specs.PhoneSets.{set_of}
use Rattle.definitions.specs.BookLines.{BookLine, header_of, root_count, Member, members_of, TreeNode, question}
use Rattle.definitions.specs.BookLines.{leaf, nodes_of, roots_of, Asked, asks, root_words, root_place, boundaries_of}
use Rattle.definitions.specs.BookLines.{plain_words}
use Rattle.definitions.specs.BookReading.{Lent, node_size}

-- What the lines of a book state and the tables hold: its nodes, the set of each class, the root that each R
-- line gives, and the plain phone that each B line names.
pub record Contents : Type 0 where
  pub half : ℕ
  pub states : ℕ
  pub phones : ℕ
  pub nodes : List TreeNode
  pub classes : List ℕ
  pub roots : List ℕ
  pub plains : List ℕ

-- A book as the later stages use it: its nodes, the set of each class, and the roots by phone and state.
pub record Book : Type 0 where
  pub half : ℕ
  pub states : ℕ
  pub phones : ℕ
  pub nodes : List TreeNode
  pub classes : List ℕ
  pub roots : List ℕ

-- the phone whose trees a phone has. "The boundary phone then takes the plain phone's trees"
unfoldable pub tree_phone : (plains : List ℕ) → (phone : ℕ) → ℕ
tree_phone plains phone = if eqb (plains ! (phone - 1)) 0 then phone else plains ! (phone - 1)

-- "each phone's trees in force", "in R order"
unfoldable pub roots_in_force : Contents → List ℕ
roots_in_force contents =
    map (λ place.
    let phone : ℕ = tree_phone contents.plains (place / contents.states + 1) in
    contents.roots ! root_place contents.states phone (place % contents.states + 1))
    (up_from 0 (contents.phones * contents.states))

-- The book with these contents: each phone has its trees in force.
unfoldable pub book_in : Contents → Book
book_in contents =
    record {
      half = contents.half;
      states = contents.states;
      phones = contents.phones;
      nodes = contents.nodes;
      classes = contents.classes;
      roots = roots_in_force contents;
    }

-- the root of a phone's tree for a state, "in R order"; phones and states count from 1
unfoldable pub root_of : Book → (phone state : ℕ) → ℕ
root_of book phone state = book.roots ! root_place book.states phone state

-- The contents of the lines, and their book.
-- "for each class one 64-bit word, phone p being the bit worth 2^(p−1)"; "A class without Q lines is empty."
unfoldable pub phones_of_class : ℕ → List Member → List ℕ
phones_of_class class members = map (λ m. m.phone) (select (λ m. eqb m.class class) members)

unfoldable pub class_sets : (classes : ℕ) → List Member → List ℕ
class_sets classes members = map (λ class. set_of (phones_of_class class members)) (up_from 1 classes)

unfoldable pub contents_of : List BookLine → Contents
contents_of lines =
    record {
      half = (header_of lines).half;
      states = (header_of lines).states;
      phones = (header_of lines).phones;
      nodes = nodes_of lines;
      classes = class_sets (header_of lines).classes (members_of lines);
      roots = root_words (header_of lines) (roots_of lines);
      plains = plain_words (header_of lines) (boundaries_of lines);
    }

unfoldable pub book_of : List BookLine → Book
book_of lines = book_in (contents_of lines)

-- The words of the tables.
-- "for each node five 32-bit words (1 question or 2 leaf; class or model; position; yes; no; the last three
-- 0 at a leaf)"
unfoldable pub node_words : TreeNode → List ℕ
node_words (question asked yes_node no_node) = 1 ∷ asked.class ∷ asked.position ∷ yes_node ∷ no_node ∷ []
node_words (leaf model) = 2 ∷ model ∷ 0 ∷ 0 ∷ 0 ∷ []

-- the five words of a record
abbrev pub record_words : Node → List ℕ
record_words node = node.kind ∷ node.value ∷ node.position ∷ node.yes ∷ node.no ∷ []

-- the four lent tables, as the words in them
pub record Tables : Type 0 where
  pub nodes : List ℕ
  pub classes : List ℕ
  pub roots : List ℕ
  pub plains : List ℕ

-- their lengths
abbrev pub lent_of : Tables → Lent
lent_of tables =
    record {
      nodes = length tables.nodes;
      classes = length tables.classes;
      roots = length tables.roots;
      plains = length tables.plains;
    }

-- "Words beyond these are 0."
unfoldable pub tables_of : Lent → Contents → Tables
tables_of lent contents =
    record {
      nodes = padded lent.nodes (concat_map node_words contents.nodes);
      classes = padded lent.classes contents.classes;
      roots = padded lent.roots contents.roots;
      plains = padded lent.plains contents.plains;
    }

-- "every word of every output buffer 0"
unfoldable pub no_tables : Lent → Tables
no_tables lent =
    record {
      nodes = cleared lent.nodes;
      classes = cleared lent.classes;
      roots = cleared lent.roots;
      plains = cleared lent.plains;
    }

-- what reading leaves in the lent tables
unfoldable pub tables_left : Lent → Outcome (List BookLine) → Tables
tables_left lent (answered lines) = tables_of lent (contents_of lines)
tables_left lent (refused r) = no_tables lent

-- The contents read back out of words, with their header, and their book.
unfoldable pub node_of : List ℕ → Node
node_of words =
    record { kind = words ! 0; value = words ! 1; position = words ! 2; yes = words ! 3; no = words ! 4 }

abbrev pub asked_of : Node → Asked
asked_of node = asks node.value node.position

unfoldable pub tree_node : Node → TreeNode
tree_node node =
    if eqb node.kind 1
    then question (asked_of node) node.yes node.no
    else leaf node.value

unfoldable pub node_records : Header → (words : List ℕ) → List Node
node_records header words = map node_of (records node_size header.nodes words)

unfoldable pub tables_contents : Header → Tables → Contents
tables_contents header tables =
    record {
      half = header.half;
      states = header.states;
      phones = header.phones;
      nodes = map tree_node (node_records header tables.nodes);
      classes = take header.classes tables.classes;
      roots = take (root_count header) tables.roots;
      plains = take header.phones tables.plains;
    }

unfoldable pub tables_book : Header → Tables → Book
tables_book header tables = book_in (tables_contents header tables)
