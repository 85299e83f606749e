-- What known tables say of themselves, for every entry that is lent tables: the header's ranges, tables wide
-- enough, roots in force that are nodes. The record at a node's words is the node of the tree, and it fits the header:
-- a question has its class, its position and its children in range, so children are greater nodes of the book;
-- and no node is a child twice. So they hold a sound book, and what is shown of sound books holds of every book
-- that an entry is lent, whatever left its tables.
use Rattle.std.specs.Prelude.{◌≡◌, ℕ, ◌*◌, ◌≤◌, ◌<◌, T, length, drop, get_or}
use Rattle.std.proofs.Math.Path.{sym, ap}
use Rattle.std.proofs.Common.{◌∙◌, arith, length-append, take_at, eq-eqb, ne_eqb}
use mathlib.Core.List.{List, [], ◌++◌, map}
use Rattle.std.proofs.Math.ListN.{take, get_or-map}
use Rattle.definitions.specs.declared.Header.{Header}
use Rattle.definitions.specs.declared.Node.{Node}
use Rattle.definitions.specs.Lists.{records}
use Rattle.definitions.specs.BookLines.{question, leaf, root_count}
use Rattle.definitions.specs.BookReading.{node_size, ChildOnce}
use Rattle.definitions.specs.Tables.{Tables, node_of, tree_node, node_records, tables_book, asked_of, Contents}
use Rattle.definitions.specs.Tables.{tables_contents, book_in, roots_in_force}
use Rattle.definitions.specs.ForeignTables.{header_known, nodes_known, class_table_known, named_once}
use Rattle.definitions.specs.ForeignTables.{tables_known}
use Rattle.definitions.specs.Lookup.{node_at}
use Rattle.definitions.proofs.Laws.Lists.Records.{record-at}
use Rattle.definitions.proofs.Laws.Books.Tables.{node-of-first, tree-nodes-length}
use Rattle.definitions.proofs.Laws.Books.Accepted.{AllFrom, NodeFits, QuestionFits, question-fitting}
use Rattle.definitions.proofs.Laws.Books.Accepted.{fitting-forward}
use Rattle.definitions.proofs.Laws.Trees.Walks.{Forward}
use Rattle.definitions.proofs.Laws.Books.AcceptedKnown.{header-ranges, tables-parts, holds-padded, KnownParts}
use Rattle.definitions.proofs.Laws.Books.KnownBooks.{known-nodes, node-table-parts, class-table-parts}
use Rattle.definitions.proofs.Laws.Books.KnownBooks.{none-orphaned, Stated, known-stated, stated-force}
use Rattle.definitions.proofs.Laws.Books.KnownBooks.{stated-sound}
use Rattle.definitions.proofs.Laws.Books.Books.{roots_few}
use Rattle.definitions.proofs.Laws.Books.Sound.{Sound}
use Rattle.definitions.proofs.Laws.Books.NamedOnce.{child-once}
use Rattle.tables.specs.Lending.{lent_tables}
use Rattle.tables.specs.Forcing.{forced_roots, Forceable}
use Rattle.tables.specs.Laws.Forcing.{forced-length}
use Rattle.tables.specs.Usable.{tree_nodes, book_with, RootsListed, Fit}

-- ---- the record of a node

-- the node at a place is that of the record there
pub node-listed : (nodes : List Node) (node : ℕ)
    → node_at (map tree_node nodes) node ≡ tree_node (get_or nodes node (node_of []))
unfolding tree_node node_of
node-listed nodes node = get_or-map tree_node nodes node (node_of [])

module _ (header : Header) (words : List ℕ) (node : ℕ) (listed : node < header.nodes) where
  pub record-listed : get_or (node_records header words) node (node_of []) ≡ node_of (drop (node_size * node) words)
  unfolding node_records
  record-listed =
      get_or-map node_of (records node_size header.nodes words) node []
      ∙ ap node_of (record-at node_size header.nodes words node listed) ∙ node-of-first _

  pub node-is : node_at (tree_nodes header words) node ≡ tree_node (node_of (drop (node_size * node) words))
  node-is = node-listed (node_records header words) node ∙ ap tree_node record-listed

  -- a record of kind 1 is a question, any other a leaf
  module _ (x : Node) (own : x ≡ node_of (drop (node_size * node) words)) where
    pub question-is : x.kind ≡ 1 → node_at (tree_nodes header words) node ≡ question (asked_of x) x.yes x.no
    unfolding tree_node
    question-is kind = node-is ∙ ap tree_node (sym own) ∙ rw (eq-eqb x.kind 1 kind)

    pub leaf-is : (x.kind ≡ 1 → ⊥) → node_at (tree_nodes header words) node ≡ leaf x.value
    unfolding tree_node
    leaf-is other = node-is ∙ ap tree_node (sym own) ∙ rw (ne_eqb x.kind 1 other)

-- ---- it fits the header

module _ (header : Header) (nodes : List Node) (known : T (nodes_known header 0 nodes)) where
  all-fit : AllFrom (NodeFits header) 0 (map tree_node nodes)
  all-fit = known-nodes header 0 nodes known

  -- a record of kind 1 is a question that fits
  pub record-fits : (node : ℕ) (x : Node) → x ≡ get_or nodes node (node_of []) → x.kind ≡ 1
      → QuestionFits header node (asked_of x) x.yes x.no
  unfolding tree_node
  record-fits node x e kind =
      question-fitting header (map tree_node nodes) all-fit node (asked_of x) x.yes x.no
      (node-listed nodes node ∙ ap tree_node (sym e) ∙ rw (eq-eqb x.kind 1 kind))

-- the same of the records in a table
module _ (header : Header) (words : List ℕ) (known : T (nodes_known header 0 (node_records header words))) where
  pub question-fits : (node : ℕ) → node < header.nodes → (x : Node)
      → x ≡ node_of (drop (node_size * node) words) → x.kind ≡ 1
      → QuestionFits header node (asked_of x) x.yes x.no
  question-fits node listed x e =
      record-fits header (node_records header words) known node x
      (e ∙ sym (record-listed header words node listed))

  -- children are greater nodes
  pub known-forward : Forward (tree_nodes header words)
  known-forward =
      fitting-forward header (tree_nodes header words) (all-fit header (node_records header words) known)
      (sym (tree-nodes-length header words))

-- ---- all tables

module _ (header : Header) where
  classes_wide : (words : List ℕ) → T (class_table_known header words) → header.classes ≤ length words
  classes_wide words h = (holds-padded header.classes words (class-table-parts header words h).0).0

  children-once : (tables : Tables) → T (nodes_known header 0 (node_records header tables.nodes))
      → T (named_once (tables_contents header tables)) → ChildOnce (tree_nodes header tables.nodes)
  unfolding tables_contents
  children-once tables known h =
      let contents : Contents = tables_contents header tables in
      child-once contents.nodes contents.roots (known-forward header tables.nodes known)
      (none-orphaned contents h)

module _ (header : Header) (nodes classes roots plains : List ℕ)
    (known : T (tables_known header (lent_tables nodes classes roots plains)))
  where
    abbrev tables : Tables
    tables = lent_tables nodes classes roots plains

    parts : KnownParts header tables
    parts = (tables-parts header tables).0 known

    stated : Stated header (tables_contents header tables)
    stated = known-stated header tables known

    pub known-header : T (header_known header)
    known-header = parts.own

    pub known-records : T (nodes_known header 0 (node_records header nodes))
    known-records = (node-table-parts header nodes parts.nodes).1

    pub known-sound : Sound (tables_book header tables)
    unfolding tables_book
    known-sound = stated-sound header (tables_contents header tables) stated

    -- the roots in force can be found, and have room where there is room for the most
    pub known-forceable : Forceable header roots plains × (root_count header ≤ 192)
    known-forceable = (
      record { header-known = parts.own; plains-known = parts.plains; roots-known = parts.roots },
      roots_few header (header-ranges header parts.own),
    )

    -- ---- with the roots in force

    module _ (rest : List ℕ) {forced : List ℕ} (e : forced ≡ forced_roots header roots plains ++ rest) where
      -- the words that count
      own-forced : take (root_count header) forced ≡ roots_in_force (tables_contents header tables)
      unfolding roots_in_force tables_contents
      own-forced =
          rw e (take_at (forced_roots header roots plains) rest (root_count header)
          (forced-length header roots plains))

      forced-listed : RootsListed header forced
      forced-listed =
          record {
            enough =
                rw (e, length-append (forced_roots header roots plains) rest)
                (omega (arith, forced-length header roots plains));
            listed = rw own-forced (stated-force header (tables_contents header tables) stated);
          }

      -- all of it, from the test for foreign tables
      pub tables-fit : Fit header nodes classes forced
      tables-fit =
          record {
            header-known = parts.own;
            ranges = header-ranges header parts.own;
            nodes-known = known-records;
            classes_wide = classes_wide header classes parts.classes;
            roots-listed = forced-listed;
            once = children-once header tables known-records parts.once;
          }

      -- and the book
      pub forced-book : tables_book header tables ≡ book_with header nodes classes forced
      unfolding tables_book book_in tables_contents book_with
      forced-book = λ i. record {
        half = header.half;
        states = header.states;
        phones = header.phones;
        nodes = tree_nodes header nodes;
        classes = take header.classes classes;
        roots = sym own-forced i;
      }
