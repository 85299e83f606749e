-- Laws about counting the names in tables: the children of the records, then the roots, and what the counts
-- say.
use Rattle.std.specs.Prelude.{◌≡◌, refl, Bool, T, not, is_some, take, drop, replicate}
use Rattle.std.proofs.Math.Path.{sym, ap}
use Rattle.std.proofs.Common.{◌∙◌, add-one, arith, length-take, length-take-le, drop_of_length-le, drop-cons, eq-eqb, ne_eqb}
use mathlib.Core.List.{List, [], map}
use Prim.Native.Nat.{ℕ, ◌+◌, ◌*◌, ◌≤◌, ◌<◌}
use Rattle.std.proofs.Math.ListN.{length}
use Rattle.definitions.specs.declared.Header.{Header}
use Rattle.definitions.specs.declared.Node.{Node}
use Rattle.definitions.specs.Lists.{◌!◌, concat_map}
use Rattle.definitions.specs.BookLines.{TreeNode, children_of, root_count}
use Rattle.definitions.specs.BookReading.{node_size}
use Rattle.definitions.specs.Tables.{node_of, tree_node, tables_contents}
use Rattle.definitions.specs.ForeignTables.{header_known, named_once}
use Rattle.definitions.proofs.Laws.Books.Tables.{tree-nodes-length}
use Rattle.definitions.proofs.Laws.Books.Books.{roots_few}
use Rattle.definitions.proofs.Laws.Books.AcceptedKnown.{header-ranges}
use Rattle.tables.specs.Lending.{lent_tables}
use Rattle.tables.specs.Naming.{all_names, counts_of, named_again, named_all, misnamed_place}
use Rattle.tables.specs.Usable.{records_from, tree_nodes}
use Rattle.tables.specs.Laws.Records.{records-start, records-next, records-end}
use Rattle.tables.specs.Laws.Naming.{counts-length, counts-none, counts-named, misnamed-test, named-append, named-length, again-length}
use Rattle.tables.specs.Laws.Naming.{orphans-test, children-length}

-- ---- one record

module _ (counts : List ℕ) (node : Node) where
  pub children-none : (node.kind ≡ 1 → ⊥) → counts ≡ named_all counts (children_of (tree_node node))
  unfolding tree_node children_of named_all
  children-none h = rw (ne_eqb node.kind 1 h)

  pub children-both : node.kind ≡ 1 → {first both : List ℕ} → first ≡ named_again counts node.yes
      → both ≡ named_again first node.no → both ≡ named_all counts (children_of (tree_node node))
  unfolding tree_node children_of named_all
  children-both h e f = rw (eq-eqb node.kind 1 h, f, e)

-- ---- all records

abbrev pub children_from : (nodes at : ℕ) → (words : List ℕ) → List ℕ
children_from nodes at words = concat_map children_of (map tree_node (records_from nodes at words))

abbrev pub children_in : Header → (words : List ℕ) → List ℕ
children_in header words = concat_map children_of (tree_nodes header words)

-- the children of the records before one are counted, those of the others are left
pub record ChildrenNamed (before counts : List ℕ) (header : Header) (words : List ℕ) (at : ℕ) : Type 0 where
  pub within : at ≤ header.nodes
  pub sized : length counts ≡ length before
  pub rest : named_all before (children_in header words)
      ≡ named_all counts (children_from header.nodes at words)

pub children-start : (counts : List ℕ) (header : Header) (words : List ℕ)
    → ChildrenNamed counts counts header words 0
children-start counts header words =
    record { within = omega arith; sized = refl; rest = rw (records-start header words) }

module _ {before counts : List ℕ} {header : Header} {words : List ℕ} {at : ℕ}
    (n : ChildrenNamed before counts header words at) where
  pub children-more : at < header.nodes → {node : Node} → node ≡ node_of (drop (node_size * at) words)
      → {next : List ℕ} → next ≡ named_all counts (children_of (tree_node node))
      → ChildrenNamed before next header words (at + 1)
  unfolding concat_map
  children-more h {node} e {next} f =
      let left : List ℕ = children_from header.nodes (at + 1) words in
      record {
        within = omega arith;
        sized = ap length f ∙ named-length counts (children_of (tree_node node)) ∙ n.sized;
        rest = n.rest ∙ rw (
          records-next header.nodes at words h,
          ← e,
          named-append counts (children_of (tree_node node)) left,
          ← f,
        );
      }

  pub children-end : header.nodes ≤ at → counts ≡ named_all before (children_in header words)
  unfolding concat_map named_all
  children-end h = sym (n.rest ∙ rw (records-end header.nodes at words h))

-- ---- the roots

-- the roots before a place are counted, the others are left
pub record RootsNamed (before counts roots : List ℕ) (i : ℕ) : Type 0 where
  pub within : i ≤ length roots
  pub sized : length counts ≡ length before
  pub rest : named_all before roots ≡ named_all counts (drop i roots)

pub roots-start : (counts roots : List ℕ) → RootsNamed counts counts roots 0
roots-start counts roots = record { within = omega arith; sized = refl; rest = refl }

module _ {before counts roots : List ℕ} {i : ℕ} (n : RootsNamed before counts roots i) where
  pub roots-more : i < length roots → {next : List ℕ} → next ≡ named_again counts (roots ! i)
      → RootsNamed before next roots (i + 1)
  unfolding named_all
  roots-more h {next} f =
      record {
        within = omega arith;
        sized = ap length f ∙ again-length counts (roots ! i) ∙ n.sized;
        rest = n.rest ∙ rw (drop-cons roots i 0 h, f, add-one);
      }

  pub roots-end : length roots ≤ i → counts ≡ named_all before roots
  unfolding named_all
  roots-end h = sym (n.rest ∙ rw (drop_of_length-le roots {i = i} h))

-- ---- what the counts of both say

module _ (header : Header) (words roots : List ℕ) (known : T (header_known header)) where
  abbrev book_nodes : List TreeNode
  book_nodes = tree_nodes header words

  abbrev book_roots : List ℕ
  book_roots = take (root_count header) roots

  nodes-length : length book_nodes ≡ header.nodes
  nodes-length = tree-nodes-length header words

  -- a count has room for all names
  counts-both : named_all (named_all (replicate 4096 0) (children_in header words)) book_roots
      ≡ counts_of 4096 (all_names book_nodes book_roots)
  counts-both =
      let many : header.nodes ≤ 4096 = (header-ranges header known).nodes_range.high in
      let few : root_count header ≤ 192 = roots_few header (header-ranges header known) in
      let names : length (children_in header words) ≤ 2 * length book_nodes = children-length book_nodes in
      let own : length book_nodes ≡ header.nodes = nodes-length in
      let taken : length book_roots ≤ root_count header = rw length-take (omega arith) in
      rw (← counts-none 4096, counts-named 4096 [] (children_in header words) (omega arith))
      (counts-named 4096 (children_in header words) book_roots (omega arith))

  pub once-counted : {used count : ℕ} {none : Bool} {children all : List ℕ} → used ≡ root_count header
      → count ≡ header.nodes → children ≡ named_all (replicate 4096 0) (children_in header words)
      → all ≡ named_all children (take used roots) → is_some (misnamed_place (take count all)) ≡ not none
      → none ≡ named_once (tables_contents header (lent_tables words [] roots []))
  unfolding named_once tables_contents
  once-counted {used} {count} {none} {children} {all} a b c d e =
      let counted : all ≡ counts_of 4096 (all_names book_nodes book_roots) = rw (d, c, a) counts-both in
      let many : count ≡ length book_nodes = b ∙ sym (nodes-length) in
      let range : header.nodes ≤ 4096 = (header-ranges header known).nodes_range.high in
      let size : length all ≡ 4096 = ap length counted ∙ counts-length 4096 (all_names book_nodes book_roots) in
      let sized : length (take count all) ≡ count = length-take-le count all (omega (arith, size, b)) in
      misnamed-test (take count all) e
      ∙ rw (sized, counted, many) (orphans-test book_nodes book_roots 4096 (omega (arith, nodes-length)))
