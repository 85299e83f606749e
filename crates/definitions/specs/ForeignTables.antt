-- Document 01, fault 18, with the tables of document 02, P2: "lent tables .., with their header .., that the
-- readers never leave".
use Rattle.std.specs.Prelude.{List, [], ◌∷◌, map, Bool, true, not, ◌&&◌, ◌||◌, ℕ, suc, ◌-◌, ◌*◌, ◌^◌, leb, ltb, eqb, length, take, drop}
use Rattle.definitions.specs.Forms.{most_model, form_h}
use Rattle.definitions.specs.declared.Header.{Header}
use Rattle.definitions.specs.declared.Node.{Node}
use Rattle.definitions.specs.Lists.{every, ◌!◌, up_from}
use Rattle.definitions.specs.Lines.{in_ranges}
use Rattle.definitions.specs.BookLines.{root_count, root_place, no_root}
use Rattle.definitions.specs.BookReading.{node_size, orphans}
use Rattle.definitions.specs.Tables.{Tables, node_records, Contents, tables_contents}

-- a header that an H line states
unfoldable pub header_known : Header → Bool
header_known header =
    in_ranges form_h.fields
    (header.half ∷ header.states ∷ header.phones ∷ header.classes ∷ header.nodes ∷ [])

-- a record that an N line leaves as node `at`: "a child not greater than its node or not in the list" is
-- foreign
unfoldable pub question_known : Header → (at : ℕ) → Node → Bool
question_known header at node =
    eqb node.kind 1 && leb 1 node.value && leb node.value header.classes
    && leb node.position (2 * header.half)
    && ltb at node.yes && ltb node.yes header.nodes
    && ltb at node.no && ltb node.no header.nodes

-- a record that an L line leaves
unfoldable pub leaf_known : Node → Bool
leaf_known node =
    eqb node.kind 2 && leb 1 node.value && leb node.value most_model
    && eqb node.position 0 && eqb node.yes 0 && eqb node.no 0

-- records that N and L lines leave as nodes `at`, at+1, ..
unfoldable pub nodes_known : Header → (at : ℕ) → List Node → Bool
nodes_known header at [] = true
nodes_known header at (node ∷ nodes) =
    (question_known header at node || leaf_known node) && nodes_known header (suc at) nodes

-- a table of at least `count` words, 0 in every word beyond them. "Words beyond these are 0."
unfoldable pub holds_only : (count : ℕ) → List ℕ → Bool
holds_only count words = leb count (length words) && every (λ word. eqb word 0) (drop count words)

unfoldable pub node_table_known : Header → List ℕ → Bool
node_table_known header words =
    holds_only (node_size * header.nodes) words && nodes_known header 0 (node_records header words)

-- sets that hold no phone beyond the header's
unfoldable pub class_table_known : Header → List ℕ → Bool
class_table_known header words =
    holds_only header.classes words
    && every (λ set. ltb set (2 ^ header.phones)) (take header.classes words)

-- the roots of a phone, one for each state
unfoldable pub roots_of_phone : (states : ℕ) → (roots : List ℕ) → (phone : ℕ) → List ℕ
roots_of_phone states roots phone = map (λ state. roots ! root_place states phone state) (up_from 1 states)

-- a phone's roots that R lines leave: they are nodes, or those of a boundary phone "left out all together"
unfoldable pub phone_known : Header → (plains roots : List ℕ) → (phone : ℕ) → Bool
phone_known header plains roots phone =
    every (λ root. ltb root header.nodes) (roots_of_phone header.states roots phone)
    || (not (eqb (plains ! (phone - 1)) 0)
    && every (λ root. eqb root no_root) (roots_of_phone header.states roots phone))

unfoldable pub roots_known : Header → (plains roots : List ℕ) → Bool
roots_known header plains roots = every (phone_known header plains roots) (up_from 1 header.phones)

unfoldable pub root_table_known : Header → (plains : List ℕ) → List ℕ → Bool
root_table_known header plains words =
    holds_only (root_count header) words && roots_known header plains (take (root_count header) words)

-- a phone's word that B lines leave: a phone that is no boundary phone, or 0. The first word, of silence, is
-- 0; so is the word at the place before it.
unfoldable pub plain_known : Header → (plains : List ℕ) → (plain : ℕ) → Bool
plain_known header plains plain = leb plain header.phones && eqb (plains ! (plain - 1)) 0

unfoldable pub plains_known : Header → (plains : List ℕ) → Bool
plains_known header plains = eqb (plains ! 0) 0 && every (plain_known header plains) plains

unfoldable pub plain_table_known : Header → List ℕ → Bool
plain_table_known header words =
    holds_only header.phones words && plains_known header (take header.phones words)

-- "Every node is named exactly once, as a child or as a root"
unfoldable pub named_once : Contents → Bool
named_once contents = eqb (length (orphans contents.nodes contents.roots)) 0

-- not 18: tables that reading leaves
unfoldable pub tables_known : Header → Tables → Bool
tables_known header tables =
    header_known header
    && node_table_known header tables.nodes
    && class_table_known header tables.classes
    && plain_table_known header tables.plains
    && root_table_known header (take header.phones tables.plains) tables.roots
    && named_once (tables_contents header tables)
