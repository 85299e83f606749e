-- Document 01, "Tree book", the second entry: the leaf that a context reaches from a root, over node records.
use Rattle.std.specs.Prelude.{if◌then◌else◌, List, [], ◌∷◌, map, Bool, ◌&&◌, ℕ, zero, suc, ◌+◌, ◌-◌, ◌*◌, ltb, eqb, length, get_or}
use Rattle.definitions.specs.declared.Header.{Header}
use Rattle.definitions.specs.declared.Node.{Node}
use Rattle.definitions.specs.declared.Fault.TheVariants.{Foreign, Range}
use Rattle.definitions.specs.Faults.{Outcome, answered, judge, ◌unless◌}
use Rattle.definitions.specs.Lists.{◌!◌, every}
use Rattle.definitions.specs.PhoneSets.{has}
use Rattle.definitions.specs.BookLines.{is_phone, TreeNode, question, leaf, Asked, Reached, at_leaf, past_question}
use Rattle.definitions.specs.BookReading.{node_size}
use Rattle.definitions.specs.Tables.{tree_node, node_records}
use Rattle.definitions.specs.ForeignTables.{header_known, nodes_known, holds_only, class_table_known}

abbrev pub node_at : List TreeNode → ℕ → TreeNode
node_at nodes node = get_or nodes node (leaf 0)

-- the model at a leaf
unfoldable pub model_at : List TreeNode → (node : ℕ) → ℕ
model_at nodes node =
    elim (node_at nodes node) [ question asked yes_node no_node ↦ 0 | leaf model ↦ model ]

-- the answer to a question: whether its class holds the context's phone at its position; classes count from 1
unfoldable pub answers : (classes context : List ℕ) → Asked → Bool
answers classes context asked = has (context ! asked.position) (classes ! (asked.class - 1))

-- what a walk from a node reaches, and how many questions it meets. It moves to greater nodes only, so as many steps
-- as there are nodes are enough; without a step left it ends where it is.
unfoldable pub walk : (steps : ℕ) → List TreeNode → (classes context : List ℕ) → (node : ℕ) → Reached
walk zero nodes classes context node = at_leaf node (model_at nodes node)
walk (suc steps) nodes classes context node =
    elim (node_at nodes node) [
      | question asked yes_node no_node ↦
          past_question
          (walk steps nodes classes context (if answers classes context asked then yes_node else no_node))
      | leaf model ↦ at_leaf node model
    ]

-- from a root: all of it, and its leaf alone
unfoldable pub reached : List TreeNode → (classes context : List ℕ) → (root : ℕ) → Reached
reached nodes classes context root = walk (length nodes) nodes classes context root

abbrev pub leaf_reached : List TreeNode → (classes context : List ℕ) → (root : ℕ) → ℕ
leaf_reached nodes classes context root = (reached nodes classes context root).leaf

-- not 18: "A record that no N or L line leaves, a child not greater than its node or not in the list, or a
-- root not in the list is 18 (how often nodes are named is not judged here)". The list holds the header's
-- nodes and no others.
unfoldable pub lookup_known : Header → (classes : List ℕ) → List Node → (root : ℕ) → Bool
lookup_known header classes nodes root =
    header_known header
    && eqb (length nodes) header.nodes && nodes_known header 0 nodes
    && class_table_known header classes
    && ltb root header.nodes

-- not 13: "a context that is not 2n+1 phones in range is 13"
unfoldable pub is_context : Header → List ℕ → Bool
is_context header context =
    eqb (length context) (2 * header.half + 1) && every (is_phone header.phones) context

-- "answers the node number of the leaf that a context reaches from a root", and with it "the number of questions met
-- on the way"
unfoldable pub leaf_lookup : Header → (classes : List ℕ) → List Node
    → (root : ℕ) → (context : List ℕ) → Outcome Reached
leaf_lookup header classes nodes root context =
    judge 0
    (Foreign unless lookup_known header classes nodes root
    ∷ Range unless is_context header context
    ∷ [])
    (answered (reached (map tree_node nodes) classes context root))

-- the same over the table of node words that reading leaves
unfoldable pub leaf_lookup_in_table : Header → (classes nodes : List ℕ)
    → (root : ℕ) → (context : List ℕ) → Outcome Reached
leaf_lookup_in_table header classes nodes root context =
    judge 0
    (Foreign unless holds_only (node_size * header.nodes) nodes ∷ [])
    (leaf_lookup header classes (node_records header nodes) root context)
