-- Document 02, P1, "One spelling of a book": "Colleges swap books by mail, and the same trees arrive numbered in many
-- ways. We want a writer of the plain form." A book is taken apart into its trees, which have no numbers of nodes and
-- classes, and these are numbered anew. What the form promises is stated in proofs/Spelling/OneSpelling.antt.
use Rattle.std.specs.Prelude.{if◌then◌else◌, ◌≡◌, List, [], ◌∷◌, ◌++◌, map, ℕ, zero, suc, ◌+◌, ◌-◌, leb, eqb, length}
use Rattle.std.proofs.Math.Option.{Option, none, some}
use Rattle.definitions.specs.declared.Header.{Header}
use Rattle.definitions.specs.declared.Fault.TheVariants.{Foreign, Short}
use Rattle.definitions.specs.Faults.{Outcome, answered, ◌unless◌, judge}
use Rattle.definitions.specs.Lists.{◌!◌, at_least_one, concat_map, place_of}
use Rattle.definitions.specs.BookLines.{BookLine, TreeNode, question, leaf, Asked, asks, no_root}
use Rattle.definitions.specs.Tables.{Contents, Tables, tables_contents}
use Rattle.definitions.specs.ForeignTables.{tables_known}
use Rattle.definitions.specs.Lookup.{node_at}
use Rattle.definitions.specs.BookText.{lines_of_book, text_of_book}

-- A tree by itself: "the same shape, positions, member sets and models". A set is the word of its members.
pub record Question : Type 0 where
  pub position : ℕ
  pub set : ℕ

pub data Tree : Type 0 where
  asking : (asked : Question) → (on_yes on_no : Tree) → Tree
  giving : (model : ℕ) → Tree

-- what a question asks, without the number of its class; classes count from 1
abbrev pub question_of : (classes : List ℕ) → Asked → Question
question_of classes asked = record { position = asked.position; set = classes ! (asked.class - 1) }

-- the tree below a node; children are greater, so as many levels as there are nodes are enough
unfoldable pub tree_below : (levels : ℕ) → List TreeNode → (classes : List ℕ) → (node : ℕ) → Tree
tree_below zero nodes classes node = giving 0
tree_below (suc levels) nodes classes node =
    elim (node_at nodes node) [
      | question asked yes_node no_node ↦
          asking (question_of classes asked) (tree_below levels nodes classes yes_node)
          (tree_below levels nodes classes no_node)
      | leaf model ↦ giving model
    ]

abbrev pub tree_at : List TreeNode → (classes : List ℕ) → (node : ℕ) → Tree
tree_at nodes classes node = tree_below (length nodes) nodes classes node

-- "Trees stand in R order"; where no R line gives a root there is none
abbrev pub tree_for : List TreeNode → (classes : List ℕ) → (root : ℕ) → Option Tree
tree_for nodes classes root = if eqb root no_root then none else some (tree_at nodes classes root)

unfoldable pub trees_of : Contents → List (Option Tree)
trees_of contents = map (tree_for contents.nodes contents.classes) contents.roots

-- "they have the same half-width, states, phones and, tree by tree, the same shape, positions, member sets and models";
-- "P1's form keeps and compares the B lines"
pub record SameBook (a b : Contents) : Type 0 where
  pub half : a.half ≡ b.half
  pub states : a.states ≡ b.states
  pub phones : a.phones ≡ b.phones
  pub trees : trees_of a ≡ trees_of b
  pub plains : a.plains ≡ b.plains

-- The classes: "Classes with the same members become one, unused classes go, and classes are numbered by first use in
-- that order."
-- the sets that a tree asks for, "depth first, yes before no"
unfoldable pub sets_in : Tree → List ℕ
sets_in (asking asked on_yes on_no) = asked.set ∷ sets_in on_yes ++ sets_in on_no
sets_in (giving model) = []

-- each of these sets once, after those that were seen
unfoldable pub first_uses : (seen sets : List ℕ) → List ℕ
first_uses seen [] = seen
first_uses seen (set ∷ sets) =
    first_uses (if at_least_one (eqb set) seen then seen else seen ++ (set ∷ [])) sets

unfoldable pub sets_of : List Tree → List ℕ
sets_of trees = first_uses [] (concat_map sets_in trees)

-- where the classes have these sets, the class of a set, and what a question asks by the number of its class
abbrev pub class_among : (sets : List ℕ) → (set : ℕ) → ℕ
class_among sets set = suc (place_of eqb sets set)

abbrev pub asked_among : (sets : List ℕ) → Question → Asked
asked_among sets asked = asks (class_among sets asked.set) asked.position

-- The nodes: "each numbered depth first, yes before no"
-- how many nodes a tree has
unfoldable pub size_of : Tree → ℕ
size_of (asking asked on_yes on_no) = suc (size_of on_yes + size_of on_no)
size_of (giving model) = 1

-- the nodes of a tree whose root has number `at`
unfoldable pub nodes_from : (sets : List ℕ) → (at : ℕ) → Tree → List TreeNode
nodes_from sets at (asking asked on_yes on_no) =
    question (asked_among sets asked) (suc at) (suc at + size_of on_yes)
    ∷ nodes_from sets (suc at) on_yes ++ nodes_from sets (suc at + size_of on_yes) on_no
nodes_from sets at (giving model) = leaf model ∷ []

-- the nodes of trees that stand one after the other
unfoldable pub all_nodes : (sets : List ℕ) → (at : ℕ) → List Tree → List TreeNode
all_nodes sets at [] = []
all_nodes sets at (tree ∷ trees) = nodes_from sets at tree ++ all_nodes sets (at + size_of tree) trees

-- their roots, with the places where there is none
unfoldable pub roots_from : (at : ℕ) → List (Option Tree) → List ℕ
roots_from at [] = []
roots_from at (none ∷ trees) = no_root ∷ roots_from at trees
roots_from at (some tree ∷ trees) = at ∷ roots_from (at + size_of tree) trees

-- the trees that are there
unfoldable pub trees_there : List (Option Tree) → List Tree
trees_there [] = []
trees_there (none ∷ trees) = trees_there trees
trees_there (some tree ∷ trees) = tree ∷ trees_there trees

-- trees numbered anew, with a half-width, states, phones and plain phones
unfoldable pub numbered : (half states phones : ℕ) → (plains : List ℕ) → List (Option Tree) → Contents
numbered half states phones plains trees =
    let there : List Tree = trees_there trees in
    record {
      half = half;
      states = states;
      phones = phones;
      nodes = all_nodes (sets_of there) 0 there;
      classes = sets_of there;
      roots = roots_from 0 trees;
      plains = plains;
    }

unfoldable pub plain_contents : Contents → Contents
plain_contents contents =
    numbered contents.half contents.states contents.phones contents.plains (trees_of contents)

-- the header that states their counts
unfoldable pub header_for : Contents → Header
header_for contents =
    record {
      half = contents.half;
      states = contents.states;
      phones = contents.phones;
      classes = length contents.classes;
      nodes = length contents.nodes;
    }

-- The plain form, by its lines and as text.
unfoldable pub plain_lines : Contents → List BookLine
plain_lines contents = lines_of_book (header_for (plain_contents contents)) (plain_contents contents)

unfoldable pub plain_text : Contents → List ℕ
plain_text contents = text_of_book (header_for (plain_contents contents)) (plain_contents contents)

-- the plain form of lent tables, into a buffer of so many bytes: 18, then "A short text buffer is 33."
unfoldable pub write_plain : Header → Tables → (size : ℕ) → Outcome (List ℕ)
write_plain header tables size =
    let text : List ℕ = plain_text (tables_contents header tables) in
    judge 0
    (Foreign unless tables_known header tables
    ∷ Short unless leb (length text) size
    ∷ [])
    (answered text)
