-- Document 01, "Tree book", its table, with the B lines of document 02, P2: the lines of a book, and what
-- they say together.
use Rattle.std.specs.Prelude.{if◌then◌else◌, List, [], ◌∷◌, map, ℕ, suc, ◌+◌, ◌-◌, ◌*◌, ◌/◌, ◌%◌, leb, eqb, Bool, ◌&&◌}
use Prim.Native.Char.{code}
use Rattle.std.proofs.Math.Option.{Option, none, some}
use Rattle.definitions.specs.declared.Header.{Header}
use Rattle.definitions.specs.Lists.{◌!◌, concat_map, at_least_one, first_where, map_option, up_from}
use Rattle.definitions.specs.Lines.{Line}

-- the six letters with the fields that the table names; "A `B` line names a boundary phone .. and its plain
-- phone"
pub data BookLine : Type 0 where
  H : (half states phones classes nodes : ℕ) → BookLine
  Q : (class phone : ℕ) → BookLine
  N : (node class position yes_node no_node : ℕ) → BookLine
  L : (node model : ℕ) → BookLine
  B : (boundary plain : ℕ) → BookLine
  R : (phone state root : ℕ) → BookLine

-- a line's numbers in the fields of its letter, which is one of these six
unfoldable pub book_line : Line → BookLine
book_line line =
    let n : List ℕ = line.numbers in
    if eqb (code "H") line.letter then H (n ! 0) (n ! 1) (n ! 2) (n ! 3) (n ! 4) else
    if eqb (code "Q") line.letter then Q (n ! 0) (n ! 1) else
    if eqb (code "N") line.letter then N (n ! 0) (n ! 1) (n ! 2) (n ! 3) (n ! 4) else
    if eqb (code "L") line.letter then L (n ! 0) (n ! 1) else
    if eqb (code "B") line.letter then B (n ! 0) (n ! 1) else
    R (n ! 0) (n ! 1) (n ! 2)

-- the header: the numbers of the H line, which comes first
abbrev pub no_header : Header
no_header = record { half = 0; states = 0; phones = 0; classes = 0; nodes = 0 }

unfoldable pub header_in : BookLine → Header
header_in (H half states phones classes nodes) =
    record { half = half; states = states; phones = phones; classes = classes; nodes = nodes }
header_in (Q _ _) = no_header
header_in (N _ _ _ _ _) = no_header
header_in (L _ _) = no_header
header_in (B _ _) = no_header
header_in (R _ _ _) = no_header

unfoldable pub header_of : List BookLine → Header
header_of [] = no_header
header_of (line ∷ lines) = header_in line

-- "one R for every phone and state"
unfoldable pub root_count : Header → ℕ
root_count header = header.phones * header.states

-- whether a number is one of a book's phones: "Phones .. count from 1"
unfoldable pub is_phone : (phones : ℕ) → ℕ → Bool
is_phone phones p = leb 1 p && leb p phones

-- the members of classes. "the class holds that phone"
pub record Member : Type 0 where
  pub class : ℕ
  pub phone : ℕ

unfoldable pub member_in : BookLine → List Member
member_in (H _ _ _ _ _) = []
member_in (Q class phone) = record { class = class; phone = phone } ∷ []
member_in (N _ _ _ _ _) = []
member_in (L _ _) = []
member_in (B _ _) = []
member_in (R _ _ _) = []

unfoldable pub members_of : List BookLine → List Member
members_of lines = concat_map member_in lines

-- what a question asks: whether its class holds the phone at its position
pub record Part : Type 0 where
  pub class : ℕ
  pub position : ℕ

abbrev pub Asked : Type 0
Asked = Part

abbrev pub asks : (class position : ℕ) → Asked
asks class position = record { class = class; position = position }

-- a node of a tree: a question or a leaf
pub data TreeNode : Type 0 where
  question : (asked : Asked) (yes_node no_node : ℕ) → TreeNode
  leaf : (model : ℕ) → TreeNode

-- what a walk through a tree comes to: the node number of a leaf and the model there, and, of document 02, P5, "with
-- the leaf, the number of questions met on the way"
pub record Reached : Type 0 where
  pub leaf : ℕ
  pub model : ℕ
  pub questions : ℕ

abbrev pub at_leaf : (node model : ℕ) → Reached
at_leaf node model = record { leaf = node; model = model; questions = 0 }

-- the same with one question more on the way
abbrev pub past_question : Reached → Reached
past_question r = record { leaf = r.leaf; model = r.model; questions = suc r.questions }

-- the lines of nodes, each with the number that it states: "one N or L per node"
pub record NodeLine : Type 0 where
  pub number : ℕ
  pub node : TreeNode

unfoldable pub node_line_in : BookLine → List NodeLine
node_line_in (H _ _ _ _ _) = []
node_line_in (Q _ _) = []
node_line_in (N node class position yes_node no_node) =
    record { number = node; node = question (asks class position) yes_node no_node } ∷ []
node_line_in (L node model) = record { number = node; node = leaf model } ∷ []
node_line_in (B _ _) = []
node_line_in (R _ _ _) = []

unfoldable pub node_lines_of : List BookLine → List NodeLine
node_lines_of lines = concat_map node_line_in lines

-- the nodes of the trees, in the order of their lines
abbrev pub node_in : BookLine → List TreeNode
node_in line = map (λ l. l.node) (node_line_in line)

unfoldable pub nodes_of : List BookLine → List TreeNode
nodes_of lines = map (λ l. l.node) (node_lines_of lines)

-- the boundary phones, each with its plain phone
pub record Boundary : Type 0 where
  pub phone : ℕ
  pub plain : ℕ

unfoldable pub boundary_in : BookLine → List Boundary
boundary_in (H _ _ _ _ _) = []
boundary_in (Q _ _) = []
boundary_in (N _ _ _ _ _) = []
boundary_in (L _ _) = []
boundary_in (B boundary plain) = record { phone = boundary; plain = plain } ∷ []
boundary_in (R _ _ _) = []

unfoldable pub boundaries_of : List BookLine → List Boundary
boundaries_of lines = concat_map boundary_in lines

unfoldable pub is_boundary : List Boundary → (phone : ℕ) → Bool
is_boundary boundaries phone = at_least_one (λ b. eqb b.phone phone) boundaries

-- the plain phone that a B line names for a phone
unfoldable pub plain_for : List Boundary → (phone : ℕ) → Option ℕ
plain_for boundaries phone = map_option (λ b. b.plain) (first_where (λ b. eqb b.phone phone) boundaries)

-- the words of their table: "a 32-bit word per phone, its plain phone or 0"
unfoldable pub plain_given : List Boundary → (phone : ℕ) → ℕ
plain_given boundaries phone = elim (plain_for boundaries phone) [ none ↦ 0 | some plain ↦ plain ]

unfoldable pub plain_words : Header → List Boundary → List ℕ
plain_words header boundaries = map (plain_given boundaries) (up_from 1 header.phones)

-- the roots: "phone, state, root node"
pub record Root : Type 0 where
  pub phone : ℕ
  pub state : ℕ
  pub node : ℕ

unfoldable pub root_in : BookLine → List Root
root_in (H _ _ _ _ _) = []
root_in (Q _ _) = []
root_in (N _ _ _ _ _) = []
root_in (L _ _) = []
root_in (B _ _) = []
root_in (R phone state root) = record { phone = phone; state = state; node = root } ∷ []

unfoldable pub roots_of : List BookLine → List Root
roots_of lines = concat_map root_in lines

-- the place of a root "in R order", from 0, and the place after the last R line's
abbrev pub root_place : (states phone state : ℕ) → ℕ
root_place states phone state = (phone - 1) * states + (state - 1)

unfoldable pub next_place : (states : ℕ) → List Root → ℕ
next_place states [] = 0
next_place states (r ∷ []) = suc (root_place states r.phone r.state)
next_place states (r ∷ s ∷ roots) = next_place states (s ∷ roots)

-- the nodes that they name
abbrev pub root_names : List Root → List ℕ
root_names roots = map (λ r. r.node) roots

-- "the node in the R line of the phone .. and that state"
unfoldable pub root_for : List Root → (phone state : ℕ) → Option ℕ
root_for roots phone state =
    map_option (λ r. r.node) (first_where (λ r. eqb r.phone phone && eqb r.state state) roots)

-- the words of their table, "in R order": "a root that no R line gives is left as 4096"
abbrev pub no_root : ℕ
no_root = 4096

unfoldable pub root_given : List Root → (phone state : ℕ) → ℕ
root_given roots phone state = elim (root_for roots phone state) [ none ↦ no_root | some node ↦ node ]

unfoldable pub root_words : Header → List Root → List ℕ
root_words header roots =
    map (λ place. root_given roots (place / header.states + 1) (place % header.states + 1))
    (up_from 0 (root_count header))

-- the nodes that a node names. "Every node is named exactly once, as a child or as a root"
unfoldable pub children_of : TreeNode → List ℕ
children_of (question asked yes_node no_node) = yes_node ∷ no_node ∷ []
children_of (leaf model) = []
