-- What one more line leaves in the tables and in the counts of names.
use Rattle.std.specs.Prelude.{List, [], ◌∷◌, ℕ, ◌+◌, ◌-◌, ◌*◌, ◌≤◌, ◌<◌, set, replicate}
use Rattle.std.specs.Int.Bits.{bit_or}
use Rattle.definitions.specs.Forms.{most_nodes}
use Rattle.definitions.specs.Lists.{◌!◌, concat_map, padded}
use Rattle.definitions.specs.PhoneSets.{alone}
use Rattle.definitions.specs.BookLines.{BookLine, H, Q, N, L, B, R, question, leaf, header_of, members_of, nodes_of}
use Rattle.definitions.specs.BookLines.{boundaries_of, roots_of, asks, root_names, root_words, plain_words, root_place}
use Rattle.definitions.specs.BookLines.{header_in, root_count, no_root}
use Rattle.definitions.specs.BookReading.{Lent, node_size}
use Rattle.definitions.specs.Tables.{node_words, class_sets}
use Rattle.lines.specs.Putting.{put_at}
use Rattle.tables.specs.Naming.{all_names, counts_of, named_all}

-- the table of nodes after a line
unfoldable pub nodes_after : BookLine → List ℕ → List ℕ
nodes_after (H _ _ _ _ _) table = table
nodes_after (Q _ _) table = table
nodes_after (N node class position yes_node no_node) table =
    put_at (node_size * node) (node_words (question (asks class position) yes_node no_node)) table
nodes_after (L node model) table = put_at (node_size * node) (node_words (leaf model)) table
nodes_after (B _ _) table = table
nodes_after (R _ _ _) table = table

-- the table of classes after a line
unfoldable pub classes_after : BookLine → List ℕ → List ℕ
classes_after (H _ _ _ _ _) table = table
classes_after (Q class phone) table = set table (class - 1) (bit_or (table ! (class - 1)) (alone phone))
classes_after (N _ _ _ _ _) table = table
classes_after (L _ _) table = table
classes_after (B _ _) table = table
classes_after (R _ _ _) table = table

-- the table of roots after a line, where there are so many states: words for roots not given, then the roots
unfoldable pub roots_after : (states : ℕ) → BookLine → List ℕ → List ℕ
roots_after states (H half own phones classes nodes) table =
    put_at 0 (replicate (root_count (header_in (H half own phones classes nodes))) no_root) table
roots_after states (Q _ _) table = table
roots_after states (N _ _ _ _ _) table = table
roots_after states (L _ _) table = table
roots_after states (B _ _) table = table
roots_after states (R phone state root) table = set table (root_place states phone state) root

-- the table of plain phones after a line
unfoldable pub plains_after : BookLine → List ℕ → List ℕ
plains_after (H _ _ _ _ _) table = table
plains_after (Q _ _) table = table
plains_after (N _ _ _ _ _) table = table
plains_after (L _ _) table = table
plains_after (B boundary plain) table = set table (boundary - 1) plain
plains_after (R _ _ _) table = table

-- the nodes that a line names
unfoldable pub names_in : BookLine → List ℕ
names_in (H _ _ _ _ _) = []
names_in (Q _ _) = []
names_in (N _ _ _ yes_node no_node) = yes_node ∷ no_node ∷ []
names_in (L _ _) = []
names_in (B _ _) = []
names_in (R _ _ root) = root ∷ []

-- the counts of names after a line
unfoldable pub counts_after : BookLine → List ℕ → List ℕ
counts_after line counts = named_all counts (names_in line)

-- a line whose words lie within tables of these lengths, where there are so many states
abbrev pub HasRoom : (states : ℕ) → Lent → BookLine → Type 0
HasRoom states lent (H half own phones classes nodes) =
    root_count (header_in (H half own phones classes nodes)) ≤ lent.roots
HasRoom states lent (Q class phone) = (1 ≤ class) × (class ≤ lent.classes) × (1 ≤ phone) × (phone ≤ 64)
HasRoom states lent (N node _ _ _ _) = node_size * node + node_size ≤ lent.nodes
HasRoom states lent (L node _) = node_size * node + node_size ≤ lent.nodes
HasRoom states lent (B boundary _) = boundary - 1 < lent.plains
HasRoom states lent (R phone state _) = root_place states phone state < lent.roots

-- what the lines taken so far leave in the four lent tables
unfoldable pub nodes_stored : Lent → (before : List BookLine) → List ℕ
nodes_stored lent before = padded lent.nodes (concat_map node_words (nodes_of before))

unfoldable pub classes_stored : Lent → (before : List BookLine) → List ℕ
classes_stored lent before = padded lent.classes (class_sets (header_of before).classes (members_of before))

unfoldable pub roots_stored : Lent → (before : List BookLine) → List ℕ
roots_stored lent before = padded lent.roots (root_words (header_of before) (roots_of before))

unfoldable pub plains_stored : Lent → (before : List BookLine) → List ℕ
plains_stored lent before = padded lent.plains (plain_words (header_of before) (boundaries_of before))

-- the nodes that they name, as children and as roots
unfoldable pub names_of : (before : List BookLine) → List ℕ
names_of before = all_names (nodes_of before) (root_names (roots_of before))

-- "how often each of up to 4096 nodes was named"
unfoldable pub counts_stored : (before : List BookLine) → List ℕ
counts_stored before = counts_of most_nodes (names_of before)
