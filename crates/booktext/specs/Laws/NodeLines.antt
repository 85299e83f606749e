-- Laws about the lines of nodes: the next ones, and how many there are.
use Rattle.std.specs.Prelude.{◌≡◌, refl, List, [], ◌∷◌, map, ℕ, suc, ◌+◌, ◌-◌, ◌≤◌, ◌<◌, length}
use Rattle.std.proofs.Common.{ap, ◌∙◌, add-one, arith}
use Rattle.std.proofs.lemmas.List.{length-map}
use Rattle.definitions.specs.BookLines.{TreeNode}
use Rattle.definitions.specs.BookReading.{node_size}
use Rattle.definitions.specs.Tables.{node_of, tree_node}
use Rattle.definitions.specs.BookText.{book_line_for, lines_of_nodes}
use Rattle.definitions.proofs.Laws.Lists.Records.{read_length}
use Rattle.tables.specs.Usable.{records_from}
use Rattle.tables.specs.Laws.Records.{records-next, records-end}
use Rattle.booktext.specs.Parts.{lines_at, node_lines}
use Rattle.booktext.specs.Laws.Putting.{Next, Places}

pub nodes-next : (nodes at : ℕ) (words : List ℕ) → at < nodes
    → Next (node_lines nodes at words) (lines_at words at) (node_lines nodes (at + 1) words)
unfolding lines_of_nodes
nodes-next nodes at words h = record { parts = rw (records-next nodes at words h, add-one) }

pub nodes-end : (nodes at : ℕ) (words : List ℕ) → nodes ≤ at → node_lines nodes at words ≡ []
unfolding lines_of_nodes
nodes-end nodes at words h = rw (records-end nodes at words h)

abbrev pub nodes_written : (places nodes : ℕ) (words : List ℕ) → places ≡ nodes
    → Places places (node_lines nodes 0 words)
nodes_written places nodes words e =
    record {
      at = lines_at words;
      rest = λ node. node_lines nodes node words;
      starts = refl;
      next = λ node h. nodes-next nodes node words (omega arith);
      ends = nodes-end nodes places words (omega arith);
    }

lines-of-nodes : (at : ℕ) (nodes : List TreeNode) → length (lines_of_nodes at nodes) ≡ length nodes
unfolding lines_of_nodes
lines-of-nodes at [] = refl
lines-of-nodes at (node ∷ nodes) = ap suc (lines-of-nodes (suc at) nodes)

pub nodes-many : (nodes : ℕ) (words : List ℕ) → length (node_lines nodes 0 words) ≡ nodes
nodes-many nodes words =
    let records = records_from nodes 0 words in
    length-map (lines_of_nodes 0 (map tree_node records)) book_line_for
    ∙ lines-of-nodes 0 (map tree_node records) ∙ length-map records tree_node
    ∙ read_length node_size node_of (nodes - 0) words ∙ omega arith
