-- The lines of a book in tables: those of each part, as the code writes them, and all of them.
use Rattle.std.specs.Prelude.{List, [], ◌∷◌, map, ℕ, ◌*◌, drop}
use Rattle.definitions.specs.declared.Header.{Header}
use Rattle.definitions.specs.Lists.{select}
use Rattle.definitions.specs.Lines.{Line}
use Rattle.definitions.specs.PhoneSets.{has}
use Rattle.definitions.specs.BookLines.{Q}
use Rattle.definitions.specs.BookReading.{node_size}
use Rattle.definitions.specs.Tables.{Contents, node_of, tree_node}
use Rattle.definitions.specs.BookText.{book_line_for, line_of_member, members_from, line_of_node, lines_of_nodes}
use Rattle.definitions.specs.BookText.{line_of_boundary, boundaries_from, line_of_root, roots_listed, lines_of_book}
use Rattle.tables.specs.Usable.{records_from, tree_nodes}

-- the Q lines of a class with those of these phones that its set has
abbrev pub member_lines : (class set : ℕ) → (phones : List ℕ) → List Line
member_lines class set phones = map (λ p. book_line_for (Q class p)) (select (λ p. has p set) phones)

-- the Q lines of the classes `class`, class+1, .. with these sets
abbrev pub class_lines : (phones class : ℕ) → (sets : List ℕ) → List Line
class_lines phones class sets = map (λ m. book_line_for (line_of_member m)) (members_from phones class sets)

-- the lines of a node by its record in a table, and of the nodes from one on in a table of so many
abbrev pub lines_at : (words : List ℕ) → (node : ℕ) → List Line
lines_at words node = book_line_for (line_of_node node (tree_node (node_of (drop (node_size * node) words)))) ∷ []

abbrev pub node_lines : (nodes at : ℕ) → (words : List ℕ) → List Line
node_lines nodes at words = map book_line_for (lines_of_nodes at (map tree_node (records_from nodes at words)))

-- the B lines of the phones `phone`, phone+1, .. with these plain phones
abbrev pub boundary_lines : (phone : ℕ) → (plains : List ℕ) → List Line
boundary_lines phone plains = map (λ b. book_line_for (line_of_boundary b)) (boundaries_from phone plains)

-- the R lines of roots from a place on
abbrev pub root_lines : (states at : ℕ) → (roots : List ℕ) → List Line
root_lines states at roots = map (λ r. book_line_for (line_of_root r)) (roots_listed states at roots)

-- what a table of nodes holds, with classes that have these sets, these roots and these plain phones
abbrev pub contents_with : Header → (nodes sets roots plains : List ℕ) → Contents
contents_with header nodes sets roots plains =
    record {
      half = header.half;
      states = header.states;
      phones = header.phones;
      nodes = tree_nodes header nodes;
      classes = sets;
      roots = roots;
      plains = plains;
    }

abbrev pub book_lines : Header → (nodes sets roots plains : List ℕ) → List Line
book_lines header nodes sets roots plains =
    map book_line_for (lines_of_book header (contents_with header nodes sets roots plains))
