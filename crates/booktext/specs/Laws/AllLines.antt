-- Laws about all lines of a book: they are those of its parts, one after the other, and a 64-bit word counts them.
use Rattle.std.specs.Prelude.{◌≡◌, ℕ, ◌+◌, ◌*◌, ◌≤◌, ◌<◌, length}
use Rattle.std.proofs.Math.Path.{sym, ap₂}
use Rattle.std.proofs.Common.{ap, ◌∙◌, mul-le-mul_left, arith}
use mathlib.Core.List.{List, ◌∷◌, ◌++◌, map, map-append, map-map}
use Rattle.definitions.specs.declared.Header.{Header}
use Rattle.definitions.specs.Forms.{most_nodes}
use Rattle.definitions.specs.Lines.{Line}
use Rattle.definitions.specs.BookLines.{BookLine, Member, Boundary, Root}
use Rattle.definitions.specs.Tables.{tree_node}
use Rattle.definitions.specs.BookText.{book_line_for, line_of_member, members_from, lines_of_nodes, line_of_boundary}
use Rattle.definitions.specs.BookText.{boundaries_from, line_of_root, roots_listed, line_of_header, lines_of_book}
use Rattle.tables.specs.Usable.{tree_nodes}
use Rattle.tables.specs.Laws.Records.{records-start}
use Rattle.booktext.specs.Parts.{class_lines, node_lines, boundary_lines, root_lines, book_lines}
use Rattle.booktext.specs.Laws.ClassLines.{classes-few}
use Rattle.booktext.specs.Laws.NodeLines.{nodes-many}
use Rattle.booktext.specs.Laws.BoundaryLines.{boundaries-most}
use Rattle.booktext.specs.Laws.RootLines.{roots-most}

module _ (header : Header) (nodes sets roots plains : List ℕ) where
  abbrev parts : List Line
  parts =
      book_line_for (line_of_header header) ∷ class_lines header.phones 1 sets
      ++ node_lines header.nodes 0 nodes ++ boundary_lines 1 plains ++ root_lines header.states 0 roots

  pub book-parts : parts ≡ book_lines header nodes sets roots plains
  unfolding lines_of_book
  book-parts =
      let members : List Member = members_from header.phones 1 sets in
      let boundaries : List Boundary = boundaries_from 1 plains in
      let given : List Root = roots_listed header.states 0 roots in
      let on-classes : List BookLine = map line_of_member members in
      let on-nodes : List BookLine = lines_of_nodes 0 (tree_nodes header nodes) in
      let on-boundaries : List BookLine = map line_of_boundary boundaries in
      let first : map book_line_for (on-classes ++ on-nodes)
      ≡ class_lines header.phones 1 sets ++ node_lines header.nodes 0 nodes =
      map-append book_line_for on-classes on-nodes
      ∙ ap₂ ◌++◌ (map-map book_line_for line_of_member members)
      (ap (λ l. map book_line_for (lines_of_nodes 0 (map tree_node l))) (records-start header nodes)) in
      let second : map book_line_for (on-classes ++ on-nodes ++ on-boundaries)
      ≡ class_lines header.phones 1 sets ++ node_lines header.nodes 0 nodes ++ boundary_lines 1 plains =
      map-append book_line_for (on-classes ++ on-nodes) on-boundaries
      ∙ ap₂ ◌++◌ first (map-map book_line_for line_of_boundary boundaries) in
      sym (ap (λ (l : List Line). book_line_for (line_of_header header) ∷ l)
      (map-append book_line_for (on-classes ++ on-nodes ++ on-boundaries) (map line_of_root given)
      ∙ ap₂ ◌++◌ second (map-map book_line_for line_of_root given)))

  -- a 64-bit word counts the lines of all parts
  abbrev pub PartsFew : Type 0
  PartsFew =
      1 + length (class_lines header.phones 1 sets) + length (node_lines header.nodes 0 nodes)
      + length (boundary_lines 1 plains) + length (root_lines header.states 0 roots) ≤ 18446744073709551615

  pub parts-few : header.phones < 4294967296 → header.nodes < 4294967296
      → length sets ≤ most_nodes → length roots ≤ most_nodes → length plains ≤ most_nodes → PartsFew
  parts-few p n s r b =
      let most : header.phones * length sets ≤ header.phones * most_nodes =
      mul-le-mul_left header.phones s in
      omega (
        arith,
        most,
        classes-few header.phones 1 sets,
        nodes-many header.nodes nodes,
        boundaries-most 1 plains,
        roots-most header.states 0 roots,
      )
