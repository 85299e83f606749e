-- Laws about what lines say together: the members, nodes, boundary phones and roots of no line, of one, of
-- lines joined, and of one line more at the end. How `members_of`, `nodes_of`, `boundaries_of` and `roots_of` go
-- through the lines is known here alone: every other proof goes by these laws, nearly always by one line
-- more.
use Rattle.std.specs.Prelude.{◌≡◌, refl, ◌+◌, ◌≤◌, ◌<◌, length}
use Rattle.std.proofs.Common.{sym, ap₂, ◌∙◌, arith, length-append}
use Rattle.std.proofs.Math.Path.{ap}
use mathlib.Core.List.{List, [], ◌∷◌, ◌++◌, map, append-nil, map-append}
use Rattle.std.proofs.lemmas.List.{length-map}
use Rattle.definitions.specs.Lists.{concat_map}
use Rattle.definitions.specs.BookLines.{BookLine, H, Q, N, L, R, header_of, Member, member_in, members_of}
use Rattle.definitions.specs.BookLines.{TreeNode, node_in, nodes_of, node_line_in, node_lines_of, root_in, roots_of}
use Rattle.definitions.specs.BookLines.{root_names, B, Root, Boundary, boundary_in, boundaries_of}
use Rattle.definitions.proofs.Laws.Lists.Lists.{concat_map-append, concat_map-snoc}

-- what lines say
pub record Says (lines : List BookLine) (members : List Member) (nodes : List TreeNode)
    (boundaries : List Boundary) (roots : List Root) : Type 0 where
  pub members-said : members_of lines ≡ members
  pub nodes-said : nodes_of lines ≡ nodes
  pub boundaries-said : boundaries_of lines ≡ boundaries
  pub roots-said : roots_of lines ≡ roots

pub none-says : Says [] [] [] [] []
unfolding members_of nodes_of node_lines_of boundaries_of roots_of concat_map
none-says = record { members-said = refl; nodes-said = refl; boundaries-said = refl; roots-said = refl }

pub line-says : (line : BookLine)
    → Says (line ∷ []) (member_in line) (node_in line) (boundary_in line) (root_in line)
unfolding members_of nodes_of node_lines_of boundaries_of roots_of concat_map
line-says line = record {
  members-said = append-nil (member_in line);
  nodes-said = ap (map (λ l. l.node)) (append-nil (node_line_in line));
  boundaries-said = append-nil (boundary_in line);
  roots-said = append-nil (root_in line);
}

-- the nodes' lines themselves
pub line-of-node : (line : BookLine) → node_lines_of (line ∷ []) ≡ node_line_in line
unfolding node_lines_of concat_map
line-of-node line = append-nil (node_line_in line)

-- the nodes are those of their lines
pub nodes-lines : (lines : List BookLine) → nodes_of lines ≡ map (λ l. l.node) (node_lines_of lines)
unfolding nodes_of
nodes-lines lines = refl

pub node-lines-count : (lines : List BookLine) → length (node_lines_of lines) ≡ length (nodes_of lines)
unfolding nodes_of
node-lines-count lines = sym (length-map (node_lines_of lines) (λ l. l.node))

-- as many names and as many words as roots
pub root-names-count : (lines : List BookLine) → length (root_names (roots_of lines)) ≡ length (roots_of lines)
root-names-count lines = length-map (roots_of lines) (λ r. r.node)

-- the header stays after the first line
pub header-parts : (before lines : List BookLine) → 0 < length before
    → header_of (before ++ lines) ≡ header_of before
unfolding header_of
header-parts [] lines h = absurd (omega arith)
header-parts (first ∷ before) lines h = refl

-- ---- one part after another

module _ (k l : List BookLine) where
  pub members-parts : members_of (k ++ l) ≡ members_of k ++ members_of l
  unfolding members_of
  members-parts = concat_map-append member_in k l

  pub node-lines-parts : node_lines_of (k ++ l) ≡ node_lines_of k ++ node_lines_of l
  unfolding node_lines_of
  node-lines-parts = concat_map-append node_line_in k l

  pub nodes-parts : nodes_of (k ++ l) ≡ nodes_of k ++ nodes_of l
  unfolding nodes_of
  nodes-parts = ap (map (λ x. x.node)) node-lines-parts ∙ map-append _ (node_lines_of k) (node_lines_of l)

  pub roots-parts : roots_of (k ++ l) ≡ roots_of k ++ roots_of l
  unfolding roots_of
  roots-parts = concat_map-append root_in k l

  pub boundaries-parts : boundaries_of (k ++ l) ≡ boundaries_of k ++ boundaries_of l
  unfolding boundaries_of
  boundaries-parts = concat_map-append boundary_in k l

pub says-parts : {k l : List BookLine} {members others : List Member} {nodes more : List TreeNode}
    {edges beyond : List Boundary} {roots further : List Root} → Says k members nodes edges roots
    → Says l others more beyond further
    → Says (k ++ l) (members ++ others) (nodes ++ more) (edges ++ beyond) (roots ++ further)
says-parts {k} {l} s t =
    record {
      members-said = members-parts k l ∙ ap₂ ◌++◌ s.members-said t.members-said;
      nodes-said = nodes-parts k l ∙ ap₂ ◌++◌ s.nodes-said t.nodes-said;
      boundaries-said = boundaries-parts k l ∙ ap₂ ◌++◌ s.boundaries-said t.boundaries-said;
      roots-said = roots-parts k l ∙ ap₂ ◌++◌ s.roots-said t.roots-said;
    }

-- ---- one line more, at the end

module _ (before : List BookLine) (line : BookLine) where
  pub members-more : members_of (before ++ (line ∷ [])) ≡ members_of before ++ member_in line
  members-more =
      members-parts before (line ∷ []) ∙ ap (λ m. members_of before ++ m) (line-says line).members-said

  pub node-lines-more : node_lines_of (before ++ (line ∷ [])) ≡ node_lines_of before ++ node_line_in line
  unfolding node_lines_of
  node-lines-more = concat_map-snoc node_line_in before line

  pub nodes-more : nodes_of (before ++ (line ∷ [])) ≡ nodes_of before ++ node_in line
  nodes-more = nodes-parts before (line ∷ []) ∙ ap (λ m. nodes_of before ++ m) (line-says line).nodes-said

  pub roots-more : roots_of (before ++ (line ∷ [])) ≡ roots_of before ++ root_in line
  unfolding roots_of
  roots-more = concat_map-snoc root_in before line

  pub root-names-more : root_names (roots_of (before ++ (line ∷ [])))
      ≡ root_names (roots_of before) ++ root_names (root_in line)
  root-names-more = ap root_names roots-more ∙ map-append _ (roots_of before) (root_in line)

  pub boundaries-more : boundaries_of (before ++ (line ∷ [])) ≡ boundaries_of before ++ boundary_in line
  unfolding boundaries_of
  boundaries-more = concat_map-snoc boundary_in before line

  -- and so many more
  pub nodes-count : length (nodes_of (before ++ (line ∷ []))) ≡ length (nodes_of before) + length (node_in line)
  nodes-count = ap length nodes-more ∙ length-append (nodes_of before) (node_in line)

  pub roots-count : length (roots_of (before ++ (line ∷ []))) ≡ length (roots_of before) + length (root_in line)
  roots-count = ap length roots-more ∙ length-append (roots_of before) (root_in line)

  pub boundaries-count : length (boundaries_of (before ++ (line ∷ [])))
      ≡ length (boundaries_of before) + length (boundary_in line)
  boundaries-count = ap length boundaries-more ∙ length-append (boundaries_of before) (boundary_in line)

-- a line is of one node at most
pub nodes-few : (lines : List BookLine) → length (nodes_of lines) ≤ length lines
unfolding node_line_in
nodes-few [] = rw none-says.nodes-said (omega arith)
nodes-few (line ∷ lines) =
    rw (nodes-parts (line ∷ []) lines, (line-says line).nodes-said, length-append)
    (omega (arith, one_at_most line, nodes-few lines))
  where
    one_at_most : (line : BookLine) → length (node_in line) ≤ 1
    one_at_most (H half states phones classes nodes) = omega arith
    one_at_most (Q class phone) = omega arith
    one_at_most (N node class position yes_node no_node) = omega arith
    one_at_most (L node model) = omega arith
    one_at_most (B boundary plain) = omega arith
    one_at_most (R phone state root) = omega arith
