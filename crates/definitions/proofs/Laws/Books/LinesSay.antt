-- Laws about what the lines of a written book say: the members, nodes, boundary phones and roots that
-- were written, no others.
-- The laws about the texts of books use them, of all lines and of those before a line.
use Rattle.std.specs.Prelude.{◌≡◌, refl, List, [], ◌∷◌, ◌++◌, map, ℕ, suc, ◌+◌, ◌<◌, length}
use Rattle.std.proofs.Common.{ap, ◌∙◌, append-nil, arith, length-append}
use Rattle.definitions.specs.declared.Header.{Header}
use Rattle.definitions.specs.BookLines.{BookLine, N, L, header_in, header_of, Member, member_in, members_of}
use Rattle.definitions.specs.BookLines.{TreeNode, question, leaf, node_line_in, nodes_of, root_in, roots_of, Root}
use Rattle.definitions.specs.BookLines.{Boundary, boundary_in, boundaries_of}
use Rattle.definitions.specs.BookText.{lines_of_nodes, line_of_header, line_of_member, lines_stating, line_of_boundary}
use Rattle.definitions.specs.BookText.{line_of_root}
use Rattle.definitions.proofs.Laws.Books.SaidLines.{Says, none-says, line-says, says-parts, header-parts}

-- ---- what lines say

pub members-say : (members : List Member) → Says (map line_of_member members) members [] [] []
unfolding member_in node_line_in boundary_in root_in
members-say [] = none-says
members-say (m ∷ members) = says-parts (line-says (line_of_member m)) (members-say members)

pub nodes-say : (at : ℕ) (nodes : List TreeNode) → Says (lines_of_nodes at nodes) [] nodes [] []
unfolding lines_of_nodes member_in node_line_in boundary_in root_in
nodes-say at [] = none-says
nodes-say at (question asked yes_node no_node ∷ nodes) =
    says-parts (line-says (N at asked.class asked.position yes_node no_node)) (nodes-say (suc at) nodes)
nodes-say at (leaf model ∷ nodes) = says-parts (line-says (L at model)) (nodes-say (suc at) nodes)

pub boundaries-say : (boundaries : List Boundary) → Says (map line_of_boundary boundaries) [] [] boundaries []
unfolding member_in node_line_in boundary_in root_in
boundaries-say [] = none-says
boundaries-say (b ∷ boundaries) = says-parts (line-says (line_of_boundary b)) (boundaries-say boundaries)

pub roots-say : (roots : List Root) → Says (map line_of_root roots) [] [] [] roots
unfolding member_in node_line_in boundary_in root_in
roots-say [] = none-says
roots-say (r ∷ roots) = says-parts (line-says (line_of_root r)) (roots-say roots)

pub lines-say : (header : Header) (members : List Member) (nodes : List TreeNode) (boundaries : List Boundary)
    (roots : List Root)
    → Says (lines_stating header members nodes boundaries roots) members nodes boundaries roots
unfolding member_in node_line_in boundary_in root_in
lines-say header members nodes boundaries roots =
    let others = says-parts (members-say members) (nodes-say 0 nodes) in
    let after = says-parts (says-parts others (boundaries-say boundaries)) (roots-say roots) in
    simp append-nil at (says-parts (line-says (line_of_header header)) after)

-- ---- what stands before a line

-- the header's line and others, which say these members, so many nodes, these boundary phones and roots
pub record Before (header : Header) (before : List BookLine) (members : List Member) (nodes : ℕ)
    (boundaries : List Boundary) (roots : List Root) : Type 0 where
  pub some-line : 0 < length before
  pub header_is : header_of before ≡ header
  pub members-are : members_of before ≡ members
  pub nodes-many : length (nodes_of before) ≡ nodes
  pub boundaries-are : boundaries_of before ≡ boundaries
  pub roots-are : roots_of before ≡ roots

pub before-others : (header : Header) → Before header (line_of_header header ∷ []) [] 0 [] []
unfolding header_of header_in member_in node_line_in boundary_in root_in
before-others header =
    let says = line-says (line_of_header header) in
    record {
      some-line = omega arith;
      header_is = refl;
      members-are = says.members-said;
      nodes-many = ap length says.nodes-said;
      boundaries-are = says.boundaries-said;
      roots-are = says.roots-said;
    }

pub before_more : {header : Header} {before lines : List BookLine} {members others : List Member}
    {nodes : ℕ} {more : List TreeNode} {edges beyond : List Boundary} {roots further : List Root}
    → Before header before members nodes edges roots → Says lines others more beyond further
    → Before header (before ++ lines) (members ++ others) (nodes + length more) (edges ++ beyond)
    (roots ++ further)
before_more {before = before} {lines = lines} b s =
    let own : Says before (members_of before) (nodes_of before) (boundaries_of before) (roots_of before) =
    record { members-said = refl; nodes-said = refl; boundaries-said = refl; roots-said = refl } in
    let all = says-parts own s in
    record {
      some-line = rw length-append (omega (arith, b.some-line));
      header_is = header-parts before lines b.some-line ∙ b.header_is;
      members-are = all.members-said ∙ rw b.members-are;
      nodes-many = ap length all.nodes-said ∙ rw (length-append, b.nodes-many);
      boundaries-are = all.boundaries-said ∙ rw b.boundaries-are;
      roots-are = all.roots-said ∙ rw b.roots-are;
    }
