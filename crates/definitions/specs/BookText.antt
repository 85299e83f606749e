-- Document 02, P1 with P2's B lines: a writer of tree books. The lines that state a header with nodes, sets, boundary
-- phones and roots, and their text. The plain form is written by it; and since what is written so is read again
-- (proofs/Laws/Books/BookTexts.antt), 18 refuses nothing else than what reading never leaves.
use Rattle.std.specs.Prelude.{if◌then◌else◌, List, [], ◌∷◌, ◌++◌, map, ℕ, suc, ◌+◌, ◌/◌, ◌%◌, eqb}
use Prim.Native.Char.{code}
use Rattle.definitions.specs.declared.Header.{Header}
use Rattle.definitions.specs.Lists.{select, concat_map, up_from}
use Rattle.definitions.specs.Lines.{Line, line_text}
use Rattle.definitions.specs.PhoneSets.{has}
use Rattle.definitions.specs.BookLines.{BookLine, H, Q, N, L, B, R, Member, TreeNode, question, leaf}
use Rattle.definitions.specs.BookLines.{Boundary, Root, no_root}
use Rattle.definitions.specs.Tables.{Contents}

abbrev pub member_of : (class phone : ℕ) → Member
member_of class phone = record { class = class; phone = phone }

-- the phones of a set, ascending
abbrev pub phones_in : (phones set : ℕ) → List ℕ
phones_in phones set = select (λ p. has p set) (up_from 1 phones)

-- the members of the classes `class`, class+1, .. with these sets
unfoldable pub members_from : (phones class : ℕ) → (sets : List ℕ) → List Member
members_from phones class [] = []
members_from phones class (set ∷ sets) =
    map (member_of class) (phones_in phones set) ++ members_from phones (suc class) sets

-- the lines of nodes `at`, at+1, ..
abbrev pub line_of_node : (at : ℕ) → TreeNode → BookLine
line_of_node at (question asked yes_node no_node) = N at asked.class asked.position yes_node no_node
line_of_node at (leaf model) = L at model

unfoldable pub lines_of_nodes : (at : ℕ) → List TreeNode → List BookLine
lines_of_nodes at [] = []
lines_of_nodes at (node ∷ nodes) = line_of_node at node ∷ lines_of_nodes (suc at) nodes

-- the boundary phones among `phone`, phone+1, .. with these words: a word of 0 names no plain phone
unfoldable pub boundaries_from : (phone : ℕ) → (plains : List ℕ) → List Boundary
boundaries_from phone [] = []
boundaries_from phone (plain ∷ plains) =
    if eqb plain 0
    then boundaries_from (suc phone) plains
    else record { phone = phone; plain = plain } ∷ boundaries_from (suc phone) plains

-- the roots at the places `at`, at+1, .. with these words, in R order: a word of 4096 is no root
unfoldable pub roots_listed : (states at : ℕ) → (words : List ℕ) → List Root
roots_listed states at [] = []
roots_listed states at (word ∷ words) =
    if eqb word no_root
    then roots_listed states (suc at) words
    else record { phone = at / states + 1; state = at % states + 1; node = word } ∷ roots_listed states (suc at) words

abbrev pub line_of_header : Header → BookLine
line_of_header header = H header.half header.states header.phones header.classes header.nodes

abbrev pub line_of_member : Member → BookLine
line_of_member m = Q m.class m.phone

abbrev pub line_of_boundary : Boundary → BookLine
line_of_boundary b = B b.phone b.plain

abbrev pub line_of_root : Root → BookLine
line_of_root r = R r.phone r.state r.node

-- the lines that state a header with members of classes, nodes, boundary phones and roots
abbrev pub lines_stating : Header → List Member → List TreeNode → List Boundary → List Root → List BookLine
lines_stating header members nodes boundaries roots =
    line_of_header header
    ∷ map line_of_member members ++ lines_of_nodes 0 nodes ++ map line_of_boundary boundaries ++ map line_of_root roots

-- all lines of a book with its header and contents
unfoldable pub lines_of_book : Header → Contents → List BookLine
lines_of_book header contents =
    lines_stating header (members_from header.phones 1 contents.classes) contents.nodes
    (boundaries_from 1 contents.plains) (roots_listed header.states 0 contents.roots)

-- the numbers of a line in its fields
unfoldable pub book_line_for : BookLine → Line
book_line_for (H half states phones classes nodes) =
    record { letter = code "H"; numbers = half ∷ states ∷ phones ∷ classes ∷ nodes ∷ [] }
book_line_for (Q class phone) = record { letter = code "Q"; numbers = class ∷ phone ∷ [] }
book_line_for (N node class position yes_node no_node) =
    record { letter = code "N"; numbers = node ∷ class ∷ position ∷ yes_node ∷ no_node ∷ [] }
book_line_for (L node model) = record { letter = code "L"; numbers = node ∷ model ∷ [] }
book_line_for (B boundary plain) = record { letter = code "B"; numbers = boundary ∷ plain ∷ [] }
book_line_for (R phone state root) = record { letter = code "R"; numbers = phone ∷ state ∷ root ∷ [] }

unfoldable pub text_of_book : Header → Contents → List ℕ
text_of_book header contents = concat_map (λ line. line_text (book_line_for line)) (lines_of_book header contents)
