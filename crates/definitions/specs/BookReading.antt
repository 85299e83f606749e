-- Document 01, "Tree book", with the B lines of document 02, P2: the order and the counts that the lines of a
-- book must keep, and reading a book.
use Rattle.std.specs.Prelude.{if◌then◌else◌, List, [], ◌∷◌, ◌++◌, Bool, true, not, ◌&&◌, ◌||◌, ℕ, suc, ◌+◌, ◌-◌, ◌*◌, ◌/◌, ◌%◌, leb, ltb, eqb, length}
use Rattle.definitions.specs.Lists.{Distinct, at_least_one, select, last_passes, concat_map, up_from}
use Rattle.definitions.specs.Lists.{occurrences, every}
use Rattle.definitions.specs.declared.Header.{Header}
use Rattle.definitions.specs.declared.Fault.TheVariants.{Backward, Orphan, Narrow, Chained}
use Rattle.definitions.specs.Faults.{Outcome, answered, refuse, Test, ◌unless◌, judge}
use Rattle.definitions.specs.Forms.{book_forms}
use Rattle.definitions.specs.Reading.{Kind, read_text}
use Rattle.definitions.specs.BookLines.{BookLine, H, Q, N, L, R, book_line, header_in, header_of, root_count}
use Rattle.definitions.specs.BookLines.{Member, members_of, TreeNode, node_line_in, nodes_of, roots_of, children_of}
use Rattle.definitions.specs.BookLines.{next_place, root_names, B, root_place, Boundary, boundary_in, boundaries_of}
use Rattle.definitions.specs.BookLines.{is_boundary}

-- 14 for the letter. "Order: one H; Q lines ..; one N or L per node ..; one R for every phone and state"; B
-- lines stand "between the node lines and the R lines"
unfoldable pub book_follows : (before : List BookLine) → BookLine → Bool
book_follows before (H _ _ _ _ _) = eqb (length before) 0
book_follows before (Q _ _) = ltb 0 (length before) && eqb (length (nodes_of before)) 0
book_follows before (N _ _ _ _ _) = ltb (length (nodes_of before)) (header_of before).nodes
book_follows before (L _ _) = ltb (length (nodes_of before)) (header_of before).nodes
book_follows before (B _ _) =
    ltb 0 (length before) && eqb (length (nodes_of before)) (header_of before).nodes
    && eqb (length (roots_of before)) 0
book_follows before (R _ _ _) = ltb 0 (length before) && eqb (length (nodes_of before)) (header_of before).nodes

-- 13, "the header's counts". What is lowest is fixed, and stands in the table of each letter.
unfoldable pub within_header : Header → BookLine → Bool
within_header header (H _ _ _ _ _) = true
within_header header (Q class phone) = leb class header.classes && leb phone header.phones
within_header header (N node class position yes_node no_node) =
    ltb node header.nodes && leb class header.classes && leb position (2 * header.half)
    && ltb yes_node header.nodes && ltb no_node header.nodes
within_header header (L node model) = ltb node header.nodes
within_header header (B boundary plain) = leb boundary header.phones && leb plain header.phones
within_header header (R phone state root) =
    leb phone header.phones && leb state header.states && ltb root header.nodes

-- "strictly ascending by (class, phone)"
unfoldable pub comes_before : Member → Member → Bool
comes_before a b = ltb a.class b.class || (eqb a.class b.class && ltb a.phone b.phone)

-- "Its R lines may be left out all together": from one place up to another stand whole phones, all of which pass
-- a test
unfoldable pub left_out : (is_left : ℕ → Bool) → (states from to : ℕ) → Bool
left_out is_left states from to =
    eqb from to
    || (ltb from to && eqb (from % states) 0 && eqb (to % states) 0
    && every is_left (up_from (from / states + 1) (to / states - from / states)))

-- after lines: whether the R lines may be left out from the place after the last one up to another
unfoldable pub left_out_to : List BookLine → (place : ℕ) → Bool
left_out_to lines place =
    let states : ℕ = (header_of lines).states in
    left_out (is_boundary (boundaries_of lines)) states (next_place states (roots_of lines)) place

-- 14 for the numbers. "Q lines strictly ascending by (class, phone); one N or L per node, ascending;
-- one R for every phone and state, ascending by (phone, state)"; B lines "strictly ascending by the first"
unfoldable pub book_in_order : (before : List BookLine) → BookLine → Bool
book_in_order before (H _ _ _ _ _) = true
book_in_order before (Q class phone) =
    last_passes (λ m. comes_before m (record { class = class; phone = phone })) (members_of before)
book_in_order before (N node _ _ _ _) = eqb node (length (nodes_of before))
book_in_order before (L node _) = eqb node (length (nodes_of before))
book_in_order before (B boundary _) = last_passes (λ b. ltb b.phone boundary) (boundaries_of before)
book_in_order before (R phone state _) = left_out_to before (root_place (header_of before).states phone state)

-- not 15. "A child's number is greater than its node's."
unfoldable pub children_greater : BookLine → Bool
children_greater (H _ _ _ _ _) = true
children_greater (Q _ _) = true
children_greater (N node class position yes_node no_node) = ltb node yes_node && ltb node no_node
children_greater (L _ _) = true
children_greater (B _ _) = true
children_greater (R _ _ _) = true

-- the lengths of the lent tables, in words
pub record Lent : Type 0 where
  pub nodes : ℕ
  pub classes : ℕ
  pub roots : ℕ
  pub plains : ℕ

-- "for each node five 32-bit words"
abbrev pub node_size : ℕ
node_size = 5

-- not 20, "a table too short for the header"
unfoldable pub wide_enough : Lent → Header → Bool
wide_enough lent header =
    leb (node_size * header.nodes) lent.nodes && leb header.classes lent.classes
    && leb (root_count header) lent.roots && leb header.phones lent.plains

-- "15, with 20 at line 1 after its ranges": a line other than H has no header, which fits every table
unfoldable pub book_tests : Lent → BookLine → List Test
book_tests lent line =
    Backward unless children_greater line
    ∷ Narrow unless wide_enough lent (header_in line)
    ∷ []

-- 17, going on: "lines go on only after the last phone's last R line"
unfoldable pub book_full : List BookLine → Bool
book_full lines =
    ltb 0 (length lines)
    && eqb (next_place (header_of lines).states (roots_of lines)) (root_count (header_of lines))

-- not 17, ending early: "one R for every phone and state" but for what is left out
unfoldable pub book_enough : List BookLine → Bool
book_enough lines = ltb 0 (length lines) && left_out_to lines (root_count (header_of lines))

-- the nodes that are not "named exactly once, as a child or as a root", ascending
unfoldable pub orphans : List TreeNode → (roots : List ℕ) → List ℕ
orphans nodes roots =
    let named : List ℕ = concat_map children_of nodes ++ roots in
    select (λ node. not (eqb (occurrences node named) 1)) (up_from 0 (length nodes))

-- no node is a child twice
abbrev pub ChildOnce : List TreeNode → Type 0
ChildOnce nodes = Distinct (concat_map children_of nodes)

-- whether a line is a node's N or L line
unfoldable pub is_line_of : (node : ℕ) → BookLine → Bool
is_line_of node line = at_least_one (λ l. eqb node l.number) (node_line_in line)

-- the number of the first line that passes a test, where the first of these lines has number `at`; after the
-- last line where none does
unfoldable pub line_where : (test : BookLine → Bool) → (at : ℕ) → List BookLine → ℕ
line_where test at [] = at
line_where test at (line ∷ lines) = if test line then at else line_where test (suc at) lines

-- "then 16 at the lowest such node's line"
unfoldable pub judge_names : List BookLine → Outcome (List BookLine)
judge_names lines =
    elim (orphans (nodes_of lines) (root_names (roots_of lines))) [
      | [] ↦ answered lines
      | node ∷ others ↦ refuse Orphan (line_where (is_line_of node) 1 lines)
    ]

-- not 21: no plain phone is a boundary phone
unfoldable pub plains_plain : List Boundary → Bool
plains_plain boundaries = every (λ b. not (is_boundary boundaries b.plain)) boundaries

-- whether a line is a B line whose plain phone is a boundary phone
unfoldable pub is_chained : List Boundary → BookLine → Bool
is_chained boundaries line = at_least_one (λ b. is_boundary boundaries b.plain) (boundary_in line)

-- "it is judged after 17 and before 16, at the lowest such B line"
unfoldable pub judge_book : List BookLine → Outcome (List BookLine)
judge_book lines =
    let boundaries : List Boundary = boundaries_of lines in
    judge (line_where (is_chained boundaries) 1 lines) (Chained unless plains_plain boundaries ∷ [])
    (judge_names lines)

unfoldable pub book_kind : Lent → Kind BookLine
book_kind lent =
    record {
      forms = book_forms;
      view = book_line;
      follows = book_follows;
      within_counts = λ before line. within_header (header_of before) line;
      in_order = book_in_order;
      further_tests = λ before line. book_tests lent line;
      full = book_full;
      enough = book_enough;
      after_last = judge_book;
    }

-- Reading a text as a tree book, into lent tables of these lengths: the book's lines, or the refusal.
unfoldable pub read_book : Lent → (text : List ℕ) → Outcome (List BookLine)
read_book lent text = read_text (book_kind lent) text
