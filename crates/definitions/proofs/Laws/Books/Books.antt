-- Laws about accepted books: the header's ranges and counts, and the book read back out of the tables.
-- Each is kept by every line that passes its tests, so it holds of all lines.
use Rattle.std.specs.Prelude.{◌≡◌, Bool, true, ◌&&◌, ℕ, suc, ◌+◌, ◌*◌, ◌/◌, ◌≤◌, ◌<◌, T, leb, ltb, eqb, length}
use Rattle.std.proofs.Math.Path.{refl, subst}
use Rattle.std.proofs.Common.{sym, ap, ◌∙◌, mul-pos, mul-le-mul, div-lt_iff_lt-mul, arith, leb→le, ltb→lt, eqb→eq, lit<, length-append, ⊎_elim, leb-true, leb-false}
use mathlib.Core.List.{List, [], ◌∷◌, ◌++◌}
use Rattle.definitions.specs.Ranges.{InRange}
use Rattle.definitions.specs.declared.Fault.TheVariants.{Orphan}
use Rattle.definitions.specs.declared.Header.{Header}
use Rattle.definitions.specs.Faults.{Outcome, answered}
use Rattle.definitions.specs.Lines.{Line}
use Rattle.definitions.specs.Reading.{line_tests}
use Rattle.definitions.specs.BookLines.{BookLine, H, Q, N, L, R, book_line, header_in, header_of, root_count}
use Rattle.definitions.specs.BookLines.{member_in, members_of, nodes_of, node_in, node_line_in, roots_of, root_in}
use Rattle.definitions.specs.BookLines.{root_names, B, next_place, boundary_in, boundaries_of, Boundary, Root}
use Rattle.definitions.specs.BookLines.{is_boundary, root_words, plain_words}
use Rattle.definitions.specs.BookReading.{Lent, node_size, book_kind, book_follows, within_header, book_in_order}
use Rattle.definitions.specs.BookReading.{children_greater, wide_enough, book_tests, orphans, judge_names, read_book}
use Rattle.definitions.specs.BookReading.{book_enough, left_out, left_out_to, plains_plain, judge_book}
use Rattle.definitions.specs.Tables.{book_of, class_sets, tables_left, tables_book, book_in, contents_of}
use Rattle.definitions.specs.Tables.{tables_contents}
use Rattle.definitions.specs.Lists.{every, at_least_one}
use Rattle.definitions.proofs.Laws.Lists.Tests.{T_and, T-three, by-test}
use Rattle.definitions.proofs.Laws.Lists.Lists.{map-up_from-length}
use Rattle.definitions.proofs.Laws.Text.Judging.{test_at, passes_at, refused-not-answered, judge-answered}
use Rattle.definitions.proofs.Laws.Text.Reading.{Passed, text-holds, text-many}
use Rattle.definitions.proofs.Laws.Text.Ranges.{Ranged, line-ranged}
use Rattle.definitions.proofs.Laws.Books.Tables.{Heads, tables-contents}
use Rattle.definitions.proofs.Laws.Books.SaidLines.{line-says, members-more, nodes-count, roots-count}
use Rattle.definitions.proofs.Laws.Books.SaidLines.{boundaries-count}
use Rattle.definitions.proofs.Laws.Books.LeftOut.{Gap, left_out_lem, whole-place}

-- what a line that passed its tests says
pub record Fits (lent : Lent) (before : List BookLine) (line : BookLine) : Type 0 where
  pub follows : T (book_follows before line)
  pub ranged : Ranged line
  pub within : T (within_header (header_of before) line)
  pub in_order : T (book_in_order before line)
  pub greater : T (children_greater line)
  pub wide : T (wide_enough lent (header_in line))

pub line-fits : (lent : Lent) (before : List BookLine) (bytes : List ℕ) (line : Line)
    → Passed (book_kind lent) before bytes line → Fits lent before (book_line line)
unfolding book_kind line_tests book_tests
line-fits lent before bytes line p =
    let passed : (i : ℕ) → i < 6 → T (test_at (line_tests (book_kind lent) before line) i).passes =
    passes_at (line_tests (book_kind lent) before line) p.tested in
    record {
      follows = passed 0 (lit< tt);
      ranged = line-ranged line (passed 1 (lit< tt));
      within = passed 2 (lit< tt);
      in_order = passed 3 (lit< tt);
      greater = passed 4 (lit< tt);
      wide = passed 5 (lit< tt);
    }

-- the judgement of names keeps the lines
pub names-judged : (lines answer : List BookLine) → judge_names lines ≡ answered answer
    → (lines ≡ answer) × (orphans (nodes_of lines) (root_names (roots_of lines)) ≡ [])
unfolding judge_names
names-judged lines answer e = none (orphans (nodes_of lines) (root_names (roots_of lines))) refl
  where
    none : (l : List ℕ) → orphans (nodes_of lines) (root_names (roots_of lines)) ≡ l
        → (lines ≡ answer) × (orphans (nodes_of lines) (root_names (roots_of lines)) ≡ [])
    none [] q =
        let same : ◌≡◌ {A = Outcome (List BookLine)} (answered lines) (answered answer) =
        rw (q, judge_names) at e in
        (cc, q)
    none (node ∷ others) q = absurd (refused-not-answered _ Orphan _ answer refl (rw (q, judge_names) at e))

-- the last judgement keeps them too, and says that no plain phone is a boundary phone
book-judged : (lines answer : List BookLine) → judge_book lines ≡ answered answer
    → T (plains_plain (boundaries_of lines)) × (judge_names lines ≡ answered answer)
unfolding judge_book every
book-judged lines answer e =
    let (passed, named) = judge-answered _ _ (judge_names lines) answer e in
    (((T_and (plains_plain (boundaries_of lines)) true).0 passed).0, named)

-- all lines of an accepted book: what each of them keeps, and what is judged at the end
pub record Whole (P : List BookLine → Type 0) (lines : List BookLine) : Type 0 where
  pub holds : P lines
  pub complete : T (book_enough lines)
  pub plain : T (plains_plain (boundaries_of lines))
  pub named-once : orphans (nodes_of lines) (root_names (roots_of lines)) ≡ []

-- a line other than H is never the first
pub node-started : (before : List BookLine) → T (ltb (length (nodes_of before)) (header_of before).nodes)
    → 0 < length before
unfolding header_of
node-started [] t = absurd (omega (arith, ltb→lt (length (nodes_of [])) 0 t))
node-started (first ∷ before) t = omega arith

pub test-started : (before : List BookLine) (b : Bool) → T (ltb 0 (length before) && b) → 0 < length before
test-started before b t = ltb→lt 0 (length before) ((T_and (ltb 0 (length before)) b).0 t).0

-- before the first line nothing is said
abbrev AfterFirst : (List BookLine → Type 0) → List BookLine → Type 0
AfterFirst P [] = Unit {0}
AfterFirst P (first ∷ lines) = P (first ∷ lines)

-- what holds of an H line alone, and is kept by each further line that fits, holds of all lines of a book
module _ (lent : Lent) (P : List BookLine → Type 0)
    (alone : (half states phones classes nodes : ℕ) → Fits lent [] (H half states phones classes nodes)
    → P (H half states phones classes nodes ∷ []))
    (more : (before : List BookLine) (line : BookLine) → header_of (before ++ (line ∷ [])) ≡ header_of before
    → P before → Fits lent before line → P (before ++ (line ∷ [])))
  where
    keep : (before : List BookLine) (line : BookLine) → AfterFirst P before → Fits lent before line
        → AfterFirst P (before ++ (line ∷ []))
    unfolding header_of book_follows
    keep [] (H half states phones classes nodes) p f = alone half states phones classes nodes f
    keep [] (Q class phone) p f = absurd f.follows
    keep [] (N node class position yes_node no_node) p f = absurd (omega (arith, node-started [] f.follows))
    keep [] (L node model) p f = absurd (omega (arith, node-started [] f.follows))
    keep [] (B boundary plain) p f = absurd f.follows
    keep [] (R phone state root) p f = absurd f.follows
    keep (first ∷ before) line p f = more (first ∷ before) line refl p f

    pub accepted-holds : (text : List ℕ) (lines : List BookLine) → read_book lent text ≡ answered lines
        → Whole P lines
    unfolding read_book book_kind book_enough
    accepted-holds text lines e =
        let a = text-holds (book_kind lent) (AfterFirst P) passed text lines tt e in
        let (plain, judged) = book-judged a.lines lines a.judged in
        let (same, named) = names-judged a.lines lines judged in
        subst (Whole P) same (record {
          holds = all a.lines a.holds a.enough;
          complete = a.enough;
          plain = plain;
          named-once = named;
        })
      where
        passed : (before : List BookLine) (bytes : List ℕ) (line : Line) → AfterFirst P before
            → Passed (book_kind lent) before bytes line → AfterFirst P (before ++ (book_line line ∷ []))
        passed before bytes line p h = keep before (book_line line) p (line-fits lent before bytes line h)

        all : (lines : List BookLine) → AfterFirst P lines → T (book_enough lines) → P lines
        all [] p t = absurd t
        all (first ∷ lines) p t = p

-- The lines of an accepted book.
pub record Orderly (lines : List BookLine) : Type 0 where
  pub in-range : InRange (header_of lines)
  pub nodes : length (nodes_of lines) ≡ (header_of lines).nodes
  pub enough : T (left_out_to lines (root_count (header_of lines)))
  pub plain : T (plains_plain (boundaries_of lines))
  pub named-once : orphans (nodes_of lines) (root_names (roots_of lines)) ≡ []

-- there is at least one phone and one state, so at least one root
pub some-root : (header : Header) → InRange header → 0 < root_count header
unfolding root_count
some-root header r = mul-pos r.phones_range.low r.states_range.low

-- 64 phones of 3 states at most
pub roots_few : (header : Header) → InRange header → root_count header ≤ 192
unfolding root_count
roots_few header r = mul-le-mul r.phones_range.high r.states_range.high

-- tables that are wide enough for a header
pub record Roomy (lent : Lent) (header : Header) : Type 0 where
  pub nodes : node_size * header.nodes ≤ lent.nodes
  pub classes : header.classes ≤ lent.classes
  pub roots : root_count header ≤ lent.roots
  pub plains : header.phones ≤ lent.plains

pub roomy : (lent : Lent) (header : Header) → T (wide_enough lent header) → Roomy lent header
unfolding wide_enough
roomy lent header h =
    let first : Bool = leb (node_size * header.nodes) lent.nodes && leb header.classes lent.classes in
    let (before, roots, plains) =
    (T-three first (leb (root_count header) lent.roots) (leb header.phones lent.plains)).0 h in
    let (nodes, classes) =
    (T_and (leb (node_size * header.nodes) lent.nodes) (leb header.classes lent.classes)).0 before in
    record {
      nodes = leb→le _ _ nodes;
      classes = leb→le _ _ classes;
      roots = leb→le _ _ roots;
      plains = leb→le _ _ plains;
    }

-- how many boundary phones and roots lines give
abbrev further : List BookLine → ℕ
further lines = length (boundaries_of lines) + length (roots_of lines)

-- the header is in range, and after the first boundary phone or root all nodes are there
record Counted (lines : List BookLine) : Type 0 where
  in-range : InRange (header_of lines)
  counted : 0 < further lines → length (nodes_of lines) ≡ (header_of lines).nodes

-- no boundary phone and no root stands before the last node
count-more : (before : List BookLine) (line : BookLine) → Counted before → T (book_follows before line)
    → 0 < further before + (length (boundary_in line) + length (root_in line))
    → length (nodes_of before) + length (node_in line) ≡ (header_of before).nodes
unfolding book_follows header_of boundary_in root_in node_line_in
count-more [] (H half states phones classes nodes) c f h = absurd (omega (arith, c.in-range.nodes_range.low))
count-more (first ∷ before) (H half states phones classes nodes) c f h =
    absurd (omega (arith, eqb→eq (suc (length before)) 0 f))
count-more before (Q class phone) c f h = omega (arith, c.counted (omega arith))
count-more before (N node class position yes_node no_node) c f h =
    let fewer : length (nodes_of before) < (header_of before).nodes = ltb→lt _ _ f in
    absurd (omega (arith, c.counted (omega arith)))
count-more before (L node model) c f h =
    let fewer : length (nodes_of before) < (header_of before).nodes = ltb→lt _ _ f in
    absurd (omega (arith, c.counted (omega arith)))
count-more before (B boundary plain) c f h =
    let parts = (T-three (ltb 0 (length before)) (eqb (length (nodes_of before)) (header_of before).nodes)
    (eqb (length (roots_of before)) 0)).0 f in
    let full : length (nodes_of before) ≡ (header_of before).nodes = eqb→eq _ _ parts.1 in omega arith
count-more before (R phone state root) c f h =
    let parts = (T_and (ltb 0 (length before)) (eqb (length (nodes_of before)) (header_of before).nodes)).0 f in
    let full : length (nodes_of before) ≡ (header_of before).nodes = eqb→eq _ _ parts.1 in omega arith

further-count : (before : List BookLine) (line : BookLine)
    → further (before ++ (line ∷ [])) ≡ further before + (length (boundary_in line) + length (root_in line))
further-count before line = omega (arith, boundaries-count before line, roots-count before line)

accepted-counted : (lent : Lent) (text : List ℕ) (lines : List BookLine) → read_book lent text ≡ answered lines
    → Whole Counted lines
unfolding header_of header_in boundary_in root_in
accepted-counted lent = accepted-holds lent Counted alone more
  where
    alone : (half states phones classes nodes : ℕ) → Fits lent [] (H half states phones classes nodes)
        → Counted (H half states phones classes nodes ∷ [])
    alone half states phones classes nodes f =
        let says = line-says (H half states phones classes nodes) in
        record {
          in-range = f.ranged;
          counted = λ h.
              absurd (omega (arith, ap length says.boundaries-said, ap length says.roots-said));
        }

    more : (before : List BookLine) (line : BookLine) → header_of (before ++ (line ∷ [])) ≡ header_of before
        → Counted before → Fits lent before line → Counted (before ++ (line ∷ []))
    more before line e c f = record {
      in-range = rw e c.in-range;
      counted = λ z.
          nodes-count before line
          ∙ count-more before line c f.follows
          (subst (λ n. 0 < n) (further-count before line) z)
          ∙ ap (λ (header : Header). header.nodes) (sym e);
    }

-- nothing is left out without a boundary phone
left-out-none : (states to : ℕ) → 1 ≤ states → 0 < to → T (left_out (is_boundary []) states 0 to) → ⊥
unfolding is_boundary at_least_one
left-out-none states to low some t = ⊎_elim (λ e. omega (arith, e, some)) gap (left_out_lem states (is_boundary []) 0 to t)
  where
    gap : Gap states (is_boundary []) 0 to → ⊥
    gap g = g.between 1 first last
      where
        first : 0 / states < 1
        first = (div-lt_iff_lt-mul low).1 (omega (arith, low))

        last : 1 ≤ to / states
        last = by-test (leb 1 (to / states)) (λ e. leb-true 1 (to / states) e) (λ e.
            let none : to / states ≡ 0 = omega (arith, leb-false 1 (to / states) e) in
            absurd (omega (arith, some, whole-place states to g.to_whole, ap (λ (n : ℕ). n * states) none)))

-- so there is a boundary phone or a root
some-further : (lines : List BookLine) → InRange (header_of lines)
    → T (left_out_to lines (root_count (header_of lines))) → 0 < further lines
unfolding left_out_to next_place
some-further lines range t = go (boundaries_of lines) (roots_of lines) t
  where
    states : ℕ
    states = (header_of lines).states

    go : (boundaries : List Boundary) (roots : List Root)
        → T (left_out (is_boundary boundaries) states (next_place states roots) (root_count (header_of lines)))
        → 0 < length boundaries + length roots
    go [] [] t =
        absurd (left-out-none states (root_count (header_of lines)) range.states_range.low
        (some-root (header_of lines) range) t)
    go [] (r ∷ roots) t = omega arith
    go (b ∷ boundaries) roots t = omega arith

pub accepted-orderly : (lent : Lent) (text : List ℕ) (lines : List BookLine)
    → read_book lent text ≡ answered lines → Orderly lines
unfolding book_enough
accepted-orderly lent text lines e =
    let a = accepted-counted lent text lines e in
    let range = a.holds.in-range in
    let last : Bool = left_out_to lines (root_count (header_of lines)) in
    let enough = ((T_and (ltb 0 (length lines)) last).0 a.complete).1 in
    record {
      in-range = range;
      nodes = a.holds.counted (some-further lines range enough);
      enough = enough;
      plain = a.plain;
      named-once = a.named-once;
    }

-- ---- its lines

-- a line other than H says one thing
says-one : (before : List BookLine) (line : BookLine) → 0 < length before → T (book_follows before line)
    → length (member_in line) + length (node_in line) + length (boundary_in line) + length (root_in line) ≡ 1
unfolding book_follows member_in node_line_in boundary_in root_in
says-one before (H half states phones classes nodes) some f = absurd (omega (arith, eqb→eq (length before) 0 f))
says-one before (Q class phone) some f = refl
says-one before (N node class position yes_node no_node) some f = refl
says-one before (L node model) some f = refl
says-one before (B boundary plain) some f = refl
says-one before (R phone state root) some f = refl

-- so there is one for the header, and one for each member, node, boundary phone and root
abbrev LinesMany : List BookLine → Type 0
LinesMany lines =
    length lines
    ≡ 1 + length (members_of lines) + length (nodes_of lines) + length (boundaries_of lines) + length (roots_of lines)

pub accepted-lines : (lent : Lent) (text : List ℕ) (lines : List BookLine) → read_book lent text ≡ answered lines
    → LinesMany lines
unfolding member_in node_line_in boundary_in root_in
accepted-lines lent text lines e = (accepted-holds lent LinesMany alone more text lines e).holds
  where
    alone : (half states phones classes nodes : ℕ) → Fits lent [] (H half states phones classes nodes)
        → LinesMany (H half states phones classes nodes ∷ [])
    alone half states phones classes nodes f =
        let line : BookLine = H half states phones classes nodes in
        let says = line-says line in
        rw (says.members-said, says.nodes-said, says.boundaries-said, says.roots-said) refl

    more : (before : List BookLine) (line : BookLine) → header_of (before ++ (line ∷ [])) ≡ header_of before
        → LinesMany before → Fits lent before line → LinesMany (before ++ (line ∷ []))
    more before line e many f =
        let one = says-one before line (omega (arith, many)) f.follows in
        let members = ap length (members-more before line) ∙ length-append (members_of before) (member_in line) in
        omega (
          arith,
          many,
          one,
          members,
          boundaries-count before line,
          nodes-count before line,
          roots-count before line,
          length-append before (line ∷ []),
        )

-- of 32 bytes each
pub accepted-length : (lent : Lent) (text : List ℕ) (lines : List BookLine) → read_book lent text ≡ answered lines
    → length text ≡ 32 * length lines
unfolding read_book book_kind
accepted-length lent text lines e =
    let (read, many, judged) = text-many (book_kind lent) text lines e in
    many ∙ ap (λ (l : List BookLine). 32 * length l)
    (names-judged read lines (book-judged read lines judged).1).0

-- ---- its contents

-- its header states the counts of its contents, so the tables hold those, and so its book
pub orderly-heads : (lines : List BookLine) → Orderly lines → Heads (header_of lines) (contents_of lines)
unfolding contents_of class_sets root_words plain_words
orderly-heads lines o = record {
  half = refl;
  states = refl;
  phones = refl;
  nodes = sym o.nodes;
  classes = sym (map-up_from-length _ 1 (header_of lines).classes);
  roots = sym (map-up_from-length _ 0 (root_count (header_of lines)));
  plains = sym (map-up_from-length _ 1 (header_of lines).phones);
}

pub accepted-contents : (lent : Lent) (text : List ℕ) (lines : List BookLine)
    → read_book lent text ≡ answered lines
    → tables_contents (header_of lines) (tables_left lent (read_book lent text)) ≡ contents_of lines
unfolding tables_left
accepted-contents lent text lines e =
    let heads = orderly-heads lines (accepted-orderly lent text lines e) in
    rw e (tables-contents (header_of lines) lent (contents_of lines) heads)

pub accepted-book : (lent : Lent) (text : List ℕ) (lines : List BookLine) → read_book lent text ≡ answered lines
    → tables_book (header_of lines) (tables_left lent (read_book lent text)) ≡ book_of lines
unfolding tables_book book_of
accepted-book lent text lines e = ap book_in (accepted-contents lent text lines e)
