-- Laws about the state: the tests that are put by it are those of documents 01 and 02 after the lines taken so
-- far, and after one more line it is again what is kept of the lines.
use Rattle.std.specs.Prelude.{◌≡◌, refl, Some, List, [], ◌∷◌, ◌++◌, map, not, ℕ, suc, ◌+◌, ◌<◌, T, leb, ltb, eqb, length}
use Rattle.std.proofs.Common.{sym, ap₂, ◌∙◌, append-nil, add-one, arith, ltb→lt, eqb→eq, length-append}
use Rattle.std.proofs.Math.Path.{ap}
use Rattle.std.proofs.lemmas.List.{map-append}
use Rattle.std.specs.Int.Bits.{bit_or}
use Rattle.std.proofs.Math.Dec.{leb-zero, eqb-suc-zero}
use Rattle.definitions.specs.Lists.{last_passes}
use Rattle.definitions.specs.Lines.{Line}
use Rattle.definitions.specs.PhoneSets.{has, alone, set_of}
use Rattle.definitions.specs.Reading.{line_tests}
use Rattle.definitions.specs.declared.Header.{Header}
use Rattle.definitions.specs.BookLines.{BookLine, H, Q, N, L, B, R, book_line, header_of, root_count, Member, members_of}
use Rattle.definitions.specs.BookLines.{member_in, nodes_of, node_in, node_line_in, Boundary, boundaries_of, boundary_in}
use Rattle.definitions.specs.BookLines.{is_boundary, Root, roots_of, root_in, root_place, next_place}
use Rattle.definitions.specs.BookReading.{Lent, book_kind, book_follows, comes_before, book_in_order, left_out_to, book_full}
use Rattle.definitions.specs.BookReading.{book_enough, plains_plain}
use Rattle.booklines.specs.declared.State.{State}
use Rattle.booklines.specs.States.{last_of, after_of, boundary_set, plain_set, state_of, follows_in, after_last_member}
use Rattle.booklines.specs.States.{left_out_in, in_order_in, tests_in, full_in, enough_in, chained_in, with_node}
use Rattle.booklines.specs.States.{with_boundary, with_root, next_state}
use Rattle.definitions.proofs.Laws.Lists.Tests.{T-three}
use Rattle.definitions.proofs.Laws.Books.SaidLines.{members-more, nodes-count, boundaries-more, roots-more}
use Rattle.definitions.proofs.Laws.Books.SaidLines.{header-parts, none-says, line-says}
use Rattle.definitions.proofs.Laws.Books.LeftOut.{next_more}
use Rattle.definitions.proofs.Laws.Books.Books.{node-started, test-started}
use Rattle.booklines.specs.Laws.Boundaries.{set_of-snoc, has-boundary, left-out-agrees, PlainsLow, sets-chained}

-- ---- the tests

-- the next place is 0 as long as there is no root
next-none : (states : ℕ) (roots : List Root) → eqb (next_place states roots) 0 ≡ eqb (length roots) 0
unfolding next_place
next-none states [] = refl
next-none states (r ∷ []) = eqb-suc-zero (root_place states r.phone r.state) ∙ sym (eqb-suc-zero 0)
next-none states (r ∷ s ∷ roots) =
    next-none states (s ∷ roots) ∙ eqb-suc-zero (length roots) ∙ sym (eqb-suc-zero (suc (length roots)))

follows-state : (before : List BookLine) (line : BookLine)
    → follows_in (state_of before) line ≡ book_follows before line
unfolding follows_in state_of book_follows
follows-state before (H half states phones classes nodes) = refl
follows-state before (Q class phone) = refl
follows-state before (N node class position yes_node no_node) = refl
follows-state before (L node model) = refl
follows-state before (B boundary plain) = rw (next-none (header_of before).states (roots_of before))
follows-state before (R phone state root) = refl

last-state : (members : List Member) (m : Member)
    → after_last_member (last_of members) m ≡ last_passes (λ l. comes_before l m) members
unfolding last_of after_last_member last_passes
last-state [] m = refl
last-state (a ∷ []) m = refl
last-state (a ∷ b ∷ members) m = last-state (b ∷ members) m

after-state : (boundaries : List Boundary) (boundary : ℕ)
    → leb (after_of boundaries) boundary ≡ last_passes (λ b. ltb b.phone boundary) boundaries
unfolding after_of last_passes
after-state [] boundary = leb-zero boundary
after-state (a ∷ []) boundary = refl
after-state (a ∷ b ∷ boundaries) boundary = after-state (b ∷ boundaries) boundary

left-out-state : (before : List BookLine) (place : ℕ) → left_out_in (state_of before) place ≡ left_out_to before place
unfolding left_out_in state_of left_out_to
left-out-state before place =
    left-out-agrees (λ p. has p (boundary_set (boundaries_of before))) (is_boundary (boundaries_of before))
    (has-boundary (boundaries_of before)) (header_of before).states _ place

order-state : (before : List BookLine) (line : BookLine)
    → in_order_in (state_of before) line ≡ book_in_order before line
unfolding in_order_in state_of book_in_order
order-state before (H half states phones classes nodes) = refl
order-state before (Q class phone) = last-state (members_of before) (record { class = class; phone = phone })
order-state before (N node class position yes_node no_node) = refl
order-state before (L node model) = refl
order-state before (B boundary plain) = after-state (boundaries_of before) boundary
order-state before (R phone state root) = left-out-state before (root_place (header_of before).states phone state)

pub tests-state : (lent : Lent) (before : List BookLine) (line : Line)
    → tests_in lent (state_of before) line (book_line line) ≡ line_tests (book_kind lent) before line
unfolding tests_in line_tests book_kind state_of
tests-state lent before line = rw (follows-state before (book_line line), order-state before (book_line line))

pub full-state : (before : List BookLine) → full_in (state_of before) ≡ book_full before
unfolding full_in state_of book_full
full-state before = refl

pub enough-state : (before : List BookLine) → enough_in (state_of before) ≡ book_enough before
unfolding enough_in state_of book_enough
enough-state before = rw (left-out-state before (root_count (header_of before)))

pub chained-state : (before : List BookLine) → PlainsLow (boundaries_of before)
    → chained_in (state_of before) ≡ not (plains_plain (boundaries_of before))
unfolding chained_in state_of
chained-state before low = ap not (sets-chained (boundaries_of before) low)

-- ---- the state after one more line

last_snoc : (members : List Member) (m : Member)
    → last_of (members ++ (m ∷ [])) ≡ Some (record { class = m.class; phone = m.phone })
unfolding last_of
last_snoc [] m = refl
last_snoc (a ∷ []) m = refl
last_snoc (a ∷ b ∷ members) m = last_snoc (b ∷ members) m

after-snoc : (boundaries : List Boundary) (b : Boundary) → after_of (boundaries ++ (b ∷ [])) ≡ suc b.phone
unfolding after_of
after-snoc [] b = refl
after-snoc (a ∷ []) b = refl
after-snoc (a ∷ c ∷ boundaries) b = after-snoc (c ∷ boundaries) b

set_snoc : (f : Boundary → ℕ) (boundaries : List Boundary) (b : Boundary)
    → bit_or (set_of (map f boundaries)) (alone (f b)) ≡ set_of (map f (boundaries ++ (b ∷ [])))
set_snoc f boundaries b =
    sym (ap set_of (map-append f boundaries (b ∷ [])) ∙ set_of-snoc (map f boundaries) (f b))

-- states with the same fields
record Same (s t : State) : Type 0 where
  lines : s.lines ≡ t.lines
  header : s.header ≡ t.header
  last : s.last ≡ t.last
  nodes : s.nodes ≡ t.nodes
  after : s.after ≡ t.after
  boundaries : s.boundaries ≡ t.boundaries
  plains : s.plains ≡ t.plains
  next : s.next ≡ t.next

same-state : {s t : State} → Same s t → s ≡ t
same-state e = λ i. record {
  lines = e.lines i;
  header = e.header i;
  last = e.last i;
  nodes = e.nodes i;
  after = e.after i;
  boundaries = e.boundaries i;
  plains = e.plains i;
  next = e.next i;
}

-- what one more line adds to the counts, to the last Q line, to the boundary phones and to the roots
module _ (before : List BookLine) (line : BookLine) where
  abbrev longer : List BookLine
  longer = before ++ (line ∷ [])

  lines_more : length before + 1 ≡ length longer
  lines_more = sym (length-append before (line ∷ []))

  last-same : member_in line ≡ [] → last_of (members_of before) ≡ last_of (members_of longer)
  last-same e = rw (members-more before line, e, append-nil (members_of before))

  -- as many as before, and one more
  nodes-same : length (node_in line) ≡ 0 → length (nodes_of before) ≡ length (nodes_of longer)
  nodes-same e = omega (arith, nodes-count before line)

  nodes-next : length (node_in line) ≡ 1 → length (nodes_of before) + 1 ≡ length (nodes_of longer)
  nodes-next e = omega (arith, nodes-count before line)

  boundaries-same : boundary_in line ≡ [] → boundaries_of before ≡ boundaries_of longer
  boundaries-same e = rw (boundaries-more before line, e, append-nil (boundaries_of before))

  roots-same : root_in line ≡ [] → roots_of before ≡ roots_of longer
  roots-same e = rw (roots-more before line, e, append-nil (roots_of before))

  -- a line that comes after the header: it stays, and so does the next place where there is no root
  module _ (started : 0 < length before) where
    header-same : header_of before ≡ header_of longer
    header-same = sym (header-parts before (line ∷ []) started)

    next-same : root_in line ≡ [] → next_place (header_of before).states (roots_of before)
        ≡ next_place (header_of longer).states (roots_of longer)
    next-same e = ap₂ (λ (h : Header) (roots : List Root). next_place h.states roots) header-same (roots-same e)

    node-state : member_in line ≡ [] → length (node_in line) ≡ 1 → boundary_in line ≡ [] → root_in line ≡ []
        → with_node (state_of before) ≡ state_of longer
    unfolding with_node state_of
    node-state m n b r =
        same-state (record {
          lines = lines_more;
          header = header-same;
          last = last-same m;
          nodes = nodes-next n;
          after = ap after_of (boundaries-same b);
          boundaries = ap boundary_set (boundaries-same b);
          plains = ap plain_set (boundaries-same b);
          next = next-same r;
        })

first-state : (half states phones classes nodes : ℕ)
    → next_state (state_of []) (H half states phones classes nodes) ≡ state_of (H half states phones classes nodes ∷ [])
unfolding next_state state_of header_of member_in node_line_in boundary_in root_in next_place
first-state half states phones classes nodes =
    let line : BookLine = H half states phones classes nodes in
    same-state (record {
      lines = refl;
      header = refl;
      last = last-same [] line refl;
      nodes = nodes-same [] line refl;
      after = ap after_of (boundaries-same [] line refl);
      boundaries = ap boundary_set (boundaries-same [] line refl);
      plains = ap plain_set (boundaries-same [] line refl);
      next = rw (none-says.roots-said, (line-says line).roots-said);
    })

member-state : (before : List BookLine) (class phone : ℕ) → 0 < length before
    → next_state (state_of before) (Q class phone) ≡ state_of (before ++ (Q class phone ∷ []))
unfolding next_state state_of member_in node_line_in boundary_in root_in
member-state before class phone started =
    let line : BookLine = Q class phone in
    let newest : last_of (members_of (before ++ (line ∷ []))) ≡ Some (record { class = class; phone = phone }) =
    ap last_of (members-more before line) ∙ last_snoc (members_of before) _ in
    same-state (record {
      lines = lines_more before line;
      header = header-same before line started;
      last = sym newest;
      nodes = nodes-same before line refl;
      after = ap after_of (boundaries-same before line refl);
      boundaries = ap boundary_set (boundaries-same before line refl);
      plains = ap plain_set (boundaries-same before line refl);
      next = next-same before line started refl;
    })

boundary-state : (before : List BookLine) (boundary plain : ℕ) → 0 < length before
    → with_boundary (state_of before) boundary plain ≡ state_of (before ++ (B boundary plain ∷ []))
unfolding with_boundary state_of member_in node_line_in boundary_in root_in
boundary-state before boundary plain started =
    let line : BookLine = B boundary plain in
    let b : Boundary = record { phone = boundary; plain = plain } in
    let more : boundaries_of (before ++ (line ∷ [])) ≡ boundaries_of before ++ (b ∷ []) = boundaries-more before line in
    same-state (record {
      lines = lines_more before line;
      header = header-same before line started;
      last = last-same before line refl;
      nodes = nodes-same before line refl;
      after = add-one boundary ∙ sym (ap after_of more ∙ after-snoc (boundaries_of before) b);
      boundaries = set_snoc (λ x. x.phone) (boundaries_of before) b ∙ sym (ap boundary_set more);
      plains = set_snoc (λ x. x.plain) (boundaries_of before) b ∙ sym (ap plain_set more);
      next = next-same before line started refl;
    })

root-state : (before : List BookLine) (phone state root : ℕ) → 0 < length before
    → with_root (state_of before) phone state ≡ state_of (before ++ (R phone state root ∷ []))
unfolding with_root state_of member_in node_line_in boundary_in root_in
root-state before phone state root started =
    let line : BookLine = R phone state root in
    same-state (record {
      lines = lines_more before line;
      header = header-same before line started;
      last = last-same before line refl;
      nodes = nodes-same before line refl;
      after = ap after_of (boundaries-same before line refl);
      boundaries = ap boundary_set (boundaries-same before line refl);
      plains = ap plain_set (boundaries-same before line refl);
      next =
          rw (
            header-parts before (line ∷ []) started,
            roots-more before line,
            next_more (header_of before).states (roots_of before),
            add-one,
          );
    })

-- a B line comes after the header
pub boundary-started : (before : List BookLine) (boundary plain : ℕ) → T (book_follows before (B boundary plain))
    → 0 < length before
unfolding book_follows
boundary-started before boundary plain f =
    ltb→lt 0 (length before) ((T-three (ltb 0 (length before)) _ (eqb (length (roots_of before)) 0)).0 f).0

pub next-state : (before : List BookLine) (line : BookLine) → T (book_follows before line)
    → next_state (state_of before) line ≡ state_of (before ++ (line ∷ []))
unfolding next_state book_follows member_in node_line_in boundary_in root_in
next-state [] (H half states phones classes nodes) f = first-state half states phones classes nodes
next-state (x ∷ before) (H half states phones classes nodes) f =
    absurd (omega (arith, eqb→eq (suc (length before)) 0 f))
next-state before (Q class phone) f = member-state before class phone (test-started before _ f)
next-state before (N node class position yes_node no_node) f =
    node-state before (N node class position yes_node no_node) (node-started before f) refl refl refl refl
next-state before (L node model) f =
    node-state before (L node model) (node-started before f) refl refl refl refl
next-state before (B boundary plain) f =
    boundary-state before boundary plain (boundary-started before boundary plain f)
next-state before (R phone state root) f = root-state before phone state root (test-started before _ f)
