-- Laws about what every line that is taken keeps: counts within the header's, tables wide enough, B and R lines in
-- order. The next line has room, and its tests and counts are safe.
use Rattle.std.specs.Prelude.{◌≡◌, refl, List, [], ◌∷◌, ◌++◌, ℕ, suc, ◌+◌, ◌*◌, ◌≤◌, ◌<◌, T, leb, ltb, eqb, length}
use Rattle.std.proofs.Common.{sym, ap, ◌∙◌, subst, ⊎_elim, append-nil, arith, leb→le, ltb→lt, eqb→eq}
use Rattle.std.proofs.Math.ListN.{length-append}
use Rattle.definitions.specs.Ranges.{InRange}
use Rattle.definitions.specs.declared.Header.{Header}
use Rattle.definitions.specs.BookLines.{BookLine, H, Q, N, L, B, R, header_in, header_of, root_count, nodes_of, node_in}
use Rattle.definitions.specs.BookLines.{node_line_in, Boundary, boundaries_of, boundary_in, Root, roots_of, root_in}
use Rattle.definitions.specs.BookLines.{root_place, next_place}
use Rattle.definitions.specs.BookReading.{Lent, node_size, wide_enough, book_follows, book_in_order, left_out_to}
use Rattle.definitions.specs.BookReading.{within_header}
use Rattle.booklines.specs.States.{state_of, HasStates, PhonesFit}
use Rattle.book.specs.Storing.{HasRoom}
use Rattle.definitions.proofs.Laws.Lists.Tests.{T_and}
use Rattle.definitions.proofs.Laws.Lists.Members.{of-append, of-single}
use Rattle.definitions.proofs.Laws.Books.SaidLines.{none-says, line-says, nodes-count, header-parts, boundaries-more}
use Rattle.definitions.proofs.Laws.Books.SaidLines.{roots-more}
use Rattle.definitions.proofs.Laws.Books.LeftOut.{left-reaches, next_more, spot-below}
use Rattle.definitions.proofs.Laws.Books.Books.{Fits, node-started, test-started, roots_few, roomy}
use Rattle.definitions.proofs.Laws.Books.Accepted.{roots-fit}
use Rattle.definitions.proofs.Laws.Books.Ordered.{Ordered, ordered-none, ordered-first, ordered-more}
use Rattle.booklines.specs.Laws.Judged.{no_header_fits}
use Rattle.booklines.specs.Laws.Boundaries.{PlainsLow}
use Rattle.booklines.specs.Laws.States.{boundary-started}

-- roots at places that ascend: no more of them than places up to the last, and that is one of the header's
pub record RootsFew (header : Header) (roots : List Root) : Type 0 where
  pub count : length roots ≤ next_place header.states roots
  pub within : next_place header.states roots ≤ root_count header

pub record Kept (lent : Lent) (before : List BookLine) : Type 0 where
  pub in-range : 0 < length before → InRange (header_of before)
  pub wide : T (wide_enough lent (header_of before))
  pub nodes : length (nodes_of before) ≤ (header_of before).nodes
  pub plains : PlainsLow (boundaries_of before)
  pub roots : RootsFew (header_of before) (roots_of before)
  -- no root stands before the last node
  pub after_nodes : 0 < length (roots_of before) → length (nodes_of before) ≡ (header_of before).nodes
  pub ordered : Ordered before

-- ---- one more line

no-roots-few : (header : Header) → RootsFew header []
unfolding next_place
no-roots-few header = record { count = omega arith; within = omega arith }

-- before the first line nothing is asked
pub kept-none : (lent : Lent) → Kept lent []
unfolding header_of
kept-none lent = record {
  in-range = λ l. absurd (omega arith);
  wide = rw (no_header_fits lent) tt;
  nodes = rw none-says.nodes-said (omega arith);
  plains = rw none-says.boundaries-said (λ b i. absurd i);
  roots = rw none-says.roots-said (no-roots-few _);
  after_nodes = λ l. absurd (omega (arith, ap length none-says.roots-said));
  ordered = ordered-none;
}

-- the first line is the H line
kept-first : (lent : Lent) (half states phones classes nodes : ℕ) → Fits lent [] (H half states phones classes nodes)
    → Kept lent (H half states phones classes nodes ∷ [])
unfolding header_of header_in node_line_in boundary_in root_in
kept-first lent half states phones classes nodes f =
    let says = line-says (H half states phones classes nodes) in
    record {
      in-range = λ l. f.ranged;
      wide = f.wide;
      nodes = omega (arith, ap length says.nodes-said);
      plains = rw says.boundaries-said (λ b i. absurd i);
      roots = rw says.roots-said (no-roots-few _);
      after_nodes = λ l. absurd (omega (arith, ap length says.roots-said));
      ordered = ordered-first half states phones classes nodes;
    }

-- a further line: the header stays
module _ (lent : Lent) (before : List BookLine) (line : BookLine) (started : 0 < length before)
    (k : Kept lent before) (f : Fits lent before line)
  where
    abbrev after : List BookLine
    after = before ++ (line ∷ [])

    abbrev header : Header
    header = header_of before

    kept_line : length (nodes_of after) ≤ header.nodes → PlainsLow (boundaries_of after)
        → RootsFew header (roots_of after)
        → (0 < length (roots_of after) → length (nodes_of after) ≡ header.nodes)
        → Kept lent after
    kept_line nodes plains roots full =
        let same : header_of after ≡ header = header-parts before (line ∷ []) started in
        record {
          in-range = λ l. rw same (k.in-range started);
          wide = rw same k.wide;
          nodes = rw same nodes;
          plains = plains;
          roots = rw same roots;
          after_nodes = λ l. rw same (full l);
          ordered = ordered-more lent before line same k.ordered f;
        }

    -- what a line leaves as it was
    same-plains : boundary_in line ≡ [] → PlainsLow (boundaries_of after)
    same-plains e = rw (boundaries-more before line, e, append-nil (boundaries_of before)) k.plains

    same-roots : root_in line ≡ [] → roots_of after ≡ roots_of before
    same-roots e = rw (roots-more before line, e, append-nil (roots_of before))

    -- a line without a node and a root
    kept-other : PlainsLow (boundaries_of after) → node_in line ≡ [] → root_in line ≡ [] → Kept lent after
    kept-other plains n r =
        let count : length (nodes_of after) ≡ length (nodes_of before) =
        nodes-count before line ∙ omega (arith, ap length n) in
        kept_line (omega (arith, count, k.nodes)) plains (rw (same-roots r) k.roots)
        (rw (same-roots r) (λ l. count ∙ k.after_nodes l))

    -- a node's line
    kept-node : boundary_in line ≡ [] → root_in line ≡ [] → length (node_in line) ≡ 1
        → length (nodes_of before) < header.nodes → Kept lent after
    kept-node b r one fewer =
        let nodes = nodes-count before line in
        kept_line (omega arith) (same-plains b) (rw (same-roots r) k.roots)
        (rw (same-roots r) (λ l. absurd (omega (arith, k.after_nodes l))))

-- one B line more
boundary-low : (boundaries : List Boundary) (b : Boundary) → PlainsLow boundaries → 1 ≤ b.plain
    → PlainsLow (boundaries ++ (b ∷ []))
boundary-low boundaries b low own x i =
    ⊎_elim (low x) (λ j. subst (λ (y : Boundary). 1 ≤ y.plain) (sym (of-single b x j)) own)
    (of-append x boundaries (b ∷ []) i)

-- one R line more: its place is one of the header's, and not before the next
module _ (lent : Lent) (before : List BookLine) (phone state root : ℕ) (f : Fits lent before (R phone state root)) where
  abbrev place : ℕ
  place = root_place (header_of before).states phone state

  pub root-within : place < root_count (header_of before)
  unfolding root_in root_count
  root-within =
      let fits = (roots-fit lent before (R phone state root) f).0 in spot-below fits.spot fits.phone_high

  root-few : RootsFew (header_of before) (roots_of before)
      → RootsFew (header_of before) (roots_of (before ++ (R phone state root ∷ [])))
  unfolding root_in book_in_order left_out_to
  root-few k =
      let r : Root = record { phone = phone; state = state; node = root } in
      let reached : next_place (header_of before).states (roots_of before) ≤ place =
      left-reaches (header_of before).states _ _ place f.in_order in
      let next = next_more (header_of before).states (roots_of before) r in
      rw (roots-more before (R phone state root)) (record {
        count = omega (arith, k.count, reached, next, length-append (roots_of before) (r ∷ []));
        within = omega (arith, root-within, next);
      })

pub kept_more : (lent : Lent) (before : List BookLine) (line : BookLine) → Kept lent before → Fits lent before line
    → Kept lent (before ++ (line ∷ []))
unfolding book_follows node_line_in boundary_in root_in
kept_more lent [] (H half states phones classes nodes) k f = kept-first lent half states phones classes nodes f
kept_more lent (x ∷ before) (H half states phones classes nodes) k f =
    absurd (omega (arith, eqb→eq (suc (length before)) 0 f.follows))
kept_more lent before (Q class phone) k f =
    let started = test-started before _ f.follows in
    kept-other lent before (Q class phone) started k f (same-plains lent before (Q class phone) started k f refl)
    refl refl
kept_more lent before (N node class position yes_node no_node) k f =
    kept-node lent before (N node class position yes_node no_node) (node-started before f.follows) k f refl refl refl
    (ltb→lt _ _ f.follows)
kept_more lent before (L node model) k f =
    kept-node lent before (L node model) (node-started before f.follows) k f refl refl refl
    (ltb→lt _ _ f.follows)
kept_more lent before (B boundary plain) k f =
    let b : Boundary = record { phone = boundary; plain = plain } in
    kept-other lent before (B boundary plain) (boundary-started before boundary plain f.follows) k f
    (rw (boundaries-more before (B boundary plain))
    (boundary-low (boundaries_of before) b k.plains f.ranged.1.low)) refl refl
kept_more lent before (R phone state root) k f =
    let line : BookLine = R phone state root in
    let started = test-started before _ f.follows in
    let full : length (nodes_of before) ≡ (header_of before).nodes =
    eqb→eq _ _ ((T_and (ltb 0 (length before)) (eqb (length (nodes_of before)) (header_of before).nodes)).0
    f.follows).1 in
    let count = nodes-count before line in
    kept_line lent before line started k f (omega (arith, count, full)) (same-plains lent before line started k f refl)
    (root-few lent before phone state root f k.roots) (λ l. omega (arith, count, full))

-- ---- what follows

node-room : (lent : Lent) (before : List BookLine) (node : ℕ) → Kept lent before
    → T (ltb (length (nodes_of before)) (header_of before).nodes) → T (eqb node (length (nodes_of before)))
    → node_size * node + node_size ≤ lent.nodes
node-room lent before node k follows in_order =
    let fewer : length (nodes_of before) < (header_of before).nodes = ltb→lt _ _ follows in
    let next : node ≡ length (nodes_of before) = eqb→eq _ _ in_order in
    omega (arith, (roomy lent (header_of before) k.wide).nodes)

pub kept-room : (lent : Lent) (before : List BookLine) (line : BookLine) → Kept lent before
    → Fits lent before line → HasRoom (header_of before).states lent line
unfolding within_header book_follows book_in_order
kept-room lent before (H half states phones classes nodes) k f =
    (roomy lent (header_in (H half states phones classes nodes)) f.wide).roots
kept-room lent before (Q class phone) k f =
    let header : Header = header_of before in
    let fits : class ≤ header.classes =
    leb→le _ _ ((T_and (leb class header.classes) (leb phone header.phones)).0 f.within).0 in
    let (class-range, phone_range) = f.ranged in (
      class-range.low,
      omega (arith, (roomy lent header k.wide).classes),
      phone_range.low,
      phone_range.high,
    )
kept-room lent before (N node class position yes_node no_node) k f =
    node-room lent before node k f.follows f.in_order
kept-room lent before (L node model) k f = node-room lent before node k f.follows f.in_order
kept-room lent before (B boundary plain) k f =
    let header : Header = header_of before in
    let fits : boundary ≤ header.phones =
    leb→le _ _ ((T_and (leb boundary header.phones) (leb plain header.phones)).0 f.within).0 in
    omega (arith, f.ranged.0.low, fits, (roomy lent header k.wide).plains)
kept-room lent before (R phone state root) k f =
    omega (arith, root-within lent before phone state root f, (roomy lent (header_of before) k.wide).roots)

pub fits-phones : (lent : Lent) (before : List BookLine) (line : BookLine) → Fits lent before line → PhonesFit line
fits-phones lent before (H half states phones classes nodes) f = tt
fits-phones lent before (Q class phone) f = tt
fits-phones lent before (N node class position yes_node no_node) f = tt
fits-phones lent before (L node model) f = tt
fits-phones lent before (B boundary plain) f = (f.ranged.0.high, f.ranged.1.high)
fits-phones lent before (R phone state root) f = tt

pub kept-few : (lent : Lent) (before : List BookLine) → Kept lent before
    → (length (nodes_of before) ≤ 4096) × (length (roots_of before) ≤ 192)
kept-few lent [] k =
    (rw none-says.nodes-said (omega arith), rw none-says.roots-said (omega arith))
kept-few lent (x ∷ before) k =
    let header : Header = header_of (x ∷ before) in
    let range : InRange header = k.in-range (omega arith) in (
      omega (arith, k.nodes, range.nodes_range.high),
      omega (arith, k.roots.count, k.roots.within, roots_few header range),
    )

pub kept-states : (lent : Lent) (before : List BookLine) → Kept lent before → HasStates (state_of before)
unfolding state_of
kept-states lent before k l = (k.in-range l).states_range.low
