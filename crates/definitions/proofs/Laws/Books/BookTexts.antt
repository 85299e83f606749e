-- Laws about the texts of books: reading accepts what the writer of tree books writes, and finds that book.
-- The idea: every line passes its tests after those before it, which say what they state and no more; so one
-- induction for the members of classes, one for the nodes and one for the roots.
use Rattle.std.specs.Prelude.{◌≡◌, not, ltb}
use Rattle.std.proofs.Math.Path.{refl, sym, ap, ap₂}
use Rattle.std.proofs.Common.{◌∙◌, subst, inl, inr, add-zero, div-lt_iff_lt-mul, lt→ltb}
use Rattle.std.proofs.Math.Logic.{⊎_elim, ⊎_map}
use mathlib.Core.List.{List, [], ◌∷◌, ◌++◌, map, append-nil}
use Prim.Native.Nat.{ℕ, suc, ◌+◌, ◌-◌, ◌*◌, ◌/◌, ◌%◌, ◌≤◌, ◌<◌}
use Rattle.std.proofs.Math.Nat.{mod-lt, div-add-mod'}
use Rattle.std.proofs.Math.Numerals.{add-one}
use native.Mathlib.Omega.{arith}
use Rattle.std.proofs.Math.Dec.{T, eqb_refl}
use Rattle.std.proofs.Math.ListN.{length}
use Rattle.std.proofs.Math.Seq.{append_snoc}
use borrow.Author.Tests.{lt-ltb, le-leb, eq-eqb, ne_eqb}
use Rattle.definitions.specs.declared.Header.{Header}
use Rattle.definitions.specs.Lists.{every, last_passes, IsIn, ◌!◌}
use Rattle.definitions.specs.Faults.{answered, judge}
use Rattle.definitions.specs.Forms.{book_forms}
use Rattle.definitions.specs.Lines.{in_fixed_ranges}
use Rattle.definitions.specs.Reading.{line_tests}
use Rattle.definitions.specs.BookLines.{BookLine, N, L, no_header, header_in, header_of, root_count, Member}
use Rattle.definitions.specs.BookLines.{member_in, members_of, TreeNode, question, leaf, node_line_in, root_in, Root}
use Rattle.definitions.specs.BookLines.{root_place, next_place, root_words, Boundary, boundary_in, plain_words}
use Rattle.definitions.specs.BookLines.{is_boundary, no_root, root_names, nodes_of, boundaries_of, roots_of}
use Rattle.definitions.specs.BookReading.{Lent, book_kind, book_follows, within_header, comes_before, book_in_order}
use Rattle.definitions.specs.BookReading.{children_greater, wide_enough, book_tests, judge_names, read_book}
use Rattle.definitions.specs.BookReading.{book_full, book_enough, left_out, left_out_to, judge_book, plains_plain}
use Rattle.definitions.specs.BookReading.{orphans}
use Rattle.definitions.specs.Tables.{class_sets, Contents, contents_of}
use Rattle.definitions.specs.BookText.{members_from, line_of_node, lines_of_nodes, line_of_header, line_of_member}
use Rattle.definitions.specs.BookText.{lines_of_book, book_line_for, text_of_book, line_of_boundary, line_of_root}
use Rattle.definitions.specs.BookText.{boundaries_from, roots_listed}
use Rattle.definitions.specs.ForeignTables.{header_known}
use Rattle.definitions.specs.Ranges.{InRange}
use Rattle.definitions.proofs.Laws.Lists.Tests.{if-true}
use Rattle.definitions.proofs.Laws.Text.Judging.{pass-none, pass-more}
use Rattle.definitions.proofs.Laws.Text.Ranges.{range_none, range-more}
use Rattle.definitions.proofs.Laws.Books.Books.{some-root}
use Rattle.definitions.proofs.Laws.Books.AcceptedKnown.{header-known}
use Rattle.definitions.proofs.Laws.Books.Accepted.{AllFrom, NodeFits, RootFits, BoundaryFits}
use Rattle.definitions.proofs.Laws.Text.WrittenTexts.{Writer, ranged, Next, AllNext, next-parts, all-ranged}
use Rattle.definitions.proofs.Laws.Text.WrittenTexts.{text-taken}
use Rattle.definitions.proofs.Laws.Books.KnownBooks.{Stated}
use Rattle.definitions.proofs.Laws.Books.SaidLines.{Says, says-parts, line-says}
use Rattle.definitions.proofs.Laws.Books.LinesSay.{members-say, nodes-say, lines-say, Before, before-others}
use Rattle.definitions.proofs.Laws.Books.LinesSay.{before_more, boundaries-say}
use Rattle.definitions.proofs.Laws.Books.WrittenBooks.{book-writes, book_writer}
use Rattle.definitions.proofs.Laws.Books.WrittenClasses.{sets-again, members-within, members-ascend}
use Rattle.definitions.proofs.Laws.Books.LeftOut.{next_more, left-reaches, spot-below, Spot}
use Rattle.definitions.proofs.Laws.Books.WrittenRoots.{WholePhone, Follows, ends_next, written-follow}
use Rattle.definitions.proofs.Laws.Books.WrittenRoots.{written-end}
use Rattle.definitions.proofs.Laws.Books.NamedOnce.{orphans-same}
use Rattle.definitions.proofs.Laws.Books.PhoneRoots.{roots-parts}
use Rattle.definitions.proofs.Laws.Books.WrittenBoundaries.{word-edge, plains-again, boundaries-ascend}
use Rattle.definitions.proofs.Laws.Books.WrittenBoundaries.{boundaries-fit, plains-plain}
use Rattle.definitions.proofs.Laws.Books.ListedRoots.{of-listed, roots-again, names-listed}

-- a member of a class that the header counts, and of a phone
abbrev MemberIn : Header → Member → Type 0
MemberIn header m =
    (1 ≤ m.class) × (m.class ≤ header.classes) × (1 ≤ m.phone) × (m.phone ≤ header.phones)

-- ---- what is asked of a line after those before it

module _ (lent : Lent) (before : List BookLine) (line : BookLine) where
  record Asked : Type 0 where
    unfinished : T (not (book_full before))
    follows : T (book_follows before line)
    in-range : T (ranged (book_writer lent) line)
    within : T (within_header (header_of before) line)
    in_order : T (book_in_order before line)
    greater : T (children_greater line)
    wide : T (wide_enough lent (header_in line))

  asked-next : Asked → Next (book_writer lent) before line
  unfolding book_kind line_tests book_tests in_fixed_ranges
  asked-next a =
      let w = book-writes lent line in
      let in-range : T (in_fixed_ranges book_forms (book_line_for line)) = rw (w.known, in_fixed_ranges) a.in-range in
      record {
        unfinished = a.unfinished;
        tested = rw w.again
            (pass-more _ _ a.follows (pass-more _ _ in-range (pass-more _ _ a.within
            (pass-more _ _ a.in_order (pass-more _ _ a.greater (pass-more _ _ a.wide pass-none))))));
      }

-- no header asks for a table
wide-none : (lent : Lent) → T (wide_enough lent no_header)
unfolding wide_enough root_count
wide-none lent =
    rw (
      le-leb 0 lent.nodes (omega arith),
      le-leb 0 lent.classes (omega arith),
      le-leb 0 lent.roots (omega arith),
      le-leb 0 lent.plains (omega arith),
    ) tt

module _ (lent : Lent) (header : Header) (range : InRange header) where
  header-next : T (wide_enough lent header) → Next (book_writer lent) [] (line_of_header header)
  unfolding book_full book_follows within_header book_in_order children_greater header_in book_line_for header_known
  header-next wide =
      asked-next lent [] (line_of_header header) (record {
        unfinished = tt;
        follows = tt;
        in-range = header-known header range;
        within = tt;
        in_order = tt;
        greater = tt;
        wide = wide;
      })

  module _ {before : List BookLine} {members : List Member} {nodes : ℕ} {boundaries : List Boundary}
      {roots : List Root} (b : Before header before members nodes boundaries roots) where
    unfinished : next_place header.states roots < root_count header → T (not (book_full before))
    unfolding book_full
    unfinished fewer =
        rw (
          lt-ltb 0 (length before) b.some-line,
          b.roots-are,
          b.header_is,
          ne_eqb (next_place header.states roots) (root_count header) (λ e. omega arith),
        ) tt

  member-next : (before : List BookLine) (done : List Member) (m : Member) → Before header before done 0 [] []
      → MemberIn header m → T (last_passes (λ b. comes_before b m) done)
      → Next (book_writer lent) before (line_of_member m)
  unfolding book_follows within_header book_in_order children_greater header_in book_line_for next_place
  member-next before done m b (class_low, class_high, phone_low, phone_high) ascends =
      asked-next lent before (line_of_member m) (record {
        unfinished = unfinished b (some-root header range);
        follows = rw (lt-ltb 0 (length before) b.some-line, b.nodes-many) tt;
        in-range =
            range-more _ _ _ _ (omega (arith, range.classes_range.high))
            (range-more _ _ _ _ (omega (arith, range.phones_range.high)) range_none);
        within =
            rw (
              b.header_is,
              le-leb m.class header.classes class_high,
              le-leb m.phone header.phones phone_high,
            ) tt;
        in_order = rw b.members-are ascends;
        greater = tt;
        wide = wide-none lent;
      })

  node-next : (before : List BookLine) (members : List Member) (at : ℕ) (node : TreeNode)
      → Before header before members at [] [] → at < header.nodes → NodeFits header at node
      → Next (book_writer lent) before (line_of_node at node)
  unfolding book_follows within_header book_in_order children_greater header_in book_line_for next_place
  node-next before members at (question asked yes_node no_node) b listed f =
      asked-next lent before (N at asked.class asked.position yes_node no_node) (record {
        unfinished = unfinished b (some-root header range);
        follows = rw (b.nodes-many, b.header_is) (lt→ltb at header.nodes listed);
        in-range =
            range-more _ _ _ _ (omega (arith, range.nodes_range.high))
            (range-more _ _ _ _
            (omega (arith, f.in-range.class_low, f.in-range.class_high, range.classes_range.high))
            (range-more _ _ _ _ (omega (arith, f.in-range.position_high, range.half_range.high))
            (range-more _ _ _ _ (omega (arith, f.yes_listed, range.nodes_range.high))
            (range-more _ _ _ _ (omega (arith, f.no_listed, range.nodes_range.high)) range_none))));
        within =
            rw (
              b.header_is,
              lt-ltb at header.nodes listed,
              le-leb asked.class header.classes f.in-range.class_high,
              le-leb asked.position (2 * header.half) f.in-range.position_high,
              lt-ltb yes_node header.nodes f.yes_listed,
              lt-ltb no_node header.nodes f.no_listed,
            ) tt;
        in_order = rw b.nodes-many (eqb_refl at);
        greater = rw (lt-ltb at yes_node f.yes_greater, lt-ltb at no_node f.no_greater) tt;
        wide = wide-none lent;
      })
  node-next before members at (leaf model) b listed f =
      asked-next lent before (L at model) (record {
        unfinished = unfinished b (some-root header range);
        follows = rw (b.nodes-many, b.header_is) (lt→ltb at header.nodes listed);
        in-range =
            range-more _ _ _ _ (omega (arith, range.nodes_range.high))
            (range-more _ _ _ _ (omega (arith, f.low, f.high)) range_none);
        within = rw b.header_is (lt→ltb at header.nodes listed);
        in_order = rw b.nodes-many (eqb_refl at);
        greater = tt;
        wide = wide-none lent;
      })

  boundary-next : (before : List BookLine) (members : List Member) (done : List Boundary) (x : Boundary)
      → Before header before members header.nodes done [] → BoundaryFits header 0 x
      → T (last_passes (λ b. ltb b.phone x.phone) done)
      → Next (book_writer lent) before (line_of_boundary x)
  unfolding book_follows within_header book_in_order children_greater header_in book_line_for next_place
  boundary-next before members done x b f ascends =
      asked-next lent before (line_of_boundary x) (record {
        unfinished = unfinished b (some-root header range);
        follows =
            rw (
              lt-ltb 0 (length before) b.some-line,
              b.nodes-many,
              b.header_is,
              eq-eqb header.nodes header.nodes refl,
              b.roots-are,
            ) tt;
        in-range =
            range-more _ _ _ _ (omega (arith, f.phone_low, f.phone_high, range.phones_range.high))
            (range-more _ _ _ _ (omega (arith, f.plain_low, f.plain_high, range.phones_range.high)) range_none);
        within =
            rw (
              b.header_is,
              le-leb x.phone header.phones f.phone_high,
              le-leb x.plain header.phones f.plain_high,
            ) tt;
        in_order = rw b.boundaries-are ascends;
        greater = tt;
        wide = wide-none lent;
      })

  root-next : (before : List BookLine) (members : List Member) (boundaries : List Boundary) (done : List Root)
      (r : Root) → Before header before members header.nodes boundaries done → RootFits header 0 r
      → next_place header.states done < root_count header
      → T (left_out (is_boundary boundaries) header.states (next_place header.states done)
      (root_place header.states r.phone r.state))
      → Next (book_writer lent) before (line_of_root r)
  unfolding book_follows within_header book_in_order left_out_to children_greater header_in book_line_for
  root-next before members boundaries done r b f counted left =
      asked-next lent before (line_of_root r) (record {
        unfinished = unfinished b counted;
        follows =
            rw (lt-ltb 0 (length before) b.some-line, b.nodes-many, b.header_is)
            (eqb_refl header.nodes);
        in-range =
            range-more _ _ _ _ (omega (arith, f.spot.phone_low, f.phone_high, range.phones_range.high))
            (range-more _ _ _ _ (omega (arith, f.spot.state_low, f.spot.state_high, range.states_range.high))
            (range-more _ _ _ _ (omega (arith, f.listed, range.nodes_range.high)) range_none));
        within =
            rw (
              b.header_is,
              le-leb r.phone header.phones f.phone_high,
              le-leb r.state header.states f.spot.state_high,
            ) (lt→ltb r.node header.nodes f.listed);
        in_order = rw (b.header_is, b.boundaries-are, b.roots-are) left;
        greater = tt;
        wide = wide-none lent;
      })

  -- ---- the lines one after the other

  members-next : (before : List BookLine) (done rest : List Member) → Before header before done 0 [] []
      → ((m : Member) → IsIn m rest → MemberIn header m)
      → ((k : List Member) (m : Member) (l : List Member) → done ++ rest ≡ k ++ (m ∷ l)
      → T (last_passes (λ b. comes_before b m) k))
      → AllNext (book_writer lent) before (map line_of_member rest)
  unfolding member_in node_line_in boundary_in root_in
  members-next before done [] b within ascend = tt
  members-next before done (m ∷ rest) b within ascend =
      let more = before_more b (line-says (line_of_member m)) in (
        member-next before done m b (within m (inl refl)) (ascend done m rest refl),
        members-next (before ++ (line_of_member m ∷ [])) (done ++ (m ∷ [])) rest more
            (λ x i. within x (inr i)) (λ k x l e. ascend k x l (sym (append_snoc done m rest) ∙ e)),
      )

  nodes-next : (before : List BookLine) (members : List Member) (at : ℕ) (nodes : List TreeNode)
      → Before header before members at [] [] → at + length nodes ≡ header.nodes
      → AllFrom (NodeFits header) at nodes → AllNext (book_writer lent) before (lines_of_nodes at nodes)
  unfolding lines_of_nodes
  nodes-next before members at [] b all f = tt
  nodes-next before members at (node ∷ nodes) b all f =
      let more = before_more b (nodes-say at (node ∷ [])) in (
        node-next before members at node b (omega arith) f.0,
        nodes-next (before ++ (line_of_node at node ∷ [])) (members ++ []) (suc at) nodes (rw add-one at more)
            (omega arith) f.1,
      )

  boundaries-next : (before : List BookLine) (members : List Member) (done rest : List Boundary)
      → Before header before members header.nodes done []
      → ((x : Boundary) → IsIn x rest → BoundaryFits header 0 x)
      → ((k : List Boundary) (x : Boundary) (l : List Boundary) → done ++ rest ≡ k ++ (x ∷ l)
      → T (last_passes (λ b. ltb b.phone x.phone) k))
      → AllNext (book_writer lent) before (map line_of_boundary rest)
  unfolding member_in node_line_in boundary_in root_in
  boundaries-next before members done [] b fit ascend = tt
  boundaries-next before members done (x ∷ rest) b fit ascend =
      let more = before_more b (line-says (line_of_boundary x)) in (
        boundary-next before members done x b (fit x (inl refl)) (ascend done x rest refl),
        boundaries-next (before ++ (line_of_boundary x ∷ [])) (members ++ []) (done ++ (x ∷ [])) rest
            (rw (add-zero header.nodes) at more) (λ y i. fit y (inr i))
            (λ k y l e. ascend k y l (sym (append_snoc done x rest) ∙ e)),
      )

  roots-next : (before : List BookLine) (members : List Member) (boundaries : List Boundary)
      (done rest : List Root) → Before header before members header.nodes boundaries done
      → ((r : Root) → IsIn r rest → RootFits header 0 r)
      → Follows header.states (is_boundary boundaries) (next_place header.states done) rest
      → AllNext (book_writer lent) before (map line_of_root rest)
  unfolding member_in node_line_in boundary_in root_in root_count
  roots-next before members boundaries done [] b fit follow = tt
  roots-next before members boundaries done (r ∷ rest) b fit follow =
      let more = before_more b (line-says (line_of_root r)) in
      let f = fit r (inl refl) in
      let counted : next_place header.states done < root_count header =
      omega (arith, left-reaches _ (is_boundary boundaries) _ _ follow.0, spot-below f.spot f.phone_high) in (
        root-next before members boundaries done r b f counted follow.0,
        roots-next (before ++ (line_of_root r ∷ [])) (members ++ []) boundaries (done ++ (r ∷ [])) rest
            (rw (add-zero header.nodes, append-nil boundaries) at more) (λ y i. fit y (inr i))
            (subst (λ n. Follows header.states (is_boundary boundaries) n rest)
            (sym (next_more header.states done r)) follow.1),
      )

-- ---- a book that is stated

module _ (header : Header) (contents : Contents) where
  abbrev members : List Member
  members = members_from header.phones 1 contents.classes

  -- its lines say its header and what it holds
  pub header-again : header_of (lines_of_book header contents) ≡ header
  unfolding lines_of_book header_of header_in
  header-again = refl

  abbrev boundaries : List Boundary
  boundaries = boundaries_from 1 contents.plains

  abbrev roots : List Root
  roots = roots_listed header.states 0 contents.roots

  all_said : Says (lines_of_book header contents) members contents.nodes boundaries roots
  unfolding lines_of_book
  all_said = lines-say header members contents.nodes boundaries roots

module _ (header : Header) (contents : Contents) (s : Stated header contents) where
  sets-said : class_sets header.classes (members_of (lines_of_book header contents)) ≡ contents.classes
  sets-said =
      rw ((all_said header contents).members-said, s.heads.classes)
      (sets-again header.phones contents.classes s.sets)

  pub contents-again : contents_of (lines_of_book header contents) ≡ contents
  unfolding contents_of lines_of_book header_of header_in
  contents-again = λ i. record {
    half = s.heads.half i;
    states = s.heads.states i;
    phones = s.heads.phones i;
    nodes = (all_said header contents).nodes-said i;
    classes = sets-said i;
    roots =
        (ap (root_words header) (all_said header contents).roots-said
        ∙ roots-again header contents.roots (sym s.heads.roots)) i;
    plains =
        (ap (plain_words header) (all_said header contents).boundaries-said
        ∙ plains-again header contents.plains (sym s.heads.plains)) i;
  }

module _ (lent : Lent) (header : Header) (contents : Contents) (s : Stated header contents)
    (wide : T (wide_enough lent header)) where
  abbrev w : Writer (book_kind lent)
  w = book_writer lent

  -- the parts of its lines
  abbrev first : List BookLine
  first = line_of_header header ∷ []

  abbrev qs : List BookLine
  qs = map line_of_member (members header contents)

  abbrev ns : List BookLine
  ns = lines_of_nodes 0 contents.nodes

  abbrev bs : List BookLine
  bs = map line_of_boundary (boundaries header contents)

  abbrev rs : List BookLine
  rs = map line_of_root (roots header contents)

  next-members : AllNext w first qs
  next-members =
      members-next lent header s.in-range first [] (members header contents) (before-others header)
      (λ m i. rw s.heads.classes (members-within header.phones contents.classes m i))
      (members-ascend header.phones contents.classes)

  next-nodes : AllNext w (first ++ qs) ns
  next-nodes =
      nodes-next lent header s.in-range (first ++ qs) (members header contents) 0 contents.nodes
      (before_more (before-others header) (members-say (members header contents)))
      (omega (arith, s.heads.nodes)) s.nodes

  -- a phone's roots are all given, or it is a boundary phone and none is
  whole : (phone : ℕ) → 1 ≤ phone → phone ≤ header.phones
      → WholePhone header.states (is_boundary (boundaries header contents)) s.in-range.states_range.low
      contents.roots phone
  whole phone low high =
      ⊎_map (λ all state first last e. omega (arith, all state first last, e, s.in-range.nodes_range.high))
      (λ (edge, none). (
        word-edge contents.plains phone low (omega (arith, high, s.heads.plains)) edge,
        none,
      ))
      ((roots-parts header contents.plains contents.roots).0 s.roots phone low high)

  fitting-roots : (r : Root) → IsIn r (roots header contents) → RootFits header 0 r
  unfolding root_count
  fitting-roots r i =
      let states : ℕ = header.states in
      let l = of-listed states 0 contents.roots r i in
      let place : ℕ = 0 + l.place in
      let low : 0 < states = s.in-range.states_range.low in
      let below : place < header.phones * states = omega (arith, l.within, s.heads.roots) in
      let phone : place / states < header.phones = (div-lt_iff_lt-mul low).1 below in
      let spot : Spot states r.phone r.state =
      record {
        phone_low = omega (arith, l.phone);
        state_low = omega (arith, l.state);
        state_high = omega (arith, l.state, mod-lt place low);
      } in
      let here : root_place states r.phone r.state ≡ l.place =
      let p : r.phone - 1 ≡ place / states = omega (arith, l.phone) in
      let q : r.state - 1 ≡ place % states = omega (arith, l.state) in
      ap₂ (λ (a b : ℕ). a * states + b) p q ∙ div-add-mod' place states ∙ omega arith in
      let word : contents.roots ! root_place states r.phone r.state ≡ r.node =
      ap (λ (n : ℕ). contents.roots ! n) here ∙ sym l.node in
      let high : r.phone ≤ header.phones = omega (arith, l.phone, phone) in
      record {
        spot = spot;
        phone_high = high;
        listed = ⊎_elim
            (λ all. omega (arith, all r.state spot.state_low spot.state_high, word))
            (λ (edge, none). absurd (l.given (sym l.node ∙ sym word ∙ none r.state spot.state_low
            spot.state_high)))
            ((roots-parts header contents.plains contents.roots).0 s.roots r.phone spot.phone_low high);
      }

  count : 0 + length contents.nodes ≡ header.nodes
  count = omega (arith, s.heads.nodes)

  sized : length contents.roots ≡ header.phones * header.states
  unfolding root_count
  sized = sym s.heads.roots

  next-boundaries : AllNext w (first ++ (qs ++ ns)) bs
  next-boundaries =
      let said = says-parts (members-say (members header contents)) (nodes-say 0 contents.nodes) in
      boundaries-next lent header s.in-range (first ++ (qs ++ ns)) _ [] (boundaries header contents)
      (rw count at (before_more (before-others header) said))
      (boundaries-fit header contents.plains (sym s.heads.plains) s.plains)
      (boundaries-ascend contents.plains)

  next-roots : AllNext w (first ++ (qs ++ ns ++ bs)) rs
  unfolding next_place
  next-roots =
      let said = says-parts (says-parts (members-say (members header contents)) (nodes-say 0 contents.nodes))
      (boundaries-say (boundaries header contents)) in
      roots-next lent header s.in-range (first ++ (qs ++ ns ++ bs)) _ (boundaries header contents) []
      (roots header contents)
      (rw (append-nil contents.nodes, count) at (before_more (before-others header) said))
      fitting-roots
      (written-follow header.states (is_boundary (boundaries header contents)) s.in-range.states_range.low
      contents.roots header.phones sized whole)

  lines_next : AllNext w [] (lines_of_book header contents)
  unfolding lines_of_book
  lines_next = (
    header-next lent header s.in-range wide,
    next-parts w first (qs ++ ns ++ bs) rs
        (next-parts w first (qs ++ ns) bs (next-parts w first qs ns next-members next-nodes) next-boundaries)
        next-roots,
  )

  -- so their numbers lie in their ranges
  pub book-ranged : T (every (ranged w) (lines_of_book header contents))
  book-ranged = all-ranged w [] (lines_of_book header contents) lines_next

  -- the text may end here, no plain phone is a boundary phone, and every node is named once
  ends-here : T (book_enough (lines_of_book header contents))
  unfolding book_enough left_out_to lines_of_book header_of header_in root_count
  ends-here =
      let lines : List BookLine = lines_of_book header contents in
      let said = all_said header contents in
      let end = written-end header.states (is_boundary (boundaries header contents)) s.in-range.states_range.low
      contents.roots header.phones sized whole in
      rw (lt-ltb 0 (length lines) (omega arith))
      (rw (said.boundaries-said, said.roots-said, ends_next header.states (roots header contents)) end)

  names-judged : judge_names (lines_of_book header contents) ≡ answered (lines_of_book header contents)
  unfolding judge_names
  names-judged =
      let said = all_said header contents in
      let few : length contents.nodes ≤ no_root = omega (arith, s.heads.nodes, s.in-range.nodes_range.high) in
      let lines : List BookLine = lines_of_book header contents in
      let named : orphans (nodes_of lines) (root_names (roots_of lines)) ≡ [] =
      rw (said.nodes-said, said.roots-said)
      (orphans-same contents.nodes (root_names (roots header contents)) contents.roots few
      (names-listed header.states 0 contents.roots) ∙ s.named-once) in
      rw (judge_names, named)

  judged : judge_book (lines_of_book header contents) ≡ answered (lines_of_book header contents)
  unfolding judge_book judge
  judged =
      let plain : T (plains_plain (boundaries_of (lines_of_book header contents))) =
      rw (all_said header contents).boundaries-said
      (plains-plain header contents.plains (sym s.heads.plains) s.plains) in
      if-true (plains_plain (boundaries_of (lines_of_book header contents))) _ _ plain ∙ names-judged

  -- what was written is read
  pub book-read : read_book lent (text_of_book header contents) ≡ answered (lines_of_book header contents)
  unfolding read_book text_of_book book_kind lines_of_book
  book-read = text-taken w (lines_of_book header contents) (omega arith) lines_next ends-here ∙ judged
