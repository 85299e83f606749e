-- The trees in force of an accepted book: each phone's have all their roots, and by lines they are those that the tables
-- hold. A plain phone is no boundary phone (21), so no R line of it is left out. Soundness of accepted books and the walk
-- by lines, in laws/trees/WalkByLines, rest on it.
use Rattle.std.specs.Prelude.{◌≡◌, ◌≢◌, List, true, false, not, ◌&&◌, leb}
use Rattle.std.proofs.Math.Path.{refl, sym, ap, subst}
use Rattle.std.proofs.Common.{◌∙◌, inl, inr, arith, le→leb, ne_eqb}
use Rattle.std.proofs.Math.Logic.{⊎_elim}
use Rattle.std.proofs.Math.Bool.{Bool}
use Rattle.std.proofs.Math.Option.{Option, none, some}
use Prim.Native.Nat.{ℕ, ◌-◌, ◌≤◌, ◌<◌}
use Rattle.std.proofs.Math.Dec.{T, eqb, eqb→eq}
use Rattle.definitions.specs.declared.Header.{Header}
use Rattle.definitions.specs.Lists.{IsIn, ◌!◌, every, map_option, up_from}
use Rattle.definitions.specs.Faults.{answered}
use Rattle.definitions.specs.BookLines.{BookLine, header_of, root_count, roots_of, Root, Boundary, boundaries_of}
use Rattle.definitions.specs.BookLines.{is_boundary, plain_for, plain_given, plain_words, root_place, root_for}
use Rattle.definitions.specs.BookLines.{root_given, root_words, no_root}
use Rattle.definitions.specs.BookReading.{Lent, left_out_to, plains_plain, read_book}
use Rattle.definitions.specs.Tables.{tree_phone, roots_in_force, root_of, book_in, book_of, contents_of}
use Rattle.definitions.specs.ForeignTables.{roots_known, plain_known, plains_known}
use Rattle.definitions.specs.TreesGive.{root_line, trees_phone}
use Rattle.definitions.proofs.Laws.Lists.Tests.{T_and, eq→eqb, by-test}
use Rattle.definitions.proofs.Laws.Lists.Lists.{map-up_from-at}
use Rattle.definitions.proofs.Laws.Lists.Members.{in-every, every_in, of_map, of-up_from}
use Rattle.definitions.proofs.Laws.Books.LeftOut.{Spot, Given, Absent, SettledTo}
use Rattle.definitions.proofs.Laws.Books.LeftOut.{Settled, settled-to, spot-below, at-spot}
use Rattle.definitions.proofs.Laws.Books.Books.{Orderly, accepted-orderly, orderly-heads}
use Rattle.definitions.proofs.Laws.Lists.FirstWhere.{first_some, first-none, in_some, not-both, none_first}
use Rattle.definitions.proofs.Laws.Books.PhoneRoots.{WholePhone, roots-parts}
use Rattle.definitions.proofs.Laws.Books.Ordered.{accepted-ordered}
use Rattle.definitions.proofs.Laws.Books.ForcedRoots.{force-listed}
use Rattle.definitions.proofs.Laws.Books.Sound.{Sound}
use Rattle.definitions.proofs.Laws.Books.Accepted.{AllFit, BoundaryFits, RootFits, accepted-fit, all_in}
use Rattle.definitions.proofs.Laws.Books.Accepted.{fitting-sound}

-- ---- the roots of lines

abbrev is_of : (phone state : ℕ) → Root → Bool
is_of phone state r = eqb r.phone phone && eqb r.state state

-- a root that is given is found, and one that is absent is not
given-found : (roots : List Root) (phone state : ℕ) → Given roots phone state
    → (x : Root) × IsIn x roots × (root_for roots phone state ≡ some x.node)
unfolding root_for map_option
given-found roots phone state (r, i, p, q) =
    let passes = (T_and (eqb r.phone phone) (eqb r.state state)).1 (eq→eqb _ _ p, eq→eqb _ _ q) in
    let (x, j, h, first) = first_some (is_of phone state) roots (in_some (is_of phone state) roots r i passes) in
    (x, j, rw first)

absent_none : (roots : List Root) (phone state : ℕ) → Absent roots phone → root_for roots phone state ≡ none
unfolding root_for map_option
absent_none roots phone state absent =
    let first = none_first (is_of phone state) roots (λ r i t.
    absent r i (eqb→eq _ _ ((T_and (eqb r.phone phone) (eqb r.state state)).0 t).0)) in
    rw first

root-word : (roots : List Root) (phone state node : ℕ) → root_for roots phone state ≡ some node
    → root_given roots phone state ≡ node
unfolding root_given
root-word roots phone state node q = rw (root_given, q)

no_word : (roots : List Root) (phone state : ℕ) → root_for roots phone state ≡ none
    → root_given roots phone state ≡ no_root
unfolding root_given
no_word roots phone state q = rw (root_given, q)

-- ---- an accepted book

module _ (lent : Lent) (text : List ℕ) (lines : List BookLine) (e : read_book lent text ≡ answered lines) where
  abbrev header : Header
  header = header_of lines

  abbrev states : ℕ
  states = header.states

  abbrev boundaries : List Boundary
  boundaries = boundaries_of lines

  abbrev roots : List Root
  roots = roots_of lines

  orderly : Orderly lines
  orderly = accepted-orderly lent text lines e

  fit : AllFit header lines
  fit = accepted-fit lent text lines e

  -- every root is given, or its phone is a boundary phone of which none is given
  pub accepted-settled : SettledTo states (is_boundary boundaries) roots (root_count header)
  unfolding left_out_to
  accepted-settled = settled-to (accepted-ordered lent text lines e).rooted (root_count header) orderly.enough

  -- the word of a phone that is no boundary phone
  inner-word : (phone : ℕ) → T (not (is_boundary boundaries phone)) → plain_given boundaries phone ≡ 0
  unfolding plain_given plain_for map_option is_boundary
  inner-word phone t =
      let first = first-none (λ b. eqb b.phone phone) boundaries t in rw (plain_given, plain_for, first)

  -- the phone whose trees are in force: the same by lines as by tables, and no boundary phone
  pub record InForce (phone : ℕ) : Type 0 where
    pub same : tree_phone (contents_of lines).plains phone ≡ trees_phone lines phone
    pub low : 1 ≤ trees_phone lines phone
    pub high : trees_phone lines phone ≤ header.phones
    pub plain : T (not (is_boundary boundaries (trees_phone lines phone)))

  -- a phone's word in the table
  plain_word : (phone : ℕ) → 1 ≤ phone → phone ≤ header.phones
      → (contents_of lines).plains ! (phone - 1) ≡ plain_given boundaries phone
  unfolding contents_of plain_words
  plain_word phone low high =
      map-up_from-at (plain_given boundaries) 1 header.phones (phone - 1) phone (omega (arith, low, high))
      (omega (arith, low))

  pub in-force : (phone : ℕ) → 1 ≤ phone → phone ≤ header.phones → InForce phone
  unfolding tree_phone trees_phone plain_for plain_given map_option is_boundary plains_plain
  in-force phone low high = by-test (is_boundary boundaries phone) edge inner
    where
      own : Boundary → Bool
      own b = eqb b.phone phone

      edge : is_boundary boundaries phone ≡ true → InForce phone
      edge q =
          let (b, i, h, first) = first_some own boundaries (rw q tt) in
          let fits : BoundaryFits header _ b = (all_in (BoundaryFits header) 0 boundaries fit.boundaries b i).1 in
          let nonzero = ne_eqb b.plain 0 (λ z. omega (arith, z, fits.plain_low)) in
          let trees : trees_phone lines phone ≡ b.plain = rw (trees_phone, plain_for, first) in
          record {
            same = rw (tree_phone, plain_word phone low high, plain_given, plain_for, first, nonzero) (sym trees);
            low = rw trees fits.plain_low;
            high = rw trees fits.plain_high;
            plain = rw trees
                (in-every (λ b. not (is_boundary boundaries b.plain)) boundaries orderly.plain b i);
          }

      inner : is_boundary boundaries phone ≡ false → InForce phone
      inner q =
          let first = first-none own boundaries (rw q tt) in
          let trees : trees_phone lines phone ≡ phone = rw (trees_phone, plain_for, first) in
          record {
            same = rw (tree_phone, plain_word phone low high, plain_given, plain_for, first) (sym trees);
            low = rw trees low;
            high = rw trees high;
            plain = rw (trees, q) tt;
          }

  -- a place among the roots
  spot-within : {phone state : ℕ} → Spot states phone state → phone ≤ header.phones
      → root_place states phone state < root_count header
  unfolding root_count
  spot-within s high = spot-below s high

  force-word : (phone state : ℕ) → Spot states phone state → phone ≤ header.phones → InForce phone
      → roots_in_force (contents_of lines) ! root_place states phone state
      ≡ root_given roots (trees_phone lines phone) state
  unfolding roots_in_force contents_of root_words root_count
  force-word phone state s high force =
      at-spot (λ p q. (contents_of lines).roots ! root_place states (tree_phone (contents_of lines).plains p) q) s high
      ∙ rw force.same (at-spot (root_given roots) {phone = trees_phone lines phone} {state = state}
      (record { phone_low = force.low; state_low = s.state_low; state_high = s.state_high }) force.high)

  -- its root for a state, by lines and in the tables
  pub record Rooting (phone state : ℕ) : Type 0 where
    pub node : ℕ
    pub by_lines : root_for roots (trees_phone lines phone) state ≡ some node
    pub in_tables : roots_in_force (contents_of lines) ! root_place states phone state ≡ node

  pub rooting : (phone state : ℕ) → Spot states phone state → phone ≤ header.phones → Rooting phone state
  unfolding root_count
  rooting phone state s high = ⊎_elim given left (accepted-settled trees state spot within)
    where
      force : InForce phone
      force = in-force phone s.phone_low high

      trees : ℕ
      trees = trees_phone lines phone

      spot : Spot states trees state
      spot = record { phone_low = force.low; state_low = s.state_low; state_high = s.state_high }

      within : root_place states trees state < root_count header
      within = spot-within spot force.high

      given : Given roots trees state → Rooting phone state
      given g =
          let (x, j, found) = given-found roots trees state g in
          record {
            node = x.node;
            by_lines = found;
            in_tables = force-word phone state s high force ∙ root-word roots trees state x.node found;
          }

      left : T (is_boundary boundaries trees) × Absent roots trees → Rooting phone state
      left (edge, absent) = absurd (not-both (is_boundary boundaries trees) edge force.plain)

  pub accepted-root-line : (phone state : ℕ) → 1 ≤ phone → phone ≤ header.phones → 1 ≤ state → state ≤ states
      → root_line lines (trees_phone lines phone) state ≡ some (root_of (book_of lines) phone state)
  unfolding root_line root_of book_of book_in contents_of
  accepted-root-line phone state p P s S =
      let r = rooting phone state (record { phone_low = p; state_low = s; state_high = S }) P in
      r.by_lines ∙ ap {B = Option ℕ} some (sym r.in_tables)

  -- ---- the plain phones in the table

  -- silence is no boundary phone
  silence-inner : T (not (is_boundary boundaries 1))
  unfolding is_boundary
  silence-inner = by-test (is_boundary boundaries 1)
      (λ q.
      let (b, i, h, first) = first_some (λ b. eqb b.phone 1) boundaries (rw q tt) in
      let fits : BoundaryFits header _ b = (all_in (BoundaryFits header) 0 boundaries fit.boundaries b i).1 in
      absurd (omega (arith, fits.phone_low, eqb→eq b.phone 1 h)))
      (λ q. rw q tt)

  first_word : (contents_of lines).plains ! 0 ≡ 0
  first_word =
      plain_word 1 (omega arith) orderly.in-range.phones_range.low ∙ inner-word 1 silence-inner

  word-known : (phone : ℕ) → 1 ≤ phone → phone ≤ header.phones
      → T (plain_known header (contents_of lines).plains (plain_given boundaries phone))
  unfolding plain_known plain_given plain_for map_option is_boundary plains_plain
  word-known phone low high = by-test (is_boundary boundaries phone) edge inner
    where
      Known : ℕ → Type 0
      Known plain = T (plain_known header (contents_of lines).plains plain)

      edge : is_boundary boundaries phone ≡ true → Known (plain_given boundaries phone)
      edge q =
          let (b, i, h, first) = first_some (λ b. eqb b.phone phone) boundaries (rw q tt) in
          let fits : BoundaryFits header _ b = (all_in (BoundaryFits header) 0 boundaries fit.boundaries b i).1 in
          let named : plain_given boundaries phone ≡ b.plain = rw (plain_given, plain_for, first) in
          let inner : T (not (is_boundary boundaries b.plain)) =
          in-every (λ b. not (is_boundary boundaries b.plain)) boundaries orderly.plain b i in
          subst Known (sym named) ((T_and (leb b.plain header.phones)
          (eqb ((contents_of lines).plains ! (b.plain - 1)) 0)).1 (
            le→leb _ _ fits.plain_high,
            eq→eqb _ 0 (plain_word b.plain fits.plain_low fits.plain_high ∙ inner-word b.plain inner),
          ))

      inner : is_boundary boundaries phone ≡ false → Known (plain_given boundaries phone)
      inner q =
          subst Known (sym (inner-word phone (rw q tt))) ((T_and (leb 0 header.phones)
          (eqb ((contents_of lines).plains ! 0) 0)).1 (le→leb 0 header.phones (omega arith), eq→eqb _ 0 first_word))

  pub accepted-plains : T (plains_known header (contents_of lines).plains)
  unfolding plains_known contents_of plain_words
  accepted-plains =
      (T_and (eqb ((contents_of lines).plains ! 0) 0)
      (every (plain_known header (contents_of lines).plains) (contents_of lines).plains)).1 (
        eq→eqb _ 0 first_word,
        every_in (plain_known header (contents_of lines).plains) (contents_of lines).plains (λ plain i.
            let (phone, among, q) = of_map (plain_given boundaries) plain (up_from 1 header.phones) i in
            let (low, high) = of-up_from 1 header.phones phone among in
            subst (λ n. T (plain_known header (contents_of lines).plains n)) (sym q)
            (word-known phone low (omega (arith, high)))),
      )

  -- ---- whole phones in the tables

  module _ (phone : ℕ) (low : 1 ≤ phone) (high : phone ≤ header.phones) where
    spot : (state : ℕ) → 1 ≤ state → state ≤ states → Spot states phone state
    spot state s S = record { phone_low = low; state_low = s; state_high = S }

    word_at : (state : ℕ) → 1 ≤ state → state ≤ states
        → (contents_of lines).roots ! root_place states phone state ≡ root_given roots phone state
    unfolding contents_of root_words root_count
    word_at state s S = at-spot (root_given roots) (spot state s S) high

    edge-word : T (is_boundary boundaries phone) → (contents_of lines).plains ! (phone - 1) ≢ 0
    unfolding plain_given plain_for map_option is_boundary
    edge-word edge e =
        let (b, i, h, first) = first_some (λ b. eqb b.phone phone) boundaries edge in
        let fits : BoundaryFits header _ b = (all_in (BoundaryFits header) 0 boundaries fit.boundaries b i).1 in
        let named : plain_given boundaries phone ≡ b.plain = rw (plain_given, plain_for, first) in
        omega (arith, sym (plain_word phone low high) ∙ e, named, fits.plain_low)

    settled : (state : ℕ) → 1 ≤ state → state ≤ states → Settled (is_boundary boundaries) roots phone state
    unfolding root_count
    settled state s S = accepted-settled phone state (spot state s S) (spot-within (spot state s S) high)

    -- "Its R lines may be left out all together": all are given, or none
    pub accepted-whole : WholePhone header (contents_of lines).plains (contents_of lines).roots phone
    accepted-whole = ⊎_elim all none_of (settled 1 (omega arith) orderly.in-range.states_range.low)
      where
        listed : (state : ℕ) → Given roots phone state → root_given roots phone state < header.nodes
        listed state g =
            let (x, j, found) = given-found roots phone state g in
            rw (root-word roots phone state x.node found)
            (all_in (RootFits header) 0 roots fit.roots x j).1.listed

        all : Given roots phone 1 → WholePhone header (contents_of lines).plains (contents_of lines).roots phone
        all (r, i, p, q) = inl (λ state s S.
            rw (word_at state s S)
            (⊎_elim (listed state) (λ out. absurd (out.1 r i p)) (settled state s S)))

        none_of : T (is_boundary boundaries phone) × Absent roots phone
            → WholePhone header (contents_of lines).plains (contents_of lines).roots phone
        none_of (edge, absent) = inr (
          edge-word edge,
          λ state s S.
              word_at state s S ∙ no_word roots phone state (absent_none roots phone state absent),
        )

  pub accepted-roots : T (roots_known header (contents_of lines).plains (contents_of lines).roots)
  accepted-roots = (roots-parts header (contents_of lines).plains (contents_of lines).roots).1 accepted-whole

  pub accepted-sound : Sound (book_of lines)
  unfolding book_of contents_of
  accepted-sound =
      let heads = orderly-heads lines orderly in
      fitting-sound header (contents_of lines) orderly.in-range heads fit.nodes
      (force-listed header (contents_of lines) refl refl (sym heads.plains) orderly.in-range.states_range.low
      accepted-plains accepted-roots)
