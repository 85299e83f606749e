-- The tables of an accepted book are known: the test for foreign tables passes on what reading leaves, so
-- combining never refuses it by 18. Each line passed tests that ask the same of its numbers, and the H line
-- those that ask for wide enough tables.
use Rattle.std.specs.Prelude.{◌≡◌, refl, ◌↔◌, Bool, true, ◌&&◌, ◌||◌, T, leb, ltb, length, drop}
use Rattle.std.proofs.Common.{sym, ap, ap₂, ◌∙◌, subst, inl, inr, leb→le, le→leb, lt→ltb, eqb→eq, length-drop, take-append-drop, drop_at, length-take-le, le-leb, arith}
use mathlib.Core.List.{List, [], ◌∷◌, map}
use Prim.Native.Nat.{ℕ, suc, ◌-◌, ◌*◌, ◌^◌, ◌≤◌, ◌<◌}
use Prim.Native.Char.{code}
use Rattle.std.proofs.Math.Dec.{eqb}
use Rattle.std.proofs.Math.ListN.{take}
use Rattle.definitions.specs.declared.Fault.TheVariants.{Choices}
use Rattle.definitions.specs.declared.Header.{Header}
use Rattle.definitions.specs.Lists.{every, select, concat_map, up_from, cleared, padded, IsIn}
use Rattle.definitions.specs.Faults.{answered, judge, ◌unless◌}
use Rattle.definitions.specs.Forms.{Range, ◌‥◌}
use Rattle.definitions.specs.Lines.{form_of, in_ranges, in_fixed_ranges}
use Rattle.definitions.specs.BookLines.{BookLine, book_line, header_of, root_count, Member, members_of, TreeNode}
use Rattle.definitions.specs.BookLines.{question, leaf, nodes_of, roots_of, root_words, root_names}
use Rattle.definitions.specs.BookReading.{Lent, node_size, wide_enough, read_book, orphans}
use Rattle.definitions.specs.Tables.{book_of, phones_of_class, class_sets, node_words, node_of, node_records, Tables}
use Rattle.definitions.specs.Tables.{tables_of, tables_left, contents_of, tables_contents}
use Rattle.definitions.specs.ForeignTables.{header_known, question_known, leaf_known, nodes_known, holds_only}
use Rattle.definitions.specs.ForeignTables.{node_table_known, class_table_known, root_table_known, named_once}
use Rattle.definitions.specs.ForeignTables.{tables_known, plains_known, plain_table_known, roots_known}
use Rattle.definitions.specs.PhoneSets.{set_of}
use Rattle.definitions.specs.Combinations.{combinations, combination_room, combine}
use Rattle.definitions.specs.Ranges.{Within, InRange}
use Rattle.definitions.proofs.Laws.Lists.Selected.{of-select}
use Rattle.definitions.proofs.Laws.Books.NamedOnce.{orphans-same}
use Rattle.definitions.proofs.Laws.Books.Ordered.{accepted-ordered}
use Rattle.definitions.proofs.Laws.Lists.Tests.{T_and, T-three, if-true}
use Rattle.definitions.proofs.Laws.Lists.Lists.{padded-length, padded-take, every-replicate}
use Rattle.definitions.proofs.Laws.Lists.Members.{of_map, every_in}
use Rattle.definitions.proofs.Laws.Lists.Records.{flat-length}
use Rattle.definitions.proofs.Laws.Text.Ranges.{line-ranged}
use Rattle.definitions.proofs.Laws.Books.Tables.{Heads, node-sized, tables-records, tables-contents}
use Rattle.definitions.proofs.Laws.Books.Books.{Roomy, roomy, Orderly, accepted-holds, accepted-orderly}
use Rattle.definitions.proofs.Laws.Books.Books.{orderly-heads, accepted-book}
use Rattle.definitions.proofs.Laws.Books.Accepted.{AllFrom, NodeFits, MemberFits, AllFit, accepted-fit, all_in}
use Rattle.definitions.proofs.Laws.Books.KnownRecords.{record-exactly, known-first}
use Rattle.definitions.proofs.Laws.Matrices.PhoneSets.{set_of-below}
use Rattle.definitions.proofs.Laws.Books.TreesInForce.{accepted-plains, accepted-roots}

-- ---- the header

pub within-passes : (r : Range) (n : ℕ) → Within r n → (leb r.lowest n && leb n r.highest) ≡ true
within-passes r n w = rw (le-leb r.lowest n w.low, le-leb n r.highest w.high)

pub header-known : (header : Header) → InRange header → T (header_known header)
unfolding header_known in_ranges
header-known header r =
    rw (
      within-passes (0 ‥ 3) header.half r.half_range,
      within-passes (1 ‥ 3) header.states r.states_range,
      within-passes (1 ‥ 64) header.phones r.phones_range,
      within-passes (0 ‥ 255) header.classes r.classes_range,
      within-passes (1 ‥ 4096) header.nodes r.nodes_range,
    ) tt

-- and is in range
pub header-ranges : (header : Header) → T (header_known header) → InRange header
unfolding header_known in_fixed_ranges form_of book_line
header-ranges header h =
    let numbers : List ℕ =
    header.half ∷ header.states ∷ header.phones ∷ header.classes ∷ header.nodes ∷ [] in
    line-ranged (record { letter = code "H"; numbers = numbers }) h

-- ---- the parts of the test for foreign tables

pub record KnownParts (header : Header) (tables : Tables) : Type 0 where
  pub own : T (header_known header)
  pub nodes : T (node_table_known header tables.nodes)
  pub classes : T (class_table_known header tables.classes)
  pub plains : T (plain_table_known header tables.plains)
  pub roots : T (root_table_known header (take header.phones tables.plains) tables.roots)
  pub once : T (named_once (tables_contents header tables))

pub tables-parts : (header : Header) (tables : Tables)
    → T (tables_known header tables) ↔ KnownParts header tables
unfolding tables_known
tables-parts header tables =
    let nodes : Bool = node_table_known header tables.nodes in
    let classes : Bool = class_table_known header tables.classes in
    let plains : Bool = plain_table_known header tables.plains in
    let roots : Bool = root_table_known header (take header.phones tables.plains) tables.roots in
    let once : Bool = named_once (tables_contents header tables) in
    let first = T_and (header_known header) nodes in
    let middle = T-three (header_known header && nodes) classes plains in
    let last = T-three (header_known header && nodes && classes && plains) roots once in (
      λ h.
          let (before, r, o) = last.0 h in
          let (start, c, p) = middle.0 before in
          let (k, n) = first.0 start in
          record { own = k; nodes = n; classes = c; plains = p; roots = r; once = o },
      λ p. last.1 (middle.1 (first.1 (p.own, p.nodes), p.classes, p.plains), p.roots, p.once),
    )

-- ---- padded tables

-- there is nothing beyond the used words
pub holds-used : (size count : ℕ) (used : List ℕ) → count ≡ length used → count ≤ size
    → T (holds_only count (padded size used))
unfolding holds_only padded
holds-used size count used e w =
    let words : List ℕ = padded size used in
    let zero : (ℕ → Bool) = λ word. eqb word 0 in
    (T_and (leb count (length words)) (every zero (drop count words))).1 (
      rw (padded-length size used (subst (λ n. n ≤ size) e w)) (le→leb count size w),
      rw (drop_at used _ count (sym e)) (every-replicate zero (size - length used) 0 tt),
    )

-- and each of these passes a test
words-known : (size count : ℕ) (used : List ℕ) (test : ℕ → Bool) → count ≡ length used → count ≤ size
    → ((word : ℕ) → IsIn word used → T (test word))
    → T (holds_only count (padded size used) && every test (take count (padded size used)))
words-known size count used test e w h =
    (T_and (holds_only count (padded size used)) (every test (take count (padded size used)))).1
    (holds-used size count used e w, rw (padded-take size count used e) (every_in test used h))

zeros-cleared : (l : List ℕ) → T (every (λ word. eqb word 0) l) → l ≡ cleared (length l)
unfolding every
zeros-cleared [] h = refl
zeros-cleared (x ∷ l) h =
    let (first, rest) = (T_and (eqb x 0) (every (λ word. eqb word 0) l)).0 h in
    ap₂ (λ (y : ℕ) (k : List ℕ). y ∷ k) (eqb→eq x 0 first) (zeros-cleared l rest)

-- a table that holds only its first words has these, and zeros beyond
pub holds-padded : (count : ℕ) (words : List ℕ) → T (holds_only count words)
    → (count ≤ length words) × (words ≡ padded (length words) (take count words))
unfolding holds_only padded
holds-padded count words h =
    let (room, zeros) = (T_and (leb count (length words)) (every (λ word. eqb word 0) (drop count words))).0 h in
    let within : count ≤ length words = leb→le _ _ room in
    let rest : drop count words ≡ cleared (length words - count) =
    zeros-cleared (drop count words) zeros ∙ ap cleared (length-drop count words) in
    (within, sym (take-append-drop count words) ∙ rw (rest, length-take-le count words within))

-- ---- nodes: records as their lines leave them

node_known : (header : Header) (at : ℕ) (node : TreeNode) → NodeFits header at node
    → T (question_known header at (node_of (node_words node)) || leaf_known (node_of (node_words node)))
unfolding node_of node_words
node_known header at (question asked yes_node no_node) f =
    (record-exactly header at (node_of (node_words (question asked yes_node no_node)))).1 (inl (refl, f))
node_known header at (leaf model) f =
    (record-exactly header at (node_of (node_words (leaf model)))).1 (inr (refl, f, refl, refl, refl))

nodes-known : (header : Header) (at : ℕ) (nodes : List TreeNode) → AllFrom (NodeFits header) at nodes
    → T (nodes_known header at (map node_of (map node_words nodes)))
unfolding nodes_known
nodes-known header at [] h = tt
nodes-known header at (node ∷ nodes) h =
    (known-first header at (node_of (node_words node)) (map node_of (map node_words nodes))).1
    (node_known header at node h.0, nodes-known header (suc at) nodes h.1)

node-table-known : (header : Header) (size : ℕ) (nodes : List TreeNode) → header.nodes ≡ length nodes
    → node_size * header.nodes ≤ size → AllFrom (NodeFits header) 0 nodes
    → T (node_table_known header (padded size (concat_map node_words nodes)))
unfolding node_table_known
node-table-known header size nodes e w h =
    let count : node_size * header.nodes ≡ length (concat_map node_words nodes) =
    ap (λ (n : ℕ). node_size * n) e ∙ sym (flat-length node_words node_size node-sized nodes) in
    let words : List ℕ = padded size (concat_map node_words nodes) in
    (T_and (holds_only (node_size * header.nodes) words) (nodes_known header 0 (node_records header words))).1 (
      holds-used size (node_size * header.nodes) (concat_map node_words nodes) count w,
      rw (tables-records header size nodes e) (nodes-known header 0 nodes h),
    )

-- ---- classes: sets of phones up to the header's

module _ (header : Header) (members : List Member) (fit : AllFrom (MemberFits header) 0 members) where
  class-phones : (class p : ℕ) → IsIn p (phones_of_class class members) → T (leb p header.phones)
  unfolding phones_of_class
  class-phones class p i =
      let own : (Member → Bool) = λ m. eqb m.class class in
      let (m, chosen, e) = of_map (λ (m : Member). m.phone) p (select own members) i in
      let member : IsIn m members = (of-select own m members chosen).0 in
      rw e (le→leb _ _ (all_in (MemberFits header) 0 members fit m member).1)

  class-below : (class : ℕ) → set_of (phones_of_class class members) < 2 ^ header.phones
  class-below class =
      set_of-below header.phones (phones_of_class class members) (every_in _ _ (class-phones class))

  classes-below : (set : ℕ) → IsIn set (class_sets header.classes members)
      → T (ltb set (2 ^ header.phones))
  unfolding class_sets
  classes-below set i =
      let sets : (ℕ → ℕ) = λ class. set_of (phones_of_class class members) in
      let (class, listed, e) = of_map sets set (up_from 1 header.classes) i in
      rw e (lt→ltb _ _ (class-below class))

-- ---- the tables of an accepted book

pub accepted-wide : (lent : Lent) (text : List ℕ) (lines : List BookLine) → read_book lent text ≡ answered lines
    → T (wide_enough lent (header_of lines))
unfolding header_of
accepted-wide lent text lines e =
    (accepted-holds lent (λ lines. T (wide_enough lent (header_of lines)))
    (λ half states phones classes nodes f. f.wide) (λ before line e wide f. rw e wide) text lines e).holds

module _ (lent : Lent) (text : List ℕ) (lines : List BookLine) (e : read_book lent text ≡ answered lines) where
  abbrev header : Header
  header = header_of lines

  abbrev tables : Tables
  tables = tables_of lent (contents_of lines)

  orderly : Orderly lines
  orderly = accepted-orderly lent text lines e

  heads : Heads header (contents_of lines)
  heads = orderly-heads lines orderly

  fit : AllFit header lines
  fit = accepted-fit lent text lines e

  room : Roomy lent header
  room = roomy lent header (accepted-wide lent text lines e)

  known-nodes : T (node_table_known header tables.nodes)
  unfolding tables_of contents_of
  known-nodes = node-table-known header lent.nodes (nodes_of lines) heads.nodes room.nodes fit.nodes

  known-classes : T (class_table_known header tables.classes)
  unfolding class_table_known tables_of contents_of
  known-classes = words-known lent.classes header.classes (contents_of lines).classes _
      heads.classes room.classes (classes-below header (members_of lines) fit.members)

  -- each plain phone is a phone and no boundary phone, and each phone's roots are nodes or left out all together
  known-plains : T (plain_table_known header tables.plains)
  unfolding plain_table_known tables_of
  known-plains =
      let words : List ℕ = padded lent.plains (contents_of lines).plains in
      (T_and (holds_only header.phones words) (plains_known header (take header.phones words))).1 (
        holds-used lent.plains header.phones (contents_of lines).plains heads.plains room.plains,
        rw (padded-take lent.plains header.phones (contents_of lines).plains heads.plains)
            (accepted-plains lent text lines e),
      )

  known-roots : T (root_table_known header (take header.phones tables.plains) tables.roots)
  unfolding root_table_known tables_of
  known-roots =
      let words : List ℕ = padded lent.roots (contents_of lines).roots in
      let plains : List ℕ = take header.phones (padded lent.plains (contents_of lines).plains) in
      (T_and (holds_only (root_count header) words) (roots_known header plains (take (root_count header) words))).1 (
        holds-used lent.roots (root_count header) (contents_of lines).roots heads.roots room.roots,
        rw (
          padded-take lent.plains header.phones (contents_of lines).plains heads.plains,
          padded-take lent.roots (root_count header) (contents_of lines).roots heads.roots,
        ) (accepted-roots lent text lines e),
      )

  -- the words of the table name the nodes that the lines name: what is left out is no node
  names_same : orphans (contents_of lines).nodes (contents_of lines).roots
      ≡ orphans (nodes_of lines) (root_names (roots_of lines))
  unfolding contents_of
  names_same =
      orphans-same (nodes_of lines) (root_words header (roots_of lines)) (root_names (roots_of lines))
      (omega (arith, orderly.nodes, orderly.in-range.nodes_range.high)) (accepted-ordered lent text lines e).named

  known-names : T (named_once (tables_contents header tables))
  unfolding named_once
  known-names = rw (tables-contents header lent (contents_of lines) heads, names_same, orderly.named-once) tt

  all_known : T (tables_known header tables)
  all_known =
      (tables-parts header tables).1 (record {
        own = header-known header orderly.in-range;
        nodes = known-nodes;
        classes = known-classes;
        plains = known-plains;
        roots = known-roots;
        once = known-names;
      })

  pub accepted-known : T (tables_known (header_of lines) (tables_left lent (read_book lent text)))
  unfolding tables_left
  accepted-known = rw e all_known

  -- so nothing but too many combinations is refused where an accepted book's tables are combined
  pub accepted-not-foreign : (space : ℕ)
      → combine (header_of lines) (tables_left lent (read_book lent text)) space
      ≡ judge 0
      (Choices unless leb (length (combinations (book_of lines))) (combination_room (header_of lines).half space)
      ∷ [])
      (answered (combinations (book_of lines)))
  unfolding combine judge
  accepted-not-foreign space =
      if-true (tables_known (header_of lines) (tables_left lent (read_book lent text))) _ _ accepted-known
      ∙ rw (accepted-book lent text lines e)
