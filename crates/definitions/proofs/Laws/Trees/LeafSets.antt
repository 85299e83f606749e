-- Demand 2's leaf sets: the matrix of a leaf is the set of the contexts with which the walk reaches the leaf. A
-- leaf admits a context when each column of its matrix has the phone in its place (`leaf_admits`); the walk is the
-- one that the code promises (`leaf_reached`, and of known tables `leaf_lookup_in_table`). The idea: of a tree's
-- leaves one admits a context, the one that the walk reaches (demand/Trees.antt), and no node is listed twice.
-- The width is a variable throughout.
use Rattle.std.specs.Prelude.{◌≡◌, ◌↔◌, not, ◌&&◌, T, leb, ltb, length, take, drop}
use Rattle.std.proofs.Math.Path.{refl, sym, ap}
use Rattle.std.proofs.Common.{◌∙◌, subst, inl, inr, arith, eqb→eq}
use mathlib.Core.List.{List, [], ◌∷◌}
use Rattle.std.proofs.Math.Bool.{Bool}
use Prim.Native.Nat.{ℕ, zero, suc, ◌+◌, ◌-◌, ◌*◌, ◌≤◌, ◌<◌}
use Rattle.std.proofs.Math.Dec.{eqb, lt→ltb}
use Rattle.definitions.specs.declared.Header.{Header}
use Rattle.definitions.specs.declared.Node.{Node}
use Rattle.definitions.specs.Faults.{Outcome, answered, and_then}
use Rattle.definitions.specs.Lists.{if◌then◌else◌, ◌!◌, every, select, IsIn}
use Rattle.definitions.specs.PhoneSets.{has}
use Rattle.definitions.specs.BookLines.{is_phone, TreeNode, Asked, Reached, past_question}
use Rattle.definitions.specs.Tables.{Book, root_of, book_in, Tables, node_records, tables_contents}
use Rattle.definitions.specs.Tables.{tables_book}
use Rattle.definitions.specs.ForeignTables.{header_known, nodes_known, holds_only, class_table_known}
use Rattle.definitions.specs.ForeignTables.{tables_known}
use Rattle.definitions.specs.Lookup.{answers, walk, reached, leaf_reached, lookup_known, is_context}
use Rattle.definitions.specs.Lookup.{leaf_lookup, leaf_lookup_in_table}
use Rattle.definitions.specs.Combinations.{Leaf, leaves_of}
use Rattle.definitions.proofs.Laws.Lists.Tests.{T_and, T-three, eq→eqb}
use Rattle.definitions.proofs.Laws.Lists.Members.{of-single}
use Rattle.definitions.proofs.Laws.Lists.Selected.{in-select, one_passes, map-one}
use Rattle.definitions.proofs.Laws.Lists.Rising.{Rising}
use Rattle.definitions.proofs.Laws.Text.Ranges.{phone_range}
use Rattle.definitions.proofs.Laws.Trees.Walks.{walk-leaf, walk-question, by-node}
use Rattle.definitions.proofs.Laws.Books.Sound.{columns_of, AllPhones, Sound}
use Rattle.definitions.proofs.Laws.Trees.Leaves.{below_all, of-ascending}
use Rattle.definitions.specs.BookReading.{ChildOnce}
use Rattle.definitions.proofs.Laws.Books.NamedOnce.{child-once}
use Rattle.definitions.proofs.Laws.Text.Judging.{pass-none, pass-more, judge-passing}
use Rattle.definitions.proofs.Laws.Books.Tables.{node-records-length}
use Rattle.definitions.proofs.Laws.Books.AcceptedKnown.{KnownParts, tables-parts}
use Rattle.definitions.proofs.Laws.Books.KnownBooks.{Stated, stated-sound, known-stated, node-table-parts}
use Rattle.definitions.proofs.Laws.Books.KnownBooks.{class-table-parts}
use Rattle.definitions.proofs.Laws.Trees.Ascending.{LeafBefore, leaves-ascend}
use Rattle.definitions.proofs.Demand.Carrier.{Carrier, top_of, fits, Wide, top-wide, top-centre, fits-top}
use Rattle.definitions.proofs.Demand.Carrier.{yes-wide, no-wide, fits-yes, fits-no}
use Rattle.definitions.proofs.Demand.Trees.{leaf_admits, one-leaf}

-- what the leaves of a phone's tree for a state are
pub record LeafSets (book : Book) (phone state : ℕ) : Type 0 where
  -- they stand in the order of their nodes, each once
  pub once : Rising LeafBefore (leaves_of book phone state)
  -- one admits a context exactly when the phone is in the context's centre and the walk from the root reaches it
  pub exactly : (context : List ℕ) → length context ≡ columns_of book → AllPhones book context
      → (l : Leaf) → IsIn l (leaves_of book phone state)
      → T (leaf_admits context l)
      ↔ ((context ! book.half ≡ phone)
      × (leaf_reached book.nodes book.classes context (root_of book phone state) ≡ l.node))
  -- and each context with the phone in its centre is admitted by one of them, and by no other
  pub one : (context : List ℕ) → length context ≡ columns_of book → AllPhones book context
      → context ! book.half ≡ phone
      → (l : Leaf) × (select (leaf_admits context) (leaves_of book phone state) ≡ l ∷ [])

-- ---- the steps

-- leaves of one node are one leaf, where no node is listed twice
same-leaf : (leaves : List Leaf) → Rising LeafBefore leaves → (x y : Leaf) → IsIn x leaves → IsIn y leaves
    → x.node ≡ y.node → x ≡ y
same-leaf [] r x y i j e = absurd i
same-leaf (z ∷ leaves) r x y (inl p) (inl q) e = p ∙ sym q
same-leaf (z ∷ leaves) r x y (inl p) (inr j) e =
    let first : x.node ≡ z.node = ap (λ l. l.node) p in
    absurd (omega (arith, r.0 y j))
same-leaf (z ∷ leaves) r x y (inr i) (inl q) e =
    let first : y.node ≡ z.node = ap (λ l. l.node) q in
    absurd (omega (arith, r.0 x i))
same-leaf (z ∷ leaves) r x y (inr i) (inr j) e = same-leaf leaves r.1 x y i j e

first_of : {test : Bool} (a b : Bool) → test ≡ (a && b) → T test → T a
first_of a b e t = ((T_and a b).0 (subst T e t)).0

module _ (book : Book) (sound : Sound book) (phone state : ℕ) (own : T (is_phone book.phones phone))
    (context : List ℕ)
  where
    abbrev leaves : List Leaf
    leaves = leaves_of book phone state

    abbrev reached_node : ℕ
    reached_node = leaf_reached book.nodes book.classes context (root_of book phone state)

    range : (1 ≤ phone) × (phone ≤ book.phones)
    range = (phone_range book.phones phone).0 own

    -- a leaf admits nothing that the root does not
    abbrev InTop : Carrier → Type 0
    InTop m = Wide book m × (T (fits m context) → T (fits (top_of book phone) context))

    leaf-in-top : (l : Leaf) → IsIn l leaves → InTop l.carried
    unfolding leaves_of
    leaf-in-top l i =
        (below_all book (λ m node. InTop m)
        (λ m node asked yes_node no_node e (w, h).
        let here = sound.position node asked yes_node no_node e in
        let answer : Bool = answers book.classes context asked in (
          (yes-wide w asked, λ t. h (first_of (fits m context) answer (fits-yes w asked here context) t)),
          (no-wide w asked, λ t. h (first_of (fits m context) (not answer) (fits-no w asked here context) t)),
        ))
        (length book.nodes) (top_of book phone) (root_of book phone state)
        (top-wide book phone range.1, λ t. t) l (of-ascending l _ i)).0

    -- the one leaf that admits the context has the node that the walk reaches
    the-leaf : T (fits (top_of book phone) context)
        → (l : Leaf) × (select (leaf_admits context) leaves ≡ l ∷ []) × (l.node ≡ reached_node)
    the-leaf h = map-one (λ l. l.node) _ reached_node (one-leaf book sound context phone state range.1 h)

    -- so a leaf that admits it is that one
    there : (l : Leaf) → IsIn l leaves → T (leaf_admits context l)
        → (context ! book.half ≡ phone) × (reached_node ≡ l.node)
    there l i t =
        let top = (leaf-in-top l i).1 t in
        let (k, alone, node) = the-leaf top in
        let same : l ≡ k = of-single k l (subst (IsIn l) alone (in-select (leaf_admits context) l leaves i t)) in
        (top-centre book phone range.0 context top, sym (ap (λ x. x.node) same ∙ node))

    module _ (long : length context ≡ columns_of book) (phones : AllPhones book context) where
      top-admits : context ! book.half ≡ phone → T (fits (top_of book phone) context)
      top-admits e =
          subst T (sym (fits-top book phone range.0 context long phones))
          (eq→eqb (context ! book.half) phone e)

      -- and a leaf of that node too
      back : ChildOnce book.nodes → (l : Leaf) → IsIn l leaves
          → (context ! book.half ≡ phone) × (reached_node ≡ l.node) → T (leaf_admits context l)
      back once l i (e, r) =
          let (k, alone, node) = the-leaf (top-admits e) in
          let (j, t) = one_passes (leaf_admits context) leaves k alone in
          let rising = leaves-ascend book sound.forward once phone state in
          subst (λ x. T (leaf_admits context x)) (same-leaf leaves rising k l j i (node ∙ r)) t

      the_one : context ! book.half ≡ phone → (l : Leaf) × (select (leaf_admits context) leaves ≡ l ∷ [])
      the_one e = let (l, alone, node) = the-leaf (top-admits e) in (l, alone)

-- of every sound book in which no node is a child twice: a leaf below two nodes would have two matrices
pub leaf-sets : (book : Book) → Sound book → ChildOnce book.nodes
    → (phone state : ℕ) → T (is_phone book.phones phone) → LeafSets book phone state
leaf-sets book sound once phone state own = record {
  once = leaves-ascend book sound.forward once phone state;
  exactly = λ context long phones l i. (
    there book sound phone state own context l i,
    back book sound phone state own context long phones once l i,
  );
  one = λ context long phones. the_one book sound phone state own context long phones;
}

-- ---- of known tables, with the definition that the lookup of a leaf promises

answered-same : (m n : ℕ) → answered m ≡ answered n → m ≡ n
answered-same m n e = cc

-- a table that holds only 0 beyond its first words has at every place what these have there
zeros-at : (l : List ℕ) → T (every (λ word. eqb word 0) l) → (i : ℕ) → l ! i ≡ 0
unfolding every
zeros-at [] h i = refl
zeros-at (x ∷ l) h zero = eqb→eq x 0 ((T_and (eqb x 0) (every (λ word. eqb word 0) l)).0 h).0
zeros-at (x ∷ l) h (suc i) = zeros-at l ((T_and (eqb x 0) (every (λ word. eqb word 0) l)).0 h).1 i

taken_at : (count : ℕ) (words : List ℕ) → T (every (λ word. eqb word 0) (drop count words))
    → (i : ℕ) → take count words ! i ≡ words ! i
taken_at zero words h i = sym (zeros-at words h i)
taken_at (suc count) [] h i = refl
taken_at (suc count) (x ∷ words) h zero = refl
taken_at (suc count) (x ∷ words) h (suc i) = taken_at count words h i

-- a walk asks of the classes only what their sets are
module _ (nodes : List TreeNode) (classes others context : List ℕ)
    (alike : (i : ℕ) → classes ! i ≡ others ! i) where
  same_answer : (asked : Asked) → answers classes context asked ≡ answers others context asked
  unfolding answers
  same_answer asked = ap (has (context ! asked.position)) (alike (asked.class - 1))

  walk-alike : (steps node : ℕ) → walk steps nodes classes context node ≡ walk steps nodes others context node
  unfolding walk
  walk-alike zero node = refl
  walk-alike (suc steps) node =
      by-node nodes node
      (λ model e. walk-leaf nodes classes context steps node model e
      ∙ sym (walk-leaf nodes others context steps node model e))
      (λ asked yes_node no_node e.
      walk-question nodes classes context steps node asked yes_node no_node e
      ∙ rw (same_answer asked)
      (ap past_question (walk-alike steps (if answers others context asked then yes_node else no_node)))
      ∙ sym (walk-question nodes others context steps node asked yes_node no_node e))

-- the leaf of what a lookup answers
abbrev pub leaf_answered : Outcome Reached → Outcome ℕ
leaf_answered found = and_then found (λ r. answered r.leaf)

context-parts : (header : Header) (context : List ℕ) → T (is_context header context)
    → (length context ≡ header.half + header.half + 1) × T (every (is_phone header.phones) context)
unfolding is_context
context-parts header context h =
    let width : ℕ = 2 * header.half + 1 in
    let parts = (T_and (eqb (length context) width) (every (is_phone header.phones) context)).0 h in
    (omega (arith, eqb→eq (length context) width parts.0), parts.1)

module _ (header : Header) (tables : Tables) (known : T (tables_known header tables)) where
  abbrev book : Book
  book = tables_book header tables

  stated : Stated header (tables_contents header tables)
  stated = known-stated header tables known

  parts : KnownParts header tables
  parts = (tables-parts header tables).0 known

  sound : Sound book
  unfolding tables_book
  sound =
      stated-sound header (tables_contents header tables) stated

  pub known-leaf-sets : (phone state : ℕ) → T (is_phone header.phones phone)
      → LeafSets (tables_book header tables) phone state
  unfolding tables_book book_in tables_contents
  known-leaf-sets phone state own =
      leaf-sets book sound (child-once _ _ sound.forward stated.named-once) phone state own

  -- the lookup in the tables answers the leaf that the walk reaches in their book
  module _ (root : ℕ) (listed : root < header.nodes)
      (context : List ℕ) (own : T (is_context header context)) where
    lookup-known : T (lookup_known header tables.classes (node_records header tables.nodes) root)
    unfolding lookup_known
    lookup-known =
        let nodes : List Node = node_records header tables.nodes in
        let counted : Bool = eqb (length nodes) header.nodes in
        let all : Bool = nodes_known header 0 nodes in
        (T-three (header_known header && counted && all) (class_table_known header tables.classes)
        (ltb root header.nodes)).1 (
          (T-three (header_known header) counted all).1 (
            parts.own,
            eq→eqb (length nodes) header.nodes (node-records-length header tables.nodes),
            (node-table-parts header tables.nodes parts.nodes).1,
          ),
          parts.classes,
          lt→ltb root header.nodes listed,
        )

    same-classes : (i : ℕ) → tables.classes ! i ≡ take header.classes tables.classes ! i
    unfolding holds_only
    same-classes i =
        let held = (class-table-parts header tables.classes parts.classes).0 in
        sym (taken_at header.classes tables.classes
        ((T_and (leb header.classes (length tables.classes)) _).0 held).1 i)

    lookup-reached : leaf_lookup_in_table header tables.classes tables.nodes root context
        ≡ answered (reached book.nodes book.classes context root)
    unfolding leaf_lookup_in_table leaf_lookup tables_book book_in tables_contents reached
    lookup-reached =
        judge-passing 0 _ _ (pass-more _ _ (node-table-parts header tables.nodes parts.nodes).0 pass-none)
        ∙ judge-passing 0 _ _ (pass-more _ _ lookup-known (pass-more _ _ own pass-none))
        ∙ ap answered (walk-alike _ tables.classes _ context same-classes _ root)

  -- so a leaf admits a context exactly when the phone is in its centre and the lookup in the tables answers it
  pub known-leaf-looked-up : (phone state : ℕ) → T (is_phone header.phones phone)
      → (context : List ℕ) → T (is_context header context)
      → (l : Leaf) → IsIn l (leaves_of (tables_book header tables) phone state)
      → T (leaf_admits context l)
      ↔ ((context ! header.half ≡ phone)
      × (leaf_answered (leaf_lookup_in_table header tables.classes tables.nodes
      (root_of (tables_book header tables) phone state) context) ≡ answered l.node))
  unfolding tables_book book_in tables_contents and_then
  known-leaf-looked-up phone state own context c l i =
      let root : ℕ = root_of book phone state in
      let listed : root < header.nodes = omega (arith, sound.root phone state, stated.heads.nodes) in
      let looked = ap leaf_answered (lookup-reached root listed context c) in
      let (long, phones) = context-parts header context c in
      let (there, back) = (known-leaf-sets phone state own).exactly context long phones l i in (
        λ t. let (e, r) = there t in (e, looked ∙ ap answered r),
        λ (e, r). back (e, answered-same _ l.node (sym looked ∙ r)),
      )
