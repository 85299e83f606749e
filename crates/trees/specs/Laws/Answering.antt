-- Laws about the answers of the lookup, one for each way that the code returns.
use Rattle.std.specs.Prelude.{◌≡◌, refl, List, map, Result, Ok, Err, true, ◌&&◌, ℕ, ◌*◌, ◌<◌, ltb, length}
use Rattle.std.proofs.Common.{sym, ap, ◌∙◌, arith}
use Rattle.std.proofs.Math.Bool.{Bool, false, and_assoc, and_comm}
use Rattle.std.proofs.lemmas.Bool.{false≢true}
use Rattle.std.proofs.Math.Dec.{T, eqb, ltb→lt, eqb→eq}
use Rattle.definitions.specs.declared.Header.{Header}
use Rattle.definitions.specs.declared.Node.{Node}
use Rattle.definitions.specs.declared.Fault.{Fault}
use Rattle.definitions.specs.declared.Fault.TheVariants.{Foreign, Range}
use Rattle.definitions.specs.declared.Refusal.{Refusal}
use Rattle.definitions.specs.Faults.{judge}
use Rattle.definitions.specs.Said.{result_of}
use Rattle.definitions.specs.BookReading.{node_size}
use Rattle.definitions.specs.Tables.{tree_node, node_records}
use Rattle.definitions.specs.ForeignTables.{header_known, nodes_known, holds_only, class_table_known}
use Rattle.definitions.specs.Lookup.{reached, lookup_known, is_context, leaf_lookup, leaf_lookup_in_table}
use Rattle.definitions.proofs.Laws.Lists.Tests.{T-three, T_and, by-test}
use Rattle.definitions.proofs.Laws.Books.AcceptedKnown.{header-ranges}
use Rattle.tables.specs.Usable.{tree_nodes}
use Rattle.trees.specs.declared.Walked.{Walked}
use Rattle.trees.specs.Answers.{walked_of}
use Rattle.trees.specs.Laws.Agreement.{tables_agree}
use Rattle.trees.specs.Laws.Walking.{Walking}

abbrev pub at-no-line : Fault → Refusal
at-no-line fault = record { fault = fault; line = 0 }

both : (a b : Bool) → (a && b) ≡ true → (a ≡ true) × (b ≡ true)
both true b e = (refl, e)
both false b e = absurd (false≢true e)

-- ---- the lookup over records: 18, then 13

module _ (header : Header) (classes : List ℕ) (nodes : List Node) (root : ℕ) (context : List ℕ) where
  -- all but the records are tested first
  abbrev pub listed : Bool
  listed = header_known header && eqb (length nodes) header.nodes && class_table_known header classes && ltb root header.nodes

  pub records-last : lookup_known header classes nodes root ≡ (listed && nodes_known header 0 nodes)
  unfolding lookup_known
  records-last =
      shuffled (header_known header) (eqb (length nodes) header.nodes) (nodes_known header 0 nodes)
      (class_table_known header classes) (ltb root header.nodes)
    where
      shuffled : (a b c d e : Bool) → (a && b && c && d && e) ≡ ((a && b && d && e) && c)
      shuffled true true c d e = and_assoc c d e ∙ and_comm c (d && e)
      shuffled true false c d e = refl
      shuffled false b c d e = refl

  -- then there are as many records as the header says
  pub listed-counted : listed ≡ true → length nodes ≡ header.nodes
  listed-counted e =
      let counted : Bool = eqb (length nodes) header.nodes in
      let front = ((T-three (header_known header && counted) (class_table_known header classes)
      (ltb root header.nodes)).0 (rw e tt)).0 in
      eqb→eq _ _ ((T_and (header_known header) counted).0 front).1

  pub records-foreign : lookup_known header classes nodes root ≡ false
      → Err (at-no-line Foreign) ≡ result_of walked_of (leaf_lookup header classes nodes root context)
  unfolding leaf_lookup judge result_of
  records-foreign h = rw h

  module _ (h : lookup_known header classes nodes root ≡ true) where
    pub records-range : is_context header context ≡ false
        → Err (at-no-line Range) ≡ result_of walked_of (leaf_lookup header classes nodes root context)
    unfolding leaf_lookup judge result_of
    records-range e = rw (h, e)

    pub records-leaf : is_context header context ≡ true → (walked : Walked)
        → walked ≡ walked_of (reached (map tree_node nodes) classes context root)
        → Ok walked ≡ result_of walked_of (leaf_lookup header classes nodes root context)
    unfolding leaf_lookup judge result_of
    records-leaf e walked own = rw (h, e, own)

    pub records-counted : length nodes ≡ header.nodes
    records-counted = listed-counted (both listed (nodes_known header 0 nodes) (sym records-last ∙ h)).0

    -- what a walk asks of the records
    pub records-fit : T (nodes_known header 0 nodes) × (root < header.nodes)
    unfolding lookup_known
    records-fit =
        let all : T (lookup_known header classes nodes root) = rw h tt in
        let counted : Bool = eqb (length nodes) header.nodes in
        let known : Bool = nodes_known header 0 nodes in
        let last = (T-three (header_known header && counted && known) (class_table_known header classes)
        (ltb root header.nodes)).0 all in
        (((T-three (header_known header) counted known).0 last.0).2, ltb→lt _ _ last.2)

    -- and it has met few questions, wherever it stands
    pub passed-few : (node questions : ℕ) → Walking header nodes classes context root node questions
        → questions < 4096
    unfolding lookup_known
    passed-few node questions w =
        let all : T (lookup_known header classes nodes root) = rw h tt in
        let counted : Bool = eqb (length nodes) header.nodes in
        let known : Bool = nodes_known header 0 nodes in
        let front = ((T-three (header_known header && counted && known) (class_table_known header classes)
        (ltb root header.nodes)).0 all).0 in
        let own = ((T-three (header_known header) counted known).0 front).0 in
        omega (arith, w.listed, w.further, (header-ranges header own).nodes_range.high)

-- ---- the same over the table of their words

module _ (header : Header) (words classes : List ℕ) (root : ℕ) (context : List ℕ) where
  abbrev held : Bool
  held = holds_only (node_size * header.nodes) words

  abbrev known : Bool
  known = lookup_known header classes (node_records header words) root

  abbrev Says : Result Walked Refusal → Type 0
  Says found = found ≡ result_of walked_of (leaf_lookup_in_table header classes words root context)

  in_table : {found : Result Walked Refusal} → held ≡ true
      → found ≡ result_of walked_of (leaf_lookup header classes (node_records header words) root context) → Says found
  in_table e h = h ∙ ap (result_of walked_of) (sym (tables_agree header classes words root context (rw e tt)))

  pub lookup-foreign : (held && known) ≡ false → Says (Err (at-no-line Foreign))
  unfolding leaf_lookup_in_table judge result_of
  lookup-foreign h =
      by-test held
      (λ e. let other : known ≡ false = rw e at h in
      in_table e (records-foreign header classes (node_records header words) root context other))
      (λ e. rw e)

  module _ (h : (held && known) ≡ true) where
    pub lookup-range : is_context header context ≡ false → Says (Err (at-no-line Range))
    lookup-range e =
        let (words-held, all) = both held known h in
        in_table words-held (records-range header classes (node_records header words) root context all e)

    pub lookup-leaf : is_context header context ≡ true → (walked : Walked)
        → walked ≡ walked_of (reached (tree_nodes header words) classes context root) → Says (Ok walked)
    lookup-leaf e walked own =
        let (words-held, all) = both held known h in
        in_table words-held (records-leaf header classes (node_records header words) root context all e walked own)

    pub lookup-fits : T (nodes_known header 0 (node_records header words)) × (root < header.nodes)
    lookup-fits = records-fit header classes (node_records header words) root context (both held known h).1
