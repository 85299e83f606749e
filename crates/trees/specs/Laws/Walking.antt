-- Laws about a walk's turn, over records that N and L lines leave: the child that a question goes to is a
-- greater node, and from there the walk goes on with one step less and one question more.
use Rattle.std.specs.Prelude.{if◌then◌else◌, ◌≡◌, List, map, T, length, drop}
use Rattle.std.proofs.Math.Path.{refl, ap}
use Rattle.std.proofs.Common.{sym, ap₂, ◌∙◌, eq-eqb, ne_eqb}
use Prim.Native.Nat.{ℕ, zero, suc, ◌+◌, ◌-◌, ◌*◌, ◌≤◌, ◌<◌}
use Rattle.std.proofs.Math.Nat.{sub-zero}
use native.Mathlib.Omega.{arith}
use Rattle.std.proofs.lemmas.List.{length-map}
use Rattle.definitions.specs.declared.Header.{Header}
use Rattle.definitions.specs.declared.Node.{Node}
use Rattle.definitions.specs.BookLines.{Reached, past_question}
use Rattle.definitions.specs.BookReading.{node_size}
use Rattle.definitions.specs.Tables.{node_of, tree_node, asked_of}
use Rattle.definitions.specs.ForeignTables.{nodes_known}
use Rattle.definitions.specs.Lookup.{node_at, answers, walk, reached, leaf_reached, model_at}
use Rattle.definitions.proofs.Laws.Trees.Walks.{walk-leaf, walk-question, either-node, model-at}
use Rattle.tables.specs.Usable.{tree_nodes}
use Rattle.tables.specs.Laws.KnownTables.{node-listed, leaf-is, record-fits}
use Rattle.trees.specs.declared.Walked.{Walked}
use Rattle.trees.specs.Answers.{walked_of}
use Rattle.tables.specs.Records.{record_at}

module _ (header : Header) (nodes : List Node) (classes context : List ℕ) where
  abbrev walked : (steps node : ℕ) → Reached
  walked steps node = walk steps (map tree_node nodes) classes context node

  -- the child of a question that the context goes to
  abbrev child_of : Node → ℕ
  child_of x = if answers classes context (asked_of x) then x.yes else x.no

  -- from where a walk stands, past so many questions and with the steps that are left, it reaches the leaf
  pub record Walking (root node taken : ℕ) : Type 0 where
    pub listed : node < header.nodes
    pub further : taken ≤ node
    pub reaches : leaf_reached (map tree_node nodes) classes context root ≡ (walked (header.nodes - taken) node).leaf
    pub counts : (reached (map tree_node nodes) classes context root).questions
        ≡ taken + (walked (header.nodes - taken) node).questions

  -- as many steps as nodes
  pub start-walking : length nodes ≡ header.nodes → (root : ℕ) → root < header.nodes → Walking root root 0
  unfolding reached
  start-walking counted root h =
      let all : reached (map tree_node nodes) classes context root ≡ walked (header.nodes - 0) root =
      rw (length-map nodes tree_node, counted, sub-zero) in
      let met = ap (λ (r : Reached). r.questions) all in
      record {
        listed = h;
        further = omega arith;
        reaches = ap (λ (r : Reached). r.leaf) all;
        counts = omega (arith, met);
      }

  module _ (node : ℕ) (x : Node) (own : x ≡ record_at nodes node) where
    node-own : node_at (map tree_node nodes) node ≡ tree_node x
    node-own = node-listed nodes node ∙ ap tree_node (sym own)

    -- a leaf stays
    walk-stays : (x.kind ≡ 1 → ⊥) → (steps : ℕ) → walked_of (walked steps node) ≡ record { leaf = node; questions = 0 }
    unfolding walk tree_node
    walk-stays other zero = refl
    walk-stays other (suc steps) =
        ap walked_of (walk-leaf (map tree_node nodes) classes context steps node x.value
        (node-own ∙ rw (ne_eqb x.kind 1 other)))

    -- so the walk ends there
    pub stops : (root taken : ℕ) → Walking root node taken → (x.kind ≡ 1 → ⊥)
        → record { leaf = node; questions = taken } ≡ walked_of (reached (map tree_node nodes) classes context root)
    stops root taken w other =
        let here = walk-stays other (header.nodes - taken) in
        let none : (walked (header.nodes - taken) node).questions ≡ 0 = ap (λ (r : Walked). r.questions) here in
        ap₂ (λ (leaf questions : ℕ). record { leaf = leaf; questions = questions })
        (sym (w.reaches ∙ ap (λ (r : Walked). r.leaf) here)) (omega (arith, w.counts, none))

    module _ (kind : x.kind ≡ 1) where
      -- a question goes on with one step more taken
      walk-goes : (taken : ℕ) → taken < header.nodes
          → walked (header.nodes - taken) node ≡ past_question (walked (header.nodes - (taken + 1)) (child_of x))
      unfolding tree_node
      walk-goes taken h =
          let left : ℕ = header.nodes - (taken + 1) in
          let more : header.nodes - taken ≡ suc left = omega arith in
          rw more (walk-question (map tree_node nodes) classes context left node (asked_of x)
          x.yes x.no (node-own ∙ rw (eq-eqb x.kind 1 kind)))

      module _ (known : T (nodes_known header 0 nodes)) (child : ℕ) (chosen : child ≡ child_of x) where
        -- to a greater node
        pub goes_further : (node < child) × (child < header.nodes)
        goes_further =
            let q = record-fits header nodes known node x own kind in
            rw chosen (either-node (λ n. (node < n) × (n < header.nodes)) x.yes x.no
            (q.yes_greater, q.yes_listed) (q.no_greater, q.no_listed)
            (answers classes context (asked_of x)))

        pub goes_on : (root taken : ℕ) → Walking root node taken → Walking root child (taken + 1)
        goes_on root taken w =
            let (greater, listed) = goes_further in
            let more = walk-goes taken (omega (arith, w.further, w.listed)) in
            let one_more : (walked (header.nodes - taken) node).questions
            ≡ suc (walked (header.nodes - (taken + 1)) child).questions =
            rw chosen (ap (λ (r : Reached). r.questions) more) in
            record {
              listed = listed;
              further = omega (arith, w.further);
              reaches = w.reaches ∙ rw chosen (ap (λ (r : Reached). r.leaf) more);
              counts = omega (arith, w.counts, one_more);
            }

-- in a table of words, the record of a leaf holds its model
pub model_is : (header : Header) (words : List ℕ) (node : ℕ) → node < header.nodes
    → ((node_of (drop (node_size * node) words)).kind ≡ 1 → ⊥)
    → model_at (tree_nodes header words) node ≡ (node_of (drop (node_size * node) words)).value
model_is header words node listed other =
    let x : Node = node_of (drop (node_size * node) words) in
    model-at (tree_nodes header words) node x.value (leaf-is header words node listed x refl other)
