-- Laws about the words of combinations: how many records there are, where the phone, the leaves and the
-- matrix of each stand, and where its models stand in the table of nodes.
use Rattle.std.specs.Prelude.{◌≡◌, Bool, true, false, eqb}
use Rattle.std.proofs.Math.Path.{sym, ap}
use Rattle.std.proofs.Common.{◌∙◌, arith, drop_at}
use mathlib.Core.List.{List, []}
use Prim.Native.Nat.{ℕ, ◌*◌, ◌≤◌, ◌<◌}
use Rattle.std.proofs.Math.ListN.{length, take, drop, length-append, length-map, length-take, get_or-append}
use Rattle.definitions.specs.declared.Header.{Header}
use Rattle.definitions.specs.declared.Node.{Node}
use Rattle.definitions.specs.Lists.{if◌then◌else◌, ◌!◌, concat_map, records, padded}
use Rattle.definitions.specs.BookLines.{question, leaf}
use Rattle.definitions.specs.BookReading.{node_size}
use Rattle.definitions.specs.Matrices.{matrix_words, matrix_size, matrix_record}
use Rattle.definitions.specs.Tables.{node_of, tree_node, asked_of}
use Rattle.definitions.specs.Lookup.{model_at}
use Rattle.definitions.specs.Combinations.{Combination, combination_size, combination_words}
use Rattle.definitions.specs.Metastates.{Metastate, no_combination, combination_of, models_of, numbered}
use Rattle.definitions.specs.Ranges.{InRange}
use Rattle.definitions.proofs.Laws.Lists.Lists.{concat_map-map, padded-length, map_at}
use Rattle.definitions.proofs.Laws.Lists.Records.{record-within, records-length, record-at, record-again}
use Rattle.definitions.proofs.Laws.Matrices.SevenWords.{padded-column}
use Rattle.definitions.proofs.Laws.Matrices.Sizes.{columns-held}
use Rattle.definitions.proofs.Laws.Trees.Walks.{model-at}
use Rattle.definitions.proofs.Laws.Books.AcceptedKnown.{header-ranges}
use Rattle.tables.specs.Usable.{book_with}
use Rattle.tables.specs.Laws.KnownTables.{node-is}
use Rattle.matrix.specs.Shapes.{matrix_in}
use Rattle.matrix.specs.Words.{first_seven}
use Rattle.matrix.specs.Laws.Words.{record-seven}
use Rattle.index.specs.Combinations.{combination_in, combinations_in, nodes_book, Usable, Modelled}
use Rattle.index.specs.RecordWords.{record_of, count_in, IsListed, phone_word, leaf_word, own_columns}
use Rattle.index.specs.RecordWords.{HasPhone, HasLeaf}

-- the model of a node that is a leaf
leaf-value : (node : Node) (model : ℕ) → tree_node node ≡ leaf model → node.value ≡ model
unfolding tree_node
leaf-value node model = go (eqb node.kind 1)
  where
    go : (b : Bool)
        → (if b then question (asked_of node) node.yes node.no else leaf node.value)
        ≡ leaf model → node.value ≡ model
    go true e = let z : ◌≡◌ {A = ℕ} 0 1 = cc in absurd (omega arith)
    go false e = cc

module _ (header : Header) (words : List ℕ) where
  abbrev half : ℕ
  half = header.half

  abbrev size : ℕ
  size = combination_size half

  abbrev parts : List (List ℕ)
  parts = records size (count_in half words) words

  pub combinations-length : length (combinations_in header words) ≡ count_in header.half words
  unfolding combinations_in
  combinations-length = length-map parts (combination_in header) ∙ records-length size (count_in half words) words

  pub number_in : {number : ℕ} → number < count_in header.half words
      → number < length (combinations_in header words)
  number_in h = omega (arith, combinations-length)

  pub number-out : {number : ℕ} → count_in header.half words ≤ number
      → length (combinations_in header words) ≤ number
  number-out h = omega (arith, combinations-length)

  module _ (usable : Usable header words) where
    ranges : InRange header
    ranges = header-ranges header usable.header-known

    -- a record that is read and written again has its size
    again : List ℕ → List ℕ
    again part = combination_words half (combination_in header part)

    again-length : (part : List ℕ) → length (again part) ≡ size
    unfolding again combination_words combination_in matrix_record
    again-length part =
        let leaves : List ℕ = take header.states (drop 1 part) in
        let matrix : List ℕ = matrix_in half (drop 4 part) in
        let nodes : length (padded 3 leaves) ≡ 3 =
        padded-length 3 leaves (simp length-take (omega (arith, ranges.states_range.high))) in
        let columns : length (padded (matrix_size half) matrix) ≡ matrix_size half =
        padded-length (matrix_size half) matrix
        (simp length-take (omega (arith, columns-held half ranges.half_range.high))) in
        omega (arith, nodes, columns, length-append (padded 3 leaves) (padded (matrix_size half) matrix))

    flat : words ≡ concat_map again parts
    unfolding again combinations_in
    flat = usable.flat ∙ concat_map-map (combination_words half) (combination_in header) parts

    -- the combination at a place
    module _ (number : ℕ) (h : number < length (combinations_in header words)) where
      abbrev here : Combination
      here = numbered (combinations_in header words) number

      listed : number < count_in half words
      listed = omega (arith, combinations-length)

      pub is-listed : IsListed header.half words number
      is-listed = record-within size number listed

      -- its record
      record_is : record_of size words number ≡ combination_words half here
      unfolding again combinations_in
      record_is =
          let own = map_at (combination_in header) parts [] no_combination number (rw records-length listed) in
          let there = record-at size (count_in half words) words number listed in
          sym (record-again again size (omega arith) again-length words flat number listed)
          ∙ ap (combination_words half) (sym (own ∙ ap (combination_in header) there))

      pub phone-word : phone_word header.half words number ≡ here.phone
      unfolding combination_words
      phone-word = ap (λ (l : List ℕ). l ! 0) record_is

      phone-few : here.phone ≤ 64
      phone-few = omega (arith, (usable.each number h).phones, ranges.phones_range.high)

      pub has-phone : HasPhone header.half words number
      has-phone = record { within = is-listed; few = rw phone-word phone-few }

      -- its leaves take three words
      three : length (padded 3 here.leaves) ≡ 3
      three =
          padded-length 3 here.leaves
          (omega (arith, (usable.each number h).states, ranges.states_range.high))

      pub leaf-word : (state : ℕ) → state < 3
          → leaf_word header.half words number state ≡ here.leaves ! state
      unfolding combination_words
      leaf-word state k =
          ap (λ (l : List ℕ). drop 1 l ! state) record_is
          ∙ get_or-append (padded 3 here.leaves) (matrix_record half here.carried) 0 state
          (omega (arith, three))
          ∙ padded-column 3 here.leaves state

      pub matrix-word : own_columns header.half words number ≡ matrix_words here.carried
      unfolding combination_words
      matrix-word =
          ap (λ (l : List ℕ). first_seven (drop 4 l)) record_is
          ∙ ap first_seven (drop_at (padded 3 here.leaves) (matrix_record half here.carried) 3 three)
          ∙ record-seven half ranges.half_range.high here.carried (usable.each number h).width

      -- its models
      module _ (nodes : List ℕ) (modelled : Modelled header nodes words) where
        leaf-listed : (state : ℕ) → state < header.states → (here.leaves ! state) < header.nodes
        leaf-listed state k = (modelled number state h k).0

        pub has-leaf : (state : ℕ) → state < header.states → HasLeaf header.half words number state
        has-leaf state k =
            let held : state < 3 = omega (arith, ranges.states_range.high) in
            record {
              within = is-listed;
              states = held;
              few = rw (leaf-word state held) (omega (arith, leaf-listed state k, ranges.nodes_range.high));
            }

        module _ (x : Metastate) (e : x.number ≡ number) where
          pub models_length : length (models_of (nodes_book header nodes) (combinations_in header words) x)
              ≡ header.states
          unfolding models_of combination_of
          models_length =
              let own : List ℕ = (combination_of (combinations_in header words) x).leaves in
              let counted : length own ≡ header.states = rw e (usable.each number h).states in
              length-map own _ ∙ counted

          pub model-word : (state : ℕ) → state < header.states
              → (node_of (drop (node_size * (here.leaves ! state)) nodes)).value
              ≡ models_of (nodes_book header nodes) (combinations_in header words) x ! state
          unfolding models_of combination_of book_with
          model-word state k =
              let at : ℕ = here.leaves ! state in
              let (inside, (model, is)) = modelled number state h k in
              let own : tree_node (node_of (drop (node_size * at) nodes)) ≡ leaf model =
              sym (node-is header nodes at inside) ∙ is in
              let leaves : List ℕ = (combination_of (combinations_in header words) x).leaves in
              let same : leaves ≡ here.leaves = rw e in
              let counted : length leaves ≡ header.states = rw e (usable.each number h).states in
              leaf-value (node_of (drop (node_size * at) nodes)) model own
              ∙ sym (model-at (nodes_book header nodes).nodes at model is)
              ∙ ap (λ (l : List ℕ). model_at (nodes_book header nodes).nodes (l ! state)) (sym same)
              ∙ sym (map_at (model_at (nodes_book header nodes).nodes) leaves 0 0 state (omega arith))
