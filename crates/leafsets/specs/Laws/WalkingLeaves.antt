-- Laws about the walk that puts leaves into the table: as many levels as nodes are enough from each child, so
-- the leaves below a question are those below its children, found with the same number of levels; and each
-- side's seven words are those of the side.
use Rattle.std.specs.Prelude.{◌≡◌, T, length}
use Rattle.std.proofs.Math.Path.{sym, ap, ap₂}
use Rattle.std.proofs.Common.{◌∙◌, arith}
use mathlib.Core.List.{List, [], ◌∷◌, ◌++◌}
use Prim.Native.Nat.{ℕ, zero, suc, ◌+◌, ◌-◌, ◌*◌, ◌≤◌, ◌<◌, max}
use Rattle.std.proofs.Math.ListN.{take, drop}
use Rattle.std.proofs.Math.Seq.{get_or-take}
use Rattle.definitions.specs.declared.Header.{Header}
use Rattle.definitions.specs.declared.Node.{Node}
use Rattle.definitions.specs.Lists.{◌!◌}
use Rattle.definitions.specs.BookReading.{node_size}
use Rattle.definitions.specs.Tables.{Book, node_of, node_records, asked_of}
use Rattle.definitions.specs.ForeignTables.{header_known, nodes_known}
use Rattle.definitions.specs.Matrices.{Matrix, matrix_words, yes_side, no_side}
use Rattle.definitions.specs.Combinations.{Leaf, leaves_below, on_yes, on_no}
use Rattle.definitions.proofs.Laws.Trees.Walks.{Forward, by-node}
use Rattle.definitions.proofs.Laws.Trees.Leaves.{below-leaf, below-question}
use Rattle.definitions.proofs.Laws.Matrices.Matrices.{yes-length, no_length}
use Rattle.definitions.proofs.Laws.Matrices.SevenWords.{words-yes, words-no}
use Rattle.definitions.proofs.Laws.Books.Tables.{tree-nodes-length}
use Rattle.definitions.proofs.Laws.Books.AcceptedKnown.{header-ranges}
use Rattle.tables.specs.Usable.{book_with}
use Rattle.tables.specs.Laws.KnownTables.{question-is, leaf-is, question-fits, known-forward}
use Rattle.matrix.specs.Shapes.{width_of, matrix_in, HasWidth}
use Rattle.matrix.specs.Laws.Widths.{matrix-back, has_width, width-taken}
use Rattle.leafsets.specs.Leaves.{leaf_size, put_leaf, put_leaves, last_node}
use Rattle.leafsets.specs.Laws.LastNodes.{last-append}
use Rattle.leafsets.specs.Laws.PuttingLeaves.{put-append}

-- ---- enough levels

module _ (book : Book) (forward : Forward book.nodes) where
  levels-enough : (k l : ℕ) (m : Matrix) (node : ℕ) → node < length book.nodes
      → length book.nodes ≤ node + k → length book.nodes ≤ node + l
      → leaves_below k book m node ≡ leaves_below l book m node
  levels-enough zero l m node h i j = absurd (omega arith)
  levels-enough (suc k) zero m node h i j = absurd (omega arith)
  levels-enough (suc k) (suc l) m node h i j =
      by-node book.nodes node
      (λ model e. below-leaf book k m node model e ∙ sym (below-leaf book l m node model e))
      (λ asked yes_node no_node e.
      let (yes_later, no_later) = forward node asked yes_node no_node e in
      below-question book k m node asked yes_node no_node e
      ∙ ap₂ ◌++◌
      (levels-enough k l (on_yes book.classes asked m) yes_node yes_later.listed
      (omega (arith, yes_later.greater)) (omega (arith, yes_later.greater)))
      (levels-enough k l (on_no book.classes asked m) no_node no_later.listed
      (omega (arith, no_later.greater)) (omega (arith, no_later.greater)))
      ∙ sym (below-question book l m node asked yes_node no_node e))

-- ---- the seven words of a matrix of so many columns, and of one of its sides

module _ (width : ℕ) (narrow : width ≤ 7) (columns : List ℕ) (w : HasWidth width columns) where
  pub record Side (side : Matrix → Matrix) (result : List ℕ) : Type 0 where
    pub words : HasWidth width result
    pub taken : take width result ≡ side (take width columns)

  side-words : (side : Matrix → Matrix) → ((m : Matrix) → matrix_words (side m) ≡ side (matrix_words m))
      → ((m : Matrix) → length (side m) ≡ length m) → (result : List ℕ) → result ≡ side columns
      → Side side result
  side-words side passes keeps result e =
      let m : Matrix = take width columns in
      let own : result ≡ matrix_words (side m) = e ∙ ap side w ∙ sym (passes m) in
      let sized : length (side m) ≡ width = keeps m ∙ width-taken narrow w in
      record { words = has_width (side m) sized own; taken = matrix-back (side m) sized own }

  pub yes-words : (position s : ℕ) (result : List ℕ) → result ≡ yes_side position s columns
      → Side (yes_side position s) result
  yes-words position s = side-words (yes_side position s) (words-yes position s) (yes-length position s)

  pub no_words : (position s : ℕ) (result : List ℕ) → result ≡ no_side position s columns
      → Side (no_side position s) result
  no_words position s = side-words (no_side position s) (words-no position s) (no_length position s)

-- ---- a node of known tables

pub half-narrow : (header : Header) → T (header_known header) → width_of header.half ≤ 7
half-narrow header h = omega (arith, (header-ranges header h).half_range.high)

module _ (header : Header) (nodes classes : List ℕ) where
  abbrev book : Book
  book = book_with header nodes classes []

  abbrev leaves : Matrix → ℕ → List Leaf
  leaves m node = leaves_below header.nodes book m node

  module _ (known : T (nodes_known header 0 (node_records header nodes))) (node : ℕ)
      (listed : node < header.nodes) (x : Node) (own : x ≡ node_of (drop (node_size * node) nodes))
    where
      some_level : header.nodes ≡ suc (header.nodes - 1)
      some_level = omega arith

      leaf-below : (m : Matrix) → (x.kind ≡ 1 → ⊥) → leaves m node ≡ record { node = node; carried = m } ∷ []
      unfolding book_with
      leaf-below m other =
          ap (λ (n : ℕ). leaves_below n book m node) some_level
          ∙ below-leaf book (header.nodes - 1) m node x.value
          (leaf-is header nodes node listed x own other)

      sides-below : (m : Matrix) → x.kind ≡ 1 → leaves m node
          ≡ leaves (yes_side x.position (classes ! (x.value - 1)) m) x.yes
          ++ leaves (no_side x.position (classes ! (x.value - 1)) m) x.no
      unfolding book_with
      sides-below m kind =
          let fits = question-fits header nodes known node listed x own kind in
          let less : ℕ = header.nodes - 1 in
          let forward = known-forward header nodes known in
          let count = tree-nodes-length header nodes in
          let s : ℕ = classes ! (x.value - 1) in
          let set_is : book.classes ! (x.value - 1) ≡ s =
          get_or-take header.classes classes (x.value - 1) 0
          (omega (arith, fits.in-range.class_low, fits.in-range.class_high)) in
          ap (λ (n : ℕ). leaves_below n book m node) some_level
          ∙ below-question book less m node (asked_of x) x.yes x.no
          (question-is header nodes node listed x own kind)
          ∙ ap (λ (z : ℕ). leaves_below less book (yes_side x.position z m) x.yes
          ++ leaves_below less book (no_side x.position z m) x.no) set_is
          ∙ ap₂ ◌++◌
          (levels-enough book forward less header.nodes (yes_side x.position s m) x.yes
          (omega (arith, fits.yes_listed, count)) (omega (arith, fits.yes_greater, count))
          (omega (arith, count)))
          (levels-enough book forward less header.nodes (no_side x.position s m) x.no
          (omega (arith, fits.no_listed, count)) (omega (arith, fits.no_greater, count))
          (omega (arith, count)))

      -- a leaf is put into its own record
      pub walk-leaf : (x.kind ≡ 1 → ⊥) → (columns table after : List ℕ)
          → HasWidth (width_of header.half) columns
          → after
          ≡ take (leaf_size * node) table ++ (1 ∷ columns) ++ drop (leaf_size * node + leaf_size) table
          → after ≡ put_leaves table (leaves (matrix_in header.half columns) node)
      unfolding put_leaves put_leaf
      walk-leaf other columns table after w e =
          let m : Matrix = matrix_in header.half columns in
          e ∙ ap (λ (z : List ℕ).
          take (leaf_size * node) table ++ (1 ∷ z) ++ drop (leaf_size * node + leaf_size) table) w
          ∙ ap (put_leaves table) (sym (leaf-below m other))

      pub last_leaf : (x.kind ≡ 1 → ⊥) → (columns : List ℕ)
          → node ≡ last_node (leaves (matrix_in header.half columns) node)
      unfolding last_node
      last_leaf other columns =
          sym (ap last_node (leaf-below (matrix_in header.half columns) other) ∙ omega arith)

      -- a question's sides are put one after the other
      module _ (headed : T (header_known header)) (kind : x.kind ≡ 1) {columns on_yes on_no : List ℕ}
          (w : HasWidth (width_of header.half) columns) {class : ℕ} (e : class ≡ x.value)
          (y : on_yes ≡ yes_side x.position (classes ! (class - 1)) columns)
          (n : on_no ≡ no_side x.position (classes ! (class - 1)) columns)
        where
          sides-are : leaves (matrix_in header.half columns) node
              ≡ leaves (matrix_in header.half on_yes) x.yes ++ leaves (matrix_in header.half on_no) x.no
          sides-are =
              let width : ℕ = width_of header.half in
              let narrow = half-narrow header headed in
              let s : ℕ = classes ! (x.value - 1) in
              let yes-own = yes-words width narrow columns w x.position s on_yes (rw e at y) in
              let no_own = no_words width narrow columns w x.position s on_no (rw e at n) in
              sides-below (take width columns) kind ∙ rw (yes-own.taken, no_own.taken)

          pub walk-sides : (table : List ℕ) {between after : List ℕ}
              → between ≡ put_leaves table (leaves (matrix_in header.half on_yes) x.yes)
              → after ≡ put_leaves between (leaves (matrix_in header.half on_no) x.no)
              → after ≡ put_leaves table (leaves (matrix_in header.half columns) node)
          walk-sides table f g =
              let second : List Leaf = leaves (matrix_in header.half on_no) x.no in
              g ∙ ap (λ (t : List ℕ). put_leaves t second) f ∙ sym (put-append table _ second)
              ∙ ap (put_leaves table) (sym sides-are)

          pub last-sides : {on_first on_second last : ℕ} → last ≡ max on_first on_second
              → on_first ≡ last_node (leaves (matrix_in header.half on_yes) x.yes)
              → on_second ≡ last_node (leaves (matrix_in header.half on_no) x.no)
              → last ≡ last_node (leaves (matrix_in header.half columns) node)
          last-sides r f g = r ∙ ap₂ max f g ∙ sym (ap last_node sides-are ∙ last-append _ _)
