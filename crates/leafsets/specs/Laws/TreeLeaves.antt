-- Laws about the list of a tree's leaves: they stand in the table, no two at one node, whatever roots the book
-- has; the matrix that the walk starts from is the root's; and the used records are the leaves ascending.
use Rattle.std.specs.Prelude.{◌≡◌, List, [], ◌++◌, ℕ, zero, suc, ◌+◌, ◌-◌, ◌*◌, ◌≤◌, ◌<◌, min, leb, take}
use Rattle.std.proofs.Math.Path.{refl, ap, subst}
use Rattle.std.proofs.Common.{sym, ap₂, ◌∙◌, ⊎_elim, le-leb}
use native.Mathlib.Omega.{arith}
use Rattle.std.proofs.Math.ListN.{length}
use Rattle.std.proofs.lemmas.Bool.{lt-leb}
use Rattle.definitions.specs.declared.Header.{Header}
use Rattle.definitions.specs.Lists.{if◌then◌else◌, ◌!◌, concat_map, IsIn, Distinct}
use Rattle.definitions.specs.BookLines.{root_count}
use Rattle.definitions.specs.Tables.{Book, root_of}
use Rattle.definitions.specs.PhoneSets.{alone, all_phones}
use Rattle.definitions.specs.Matrices.{Matrix, most_columns, matrix_words, root_matrix}
use Rattle.definitions.specs.Combinations.{Leaf, leaves_below, ascending, leaves_of, on_yes, on_no}
use Rattle.definitions.specs.Ranges.{InRange}
use Rattle.definitions.proofs.Laws.Lists.Members.{of-append, of-single, of_map}
use Rattle.definitions.proofs.Laws.Trees.Walks.{Forward, by-node}
use Rattle.definitions.proofs.Laws.Trees.Leaves.{below-leaf, below-question}
use Rattle.definitions.proofs.Laws.Matrices.Matrices.{yes-length, no_length, root-length}
use Rattle.definitions.proofs.Laws.Books.Tables.{tree-nodes-length}
use Rattle.definitions.proofs.Laws.Books.NamedOnce.{leaves-once}
use Rattle.definitions.proofs.Laws.Trees.Ascending.{leaf_nodes, nodes-below}
use Rattle.tables.specs.Usable.{tree_nodes, book_with, Fit}
use Rattle.tables.specs.Laws.KnownTables.{known-forward}
use Rattle.matrix.specs.Shapes.{width_of, matrix_in, HasWidth, columns_around}
use Rattle.matrix.specs.Laws.Shapes.{root-shaped}
use Rattle.matrix.specs.Laws.Widths.{matrix-back, has_width}
use Rattle.leafsets.specs.Leaves.{put_leaves, listed, NoneUsed, UsedWithin, last_node, leaf_words, leaves_for}
use Rattle.leafsets.specs.Laws.LastNodes.{last-most, last-below}
use Rattle.leafsets.specs.Laws.PuttingLeaves.{InTable, AllInTable, Sized}
use Rattle.leafsets.specs.Laws.ListingLeaves.{used-leaf, all_listed}

-- ---- the leaves below a node

below-in-table : (book : Book) → Forward book.nodes → (levels : ℕ) (m : Matrix) (node : ℕ)
    → node < length book.nodes → length m ≤ 7
    → AllInTable (length book.nodes) (leaves_below levels book m node)
unfolding leaves_below
below-in-table book forward zero m node h k l i = absurd i
below-in-table book forward (suc levels) m node h k l i =
    by-node book.nodes node
    (λ model e.
    let same = of-single (record { node = node; carried = m }) l
    (rw (below-leaf book levels m node model e) at i) in
    subst (λ x. InTable (length book.nodes) x) (sym same) (record { listed = h; narrow = k }))
    (λ asked yes_node no_node e.
    let yes_matrix : Matrix = on_yes book.classes asked m in
    let no_matrix : Matrix = on_no book.classes asked m in
    let (yes_later, no_later) = forward node asked yes_node no_node e in
    ⊎_elim
    (below-in-table book forward levels yes_matrix yes_node yes_later.listed
    (rw (yes-length asked.position _ m) k) l)
    (below-in-table book forward levels no_matrix no_node no_later.listed
    (rw (no_length asked.position _ m) k) l)
    (of-append l (leaves_below levels book yes_matrix yes_node) (leaves_below levels book no_matrix no_node)
    (rw (below-question book levels m node asked yes_node no_node e) at i)))

-- none is before it
below-after : (book : Book) → Forward book.nodes → (levels : ℕ) (m : Matrix) (node : ℕ) (l : Leaf)
    → IsIn l (leaves_below levels book m node) → node ≤ l.node
unfolding leaves_below
below-after book forward zero m node l i = absurd i
below-after book forward (suc levels) m node l i =
    by-node book.nodes node
    (λ model e.
    let same = of-single (record { node = node; carried = m }) l
    (rw (below-leaf book levels m node model e) at i) in
    rw same (omega arith))
    (λ asked yes_node no_node e.
    let yes_matrix : Matrix = on_yes book.classes asked m in
    let no_matrix : Matrix = on_no book.classes asked m in
    let (yes_later, no_later) = forward node asked yes_node no_node e in
    ⊎_elim
    (λ j. omega (arith, yes_later.greater, below-after book forward levels yes_matrix yes_node l j))
    (λ j. omega (arith, no_later.greater, below-after book forward levels no_matrix no_node l j))
    (of-append l (leaves_below levels book yes_matrix yes_node) (leaves_below levels book no_matrix no_node)
    (rw (below-question book levels m node asked yes_node no_node e) at i)))

-- they depend on the nodes and the classes only
below-same : (a b : Book) → a.nodes ≡ b.nodes → a.classes ≡ b.classes → (levels : ℕ) (m : Matrix) (node : ℕ)
    → leaves_below levels a m node ≡ leaves_below levels b m node
unfolding leaves_below
below-same a b e f zero m node = refl
below-same a b e f (suc levels) m node =
    by-node a.nodes node
    (λ model q. below-leaf a levels m node model q ∙ sym (below-leaf b levels m node model (rw e at q)))
    (λ asked yes_node no_node q.
    below-question a levels m node asked yes_node no_node q
    ∙ ap₂ ◌++◌ (below-same a b e f levels (on_yes a.classes asked m) yes_node)
    (below-same a b e f levels (on_no a.classes asked m) no_node)
    ∙ ap (λ (sets : List ℕ). leaves_below levels b (on_yes sets asked m) yes_node
    ++ leaves_below levels b (on_no sets asked m) no_node) f
    ∙ sym (below-question b levels m node asked yes_node no_node (rw e at q)))

-- ---- the matrix of a root

-- seven words that are the matrix of a phone's roots
pub record Top (header : Header) (phone : ℕ) (columns : List ℕ) : Type 0 where
  pub words : HasWidth (width_of header.half) columns
  pub taken : matrix_in header.half columns ≡ root_matrix header.half header.phones phone

pub top-words : (header : Header) → InRange header → (phone : ℕ) → phone ≤ header.phones
    → (all one : ℕ) (columns : List ℕ) → all ≡ all_phones (min header.phones 64)
    → one ≡ (if leb phone 64 then alone phone else 0)
    → columns ≡ take most_columns (matrix_words (columns_around header.half all one all))
    → Top header phone columns
top-words header ranges phone h all one columns e f g =
    let half : ℕ = header.half in
    let top : Matrix = root_matrix half header.phones phone in
    let own : columns ≡ matrix_words top =
    root-shaped half header.phones phone ranges.half_range.high ranges.phones_range.high h
    e f g in
    let width : length top ≡ width_of half = root-length half header.phones phone ∙ omega arith in
    record { words = has_width top width own; taken = matrix-back top width own }

-- ---- the leaves of a phone's tree for a state

pub none-listed : (book : Book) (phone state : ℕ) → book.states < state
    → [] ≡ concat_map leaf_words (leaves_for book phone state)
unfolding leaves_for concat_map
none-listed book phone state h = rw (lt-leb state book.states h)

-- a table whose used records are some leaves ascending, all from one node to another
pub record TreePut (header : Header) (leaves : List Leaf) (first last : ℕ) (table : List ℕ) : Type 0 where
  pub inside : last < header.nodes
  pub within : UsedWithin first last table
  pub holds : listed table ≡ concat_map leaf_words leaves

module _ (header : Header) (nodes classes roots : List ℕ)
    (fit : Fit header nodes classes roots) (phone state : ℕ) (few : state ≤ header.states)
    (root : ℕ)
    (own : root ≡ take (root_count header) roots ! ((phone - 1) * header.states + (state - 1)))
    (inside : root < header.nodes) (columns : List ℕ) (top : Top header phone columns)
  where
    abbrev book : Book
    book = book_with header nodes classes roots

    abbrev bare : Book
    bare = book_with header nodes classes []

    abbrev matrix : Matrix
    matrix = matrix_in header.half columns

    abbrev found : List Leaf
    found = leaves_below header.nodes bare matrix root

    forward : Forward (tree_nodes header nodes)
    forward = known-forward header nodes fit.nodes-known

    found-fit : AllInTable header.nodes found
    unfolding book_with
    found-fit =
        let count = tree-nodes-length header nodes in
        let narrow : length matrix ≤ 7 =
        rw top.taken (omega (
          arith,
          root-length header.half header.phones phone,
          fit.ranges.half_range.high,
        )) in
        rw count at (below-in-table bare forward header.nodes matrix root (omega arith) narrow)

    found-apart : Distinct (leaf_nodes found)
    unfolding book_with
    found-apart =
        subst Distinct (sym (nodes-below header.nodes bare matrix root))
        (leaves-once (tree_nodes header nodes) forward fit.once header.nodes root)

    found-are : ascending found ≡ leaves_for book phone state
    unfolding leaves_for leaves_of root_of book_with
    found-are =
        let count = tree-nodes-length header nodes in
        rw (le-leb state header.states few, top.taken, count, ← own)
        (ap ascending (below-same bare book refl refl header.nodes _ root))

    -- put into a table in which no record was used
    pub leaves-put : (empty table : List ℕ) → Sized header.nodes empty → NoneUsed empty
        → table ≡ put_leaves empty (leaves_below header.nodes
        (book_with header nodes classes []) (matrix_in header.half columns) root)
        → {last : ℕ} → last ≡ last_node (leaves_below header.nodes
        (book_with header nodes classes []) (matrix_in header.half columns) root)
        → TreePut header (leaves_for (book_with header nodes classes roots) phone state) root last
        table
    unfolding book_with
    leaves-put empty table sized none put e = record {
      inside = rw e (last-below header.nodes (omega arith) found (λ l i. (found-fit l i).listed));
      within = λ n t.
          let i = used-leaf header.nodes found found-fit found-apart empty sized none n (rw put at t) in
          let (l, j, f) = of_map (λ (l : Leaf). l.node) n found i in
          rw (e, f) (below-after bare forward header.nodes matrix root l j, last-most found l j);
      holds =
          ap listed put ∙ all_listed header.nodes found found-fit found-apart empty sized none
          ∙ ap (concat_map leaf_words) found-are;
    }
