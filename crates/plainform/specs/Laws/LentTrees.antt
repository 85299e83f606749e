-- Laws about trees in lent words: the record of a node says what the tree there is; and trees from root to root.
use Rattle.std.specs.Prelude.{if◌then◌else◌, ◌≡◌, ◌≢◌, Bool, ◌||◌, ℕ, suc, ◌+◌, ◌*◌, ◌≤◌, ◌<◌, ltb, eqb, length, drop}
use Rattle.std.proofs.Math.Path.{refl, ap}
use Rattle.std.proofs.Common.{◌∙◌, ⊎_elim, add-one, arith, ltb→lt, eqb→eq, drop_of_length-le, drop-cons, eq-eqb, ne_eqb}
use mathlib.Core.List.{List, [], ◌∷◌, ◌++◌, map}
use Rattle.std.proofs.Math.Option.{Option, none, some}
use Rattle.std.proofs.Math.ListN.{length-append}
use Rattle.definitions.specs.declared.Header.{Header}
use Rattle.definitions.specs.declared.Node.{Node}
use Rattle.definitions.specs.Lists.{◌!◌, every}
use Rattle.definitions.specs.BookLines.{no_root}
use Rattle.definitions.specs.BookReading.{node_size}
use Rattle.definitions.specs.Tables.{node_of, asked_of}
use Rattle.definitions.specs.PlainForm.{Tree, asking, giving, question_of, sets_in, size_of, trees_there}
use Rattle.definitions.proofs.Laws.Books.Accepted.{QuestionFits}
use Rattle.definitions.proofs.Laws.Books.Tables.{tree-nodes-length}
use Rattle.definitions.proofs.Laws.Lists.Tests.{T-or, every-at}
use Rattle.definitions.proofs.Laws.Lists.Lists.{every-cons}
use Rattle.definitions.proofs.Spelling.TreeShapes.{tree-asks, tree-gives}
use Rattle.tables.specs.Usable.{tree_nodes}
use Rattle.tables.specs.Laws.KnownTables.{question-is, leaf-is, question-fits, known-forward}
use Rattle.plainform.specs.LentTrees.{tree_in, KnownNode, Listed}
use Rattle.plainform.specs.declared.trees.LentTrees.{LentTrees}

-- ---- roots

-- one of several, and where it is given, it is a node
pub root-listed : {header : Header} {roots : List ℕ} → Listed header roots
    → (i : ℕ) → i < length roots → Listed header ((roots ! i) ∷ [])
unfolding every
root-listed {header} {roots} l i h =
    let test : ℕ → Bool = λ root. eqb root no_root || ltb root header.nodes in
    record { each = (every-cons test (roots ! i) []).1 (every-at test roots 0 l.each i h, tt) }

pub root-node : {header : Header} {root : ℕ} → Listed header (root ∷ []) → root ≢ no_root → root < header.nodes
root-node {header} {root} l there =
    let own = ((every-cons (λ root. eqb root no_root || ltb root header.nodes) root []).0 l.each).0 in
    ⊎_elim (λ e. absurd (there (eqb→eq root no_root e))) (λ l. ltb→lt root header.nodes l)
    ((T-or (eqb root no_root) (ltb root header.nodes)).0 own)

-- the tree at a root, if it is given
module _ (tree : ℕ → Tree) where
  abbrev pub found : (root : ℕ) → Option Tree
  found root = if eqb root no_root then none else some (tree root)

  pub not_there : (root : ℕ) → root ≡ no_root → trees_there (map found (root ∷ [])) ≡ []
  unfolding trees_there
  not_there root e = rw (eq-eqb root no_root e)

  pub is-there : (root : ℕ) → root ≢ no_root → trees_there (map found (root ∷ [])) ≡ tree root ∷ []
  unfolding trees_there
  is-there root there = rw (ne_eqb root no_root there)

  -- the next root's, and those of the others; none beyond the last root
  module _ (roots : List ℕ) (i : ℕ) where
    pub trees-next : i < length roots → map found (drop i roots) ≡ found (roots ! i) ∷ map found (drop (i + 1) roots)
    trees-next h = rw (drop-cons roots i 0 h, add-one)

    pub trees-end : length roots ≤ i → map found (drop i roots) ≡ []
    trees-end h = rw (drop_of_length-le roots {i = i} h)

    pub there-next : i < length roots
        → trees_there (map found (drop i roots))
        ≡ trees_there (map found ((roots ! i) ∷ [])) ++ trees_there (map found (drop (i + 1) roots))
    unfolding trees_there
    there-next h = ap trees_there (trees-next h) ∙ first (found (roots ! i)) (map found (drop (i + 1) roots))
      where
        first : (x : Option Tree) (l : List (Option Tree))
            → trees_there (x ∷ l) ≡ trees_there (x ∷ []) ++ trees_there l
        first none l = refl
        first (some t) l = refl

-- ---- a node

-- a node of lent trees
pub at-node : (trees : LentTrees) (node : ℕ) → node < trees.header.nodes → KnownNode trees.header trees.nodes.now node
at-node trees node h = record { known = trees.known; listed = h }

-- a node and its record
module _ {header : Header} {nodes : List ℕ} {node : ℕ} (k : KnownNode header nodes node) {x : Node}
    (own : x ≡ node_of (drop (node_size * node) nodes)) where
  there : node < length (tree_nodes header nodes)
  there = rw (tree-nodes-length header nodes) k.listed

  -- any kind but 1 is a leaf
  pub gives-here : (classes : List ℕ) → (x.kind ≡ 1 → ⊥) → tree_in header nodes classes node ≡ giving x.value
  gives-here classes other =
      tree-gives (tree_nodes header nodes) classes (known-forward header nodes k.known) node x.value there
      (leaf-is header nodes node k.listed x own other)

  -- kind 1 is a question, whose children are greater nodes
  module _ (kind : x.kind ≡ 1) where
    fits : QuestionFits header node (asked_of x) x.yes x.no
    fits = question-fits header nodes k.known node k.listed x own kind

    pub yes-known : KnownNode header nodes x.yes
    yes-known = record { known = k.known; listed = fits.yes_listed }

    pub no-known : KnownNode header nodes x.no
    no-known = record { known = k.known; listed = fits.no_listed }

    pub yes-later : node < x.yes
    yes-later = fits.yes_greater

    pub no-later : node < x.no
    no-later = fits.no_greater

    module _ (classes : List ℕ) where
      pub asks-here : tree_in header nodes classes node
          ≡ asking (question_of classes (asked_of x)) (tree_in header nodes classes x.yes)
          (tree_in header nodes classes x.no)
      asks-here =
          tree-asks (tree_nodes header nodes) classes (known-forward header nodes k.known) node (asked_of x)
          x.yes x.no there (question-is header nodes node k.listed x own kind)

      -- how many sets and nodes its tree has
      pub sets-here : length (sets_in (tree_in header nodes classes node))
          ≡ suc (length (sets_in (tree_in header nodes classes x.yes))
          + length (sets_in (tree_in header nodes classes x.no)))
      unfolding sets_in
      sets-here = rw asks-here (simp length-append (omega arith))

      pub size-here : size_of (tree_in header nodes classes node)
          ≡ suc (size_of (tree_in header nodes classes x.yes) + size_of (tree_in header nodes classes x.no))
      unfolding size_of
      size-here = rw asks-here
