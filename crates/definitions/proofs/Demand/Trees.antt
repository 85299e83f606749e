-- Exactly one leaf of a tree admits a context, and it is the leaf that the walk with the context reaches.
-- The idea: a question's two sides admit what its node admits with the answer yes, and with the answer no;
-- so the leaves that admit the context are one where the node does, and none where it does not.
-- The combinations of a book (demand/Choices.antt) take one leaf of each tree.
use Rattle.std.specs.Prelude.{◌≡◌, Bool, not, ◌&&◌, ℕ, zero, suc, ◌+◌, ◌≤◌, ◌<◌, T, length}
use Rattle.std.proofs.Math.Path.{refl, ap}
use Rattle.std.proofs.Common.{◌∙◌, arith}
use mathlib.Core.List.{List, [], ◌∷◌, ◌++◌, map, map-append}
use Rattle.std.proofs.Math.Bool.{true, false}
use Rattle.std.proofs.lemmas.List.{length-map}
use Rattle.definitions.specs.Lists.{if◌then◌else◌, select}
use Rattle.definitions.specs.BookLines.{TreeNode, question, Asked}
use Rattle.definitions.specs.Tables.{Book, root_of}
use Rattle.definitions.specs.Lookup.{node_at, walk, reached, leaf_reached, answers}
use Rattle.definitions.specs.Combinations.{Leaf, leaves_below, leaves_of, on_yes, on_no}
use Rattle.definitions.proofs.Laws.Lists.Tests.{if-true}
use Rattle.definitions.proofs.Laws.Lists.Selected.{select-append}
use Rattle.definitions.proofs.Laws.Trees.Walks.{walk-leaf, walk-question, by-node}
use Rattle.definitions.proofs.Laws.Books.Sound.{Sound}
use Rattle.definitions.proofs.Laws.Trees.Leaves.{below-leaf, below-question, select-ascending}
use Rattle.definitions.proofs.Demand.Carrier.{Carrier, top_of, fits, Wide, top-wide, yes-wide, no-wide}
use Rattle.definitions.proofs.Demand.Carrier.{fits-yes, fits-no}

-- ---- the leaves that admit a context

abbrev pub leaf_admits : (W : List ℕ) → Leaf → Bool
leaf_admits W l = fits l.carried W

-- the nodes of the leaves that admit the context
abbrev leaves_admitting : (W : List ℕ) → List Leaf → List ℕ
leaves_admitting W leaves = map (λ l. l.node) (select (leaf_admits W) leaves)

admitting-append : (W : List ℕ) (k l : List Leaf)
    → leaves_admitting W (k ++ l) ≡ leaves_admitting W k ++ leaves_admitting W l
admitting-append W k l =
    ap (map (λ l. l.node)) (select-append (leaf_admits W) k l)
    ∙ map-append (λ l. l.node) (select (leaf_admits W) k) (select (leaf_admits W) l)

-- one of the two answers, where a node is reached at all
one_answer : (a b : Bool) (f : ℕ → ℕ) (y n : ℕ)
    → (if a && b then f y ∷ [] else []) ++ (if a && not b then f n ∷ [] else [])
    ≡ (if a then f (if b then y else n) ∷ [] else [])
one_answer true true f y n = refl
one_answer true false f y n = refl
one_answer false b f y n = refl

-- ---- one leaf of a tree

module _ (book : Book) (sound : Sound book) (W : List ℕ) where
  abbrev nodes : List TreeNode
  nodes = book.nodes

  -- the leaves below a node that admit the context: one where the node does
  abbrev OneLeaf : (levels : ℕ) → Carrier → (node : ℕ) → Type 0
  OneLeaf levels m node =
      leaves_admitting W (leaves_below levels book m node)
      ≡ (if fits m W then (walk levels nodes book.classes W node).leaf ∷ [] else [])

  -- the one leaf at a leaf
  at_leaf : (m : Carrier) (node : ℕ)
      → leaves_admitting W (record { node = node; carried = m } ∷ []) ≡ (if fits m W then node ∷ [] else [])
  unfolding select
  at_leaf m node = go (fits m W)
    where
      go : (b : Bool)
          → map (λ (l : Leaf). l.node) (if b then record { node = node; carried = m } ∷ [] else [])
          ≡ (if b then node ∷ [] else [])
      go true = refl
      go false = refl

  -- a question has one such leaf where its two sides have
  at-question : (levels : ℕ) (m : Carrier) (node : ℕ) (asked : Asked) (yes_node no_node : ℕ)
      → Wide book m
      → node_at nodes node ≡ question asked yes_node no_node
      → OneLeaf levels (on_yes book.classes asked m) yes_node
      → OneLeaf levels (on_no book.classes asked m) no_node
      → OneLeaf (suc levels) m node
  at-question levels m node asked yes_node no_node w e on_yes_side on_no_side =
      let here = sound.position node asked yes_node no_node e in
      rw (
        below-question book levels m node asked yes_node no_node e,
        admitting-append,
        on_yes_side,
        on_no_side,
        fits-yes w asked here W,
        fits-no w asked here W,
        walk-question nodes book.classes W levels node asked yes_node no_node e,
      )
      (one_answer (fits m W) (answers book.classes W asked)
      (λ child. (walk levels nodes book.classes W child).leaf) yes_node no_node)

  one_below : (levels : ℕ) (m : Carrier) (node : ℕ) → Wide book m
      → node < length nodes → length nodes ≤ node + levels → OneLeaf levels m node
  one_below zero m node w h k = absurd (omega arith)
  one_below (suc levels) m node w h k =
      by-node nodes node
      (λ model e.
      rw (below-leaf book levels m node model e, walk-leaf nodes book.classes W levels node model e)
      (at_leaf m node))
      (λ asked yes_node no_node e.
      let (yes_later, no_later) = sound.forward node asked yes_node no_node e in
      at-question levels m node asked yes_node no_node w e
      (one_below levels _ yes_node (yes-wide w asked) yes_later.listed (omega (arith, yes_later.greater)))
      (one_below levels _ no_node (no-wide w asked) no_later.listed (omega (arith, no_later.greater))))

  -- exactly one leaf of a tree admits a context that its root admits
  pub one-leaf : (phone state : ℕ) → phone ≤ book.phones → T (fits (top_of book phone) W)
      → leaves_admitting W (leaves_of book phone state)
      ≡ leaf_reached nodes book.classes W (root_of book phone state) ∷ []
  unfolding leaves_of reached
  one-leaf phone state p h = ap (map (λ l. l.node)) (select-ascending (leaf_admits W) below few) ∙ one
    where
      below : List Leaf
      below = leaves_below (length nodes) book (top_of book phone) (root_of book phone state)

      one : leaves_admitting W below ≡ leaf_reached nodes book.classes W (root_of book phone state) ∷ []
      one =
          one_below (length nodes) (top_of book phone) (root_of book phone state)
          (top-wide book phone p) (sound.root phone state) (omega arith)
          ∙ if-true (fits (top_of book phone) W) _ [] h

      few : length (select (leaf_admits W) below) ≤ 1
      few = omega (arith, ap length one, length-map (select (leaf_admits W) below) (λ l. l.node))
