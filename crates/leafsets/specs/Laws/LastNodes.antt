-- Laws about the greatest node of leaves: of leaves one after the other, and beside any bound of their nodes.
use Rattle.std.specs.Prelude.{◌≡◌, refl, List, [], ◌∷◌, ◌++◌, ℕ, ◌≤◌, ◌<◌, max}
use Rattle.std.proofs.Common.{ap, ◌∙◌, inl, inr, arith}
use Rattle.definitions.specs.Combinations.{Leaf}
use Rattle.definitions.specs.Lists.{IsIn}
use Rattle.leafsets.specs.Leaves.{last_node}

pub last-append : (k l : List Leaf) → last_node (k ++ l) ≡ max (last_node k) (last_node l)
unfolding last_node
last-append [] l = omega arith
last-append (x ∷ k) l = ap (max x.node) (last-append k l) ∙ omega arith

pub last-most : (leaves : List Leaf) (l : Leaf) → IsIn l leaves → l.node ≤ last_node leaves
unfolding last_node
last-most (x ∷ leaves) l (inl e) = rw e (omega arith)
last-most (x ∷ leaves) l (inr i) = omega (arith, last-most leaves l i)
last-most [] l i = absurd i

pub last-below : (bound : ℕ) → 0 < bound → (leaves : List Leaf)
    → ((l : Leaf) → IsIn l leaves → l.node < bound) → last_node leaves < bound
unfolding last_node
last-below bound some [] below = some
last-below bound some (x ∷ leaves) below =
    omega (arith, below x (inl refl), last-below bound some leaves (λ l i. below l (inr i)))
