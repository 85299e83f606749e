-- Laws about the matrices of a tree's leaves: each lies inside the matrix that the root carries, so the root's
-- matrix is where the meeting of a combination's leaves may start. Code that holds leaves in words takes their
-- width from here.
use Rattle.std.specs.Prelude.{◌≡◌, refl, ◌≢◌, Bool, true, false, not, ◌&&◌, ℕ, ◌-◌, T, length}
use Rattle.std.proofs.Common.{sym, ◌∙◌, subst}
use Rattle.std.proofs.Math.Decide.{ℕ_discrete}
use Rattle.definitions.specs.Lists.{◌!◌, IsIn}
use Rattle.definitions.specs.Tables.{Book, root_of}
use Rattle.definitions.specs.PhoneSets.{has}
use Rattle.definitions.specs.Matrices.{Matrix, root_matrix, yes_side, no_side, meet}
use Rattle.definitions.specs.Combinations.{Leaf, leaves_below, leaves_of}
use Rattle.definitions.proofs.Laws.Lists.Tests.{T_and}
use Rattle.definitions.proofs.Laws.Matrices.Matrices.{meet-has, meet-length, yes-has, yes-other}
use Rattle.definitions.proofs.Laws.Matrices.Matrices.{yes-length, no-has, no_other, no_length}
use Rattle.definitions.proofs.Laws.Matrices.Matrices.{columns-same}
use Rattle.definitions.proofs.Laws.Trees.Leaves.{below_all, of-ascending}

-- ---- a matrix inside another

-- of its width, with no phone in a column that the other lacks there
pub record Inside (a m : Matrix) : Type 0 where
  pub width : length a ≡ length m
  pub held : (c p : ℕ) → T (has p (a ! c)) → T (has p (m ! c))

inside-self : (m : Matrix) → Inside m m
inside-self m = record { width = refl; held = λ c p h. h }

inside-trans : (a b m : Matrix) → Inside a b → Inside b m → Inside a m
inside-trans a b m i j = record { width = i.width ∙ j.width; held = λ c p h. j.held c p (i.held c p h) }

-- where one column is cut and the others stay
side-inside : (a m : Matrix) (position : ℕ) → length a ≡ length m
    → ((c : ℕ) → c ≢ position → a ! c ≡ m ! c)
    → ((p : ℕ) → T (has p (a ! position)) → T (has p (m ! position))) → Inside a m
side-inside a m position w others cut =
    record { width = w; held = λ c p h. at c p h (ℕ_discrete c position) }
  where
    at : (c p : ℕ) → T (has p (a ! c)) → Dec (c ≡ position) → T (has p (m ! c))
    at c p h (yes e) = rw e (cut p (rw e at h))
    at c p h (no e) = subst (λ (s : ℕ). T (has p s)) (others c e) h

yes-inside : (position s : ℕ) (m : Matrix) → Inside (yes_side position s m) m
yes-inside i s m = side-inside (yes_side i s m) m i (yes-length i s m) (yes-other i s m)
    (λ p h. ((T_and (has p (m ! i)) (has p s)).0 (rw yes-has at h)).0)

no-inside : (position s : ℕ) (m : Matrix) → Inside (no_side position s m) m
no-inside i s m = side-inside (no_side i s m) m i (no_length i s m) (no_other i s m)
    (λ p h. ((T_and (has p (m ! i)) (not (has p s))).0 (rw no-has at h)).0)

-- meeting it with the other changes nothing, so a meeting may start from the other
both-second : (x y : Bool) → (T y → T x) → (x && y) ≡ y
both-second true y h = refl
both-second false true h = absurd (h tt)
both-second false false h = refl

pub inside-meet : (a m : Matrix) → Inside a m → meet m a ≡ a
inside-meet a m i =
    columns-same (meet m a) a (meet-length m a (sym i.width) ∙ sym i.width)
    (λ c k p. meet-has p m a c ∙ both-second (has p (m ! c)) (has p (a ! c)) (i.held c p))

-- ---- the leaves of a tree

below-inside : (levels : ℕ) (book : Book) (m : Matrix) (node : ℕ) (l : Leaf)
    → IsIn l (leaves_below levels book m node) → Inside l.carried m
below-inside levels book m node l i =
    (below_all book (λ a n. Inside a m)
    (λ a n asked yes_node no_node e h.
    let column : ℕ = asked.position in
    let set : ℕ = book.classes ! (asked.class - 1) in (
      inside-trans (yes_side column set a) a m (yes-inside column set a) h,
      inside-trans (no_side column set a) a m (no-inside column set a) h,
    ))
    levels m node (inside-self m) l i).0

pub leaf-inside : (book : Book) (phone state : ℕ) (l : Leaf) → IsIn l (leaves_of book phone state)
    → Inside l.carried (root_matrix book.half book.phones phone)
unfolding leaves_of
leaf-inside book phone state l i =
    below-inside (length book.nodes) book _ (root_of book phone state) l (of-ascending l _ i)
