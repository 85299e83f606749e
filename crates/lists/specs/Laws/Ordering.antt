-- Laws about the order of matrices, which is the library's of slices, and about a matrix passed along a list to its place.
use Rattle.std.specs.Prelude.{◌≡◌, refl, List, [], ◌∷◌, ◌++◌, ℕ, suc, ◌+◌, ◌≤◌, ◌<◌, ltb, eqb, length, take, drop, get_or, Some, None}
use Rattle.std.proofs.Math.Path.{sym}
use Rattle.std.proofs.Common.{ap, ◌∙◌, arith, take-append-drop, drop-cons, take-suc}
use Rattle.std.proofs.Math.Numerals.{add-one}
use Rattle.std.proofs.Math.ListN.{drop_of_length-le}
use Rattle.std.proofs.Math.Seq.{append_snoc}
use Rattle.std.specs.Ordering.{is_lt, is_eq}
use Rattle.std.specs.declared.cmp.Ordering.{Ordering}
use Rattle.std.specs.declared.cmp.Ordering.TheVariants.{Less, Equal, Greater}
use borrow.Author.Tests.{ne_eqb, ltb-true}
use Rattle.definitions.specs.Lists.{same, precedes}
use Rattle.definitions.specs.Matrices.{Matrix}
use Rattle.definitions.specs.MatrixLists.{insert_matrix}
use Rattle.definitions.proofs.Laws.Lists.Tests.{by-test}
use Rattle.lists.specs.Ordering.{order_of, BelongsAt}

-- ---- the library's order is the definitions'

order-less : (m x : Matrix) → precedes m x ≡ is_lt (order_of m x)
unfolding precedes
order-less [] [] = refl
order-less [] (b ∷ x) = refl
order-less (a ∷ m) [] = refl
order-less (a ∷ m) (b ∷ x) = by-test (ltb a b) (λ e. rw e) (λ e. by-test (eqb a b)
    (λ f. rw (e, f) (order-less m x))
    (λ f. rw (e, f)))

order_same : (m x : Matrix) → same m x ≡ is_eq (order_of m x)
unfolding same
order_same [] [] = refl
order_same [] (b ∷ x) = refl
order_same (a ∷ m) [] = refl
order_same (a ∷ m) (b ∷ x) = by-test (ltb a b)
    (λ e. rw (e, ne_eqb a b (λ q. omega (arith, q, ltb-true a b e))))
    (λ e. by-test (eqb a b)
    (λ f. rw (e, f) (order_same m x))
    (λ f. rw (e, f)))

module _ (m x : Matrix) (l : List Matrix) where
  insert-before : order_of m x ≡ Less → insert_matrix m (x ∷ l) ≡ m ∷ x ∷ l
  unfolding insert_matrix
  insert-before e = rw (order_same m x, order-less m x, e)

  insert-same : order_of m x ≡ Equal → insert_matrix m (x ∷ l) ≡ x ∷ l
  unfolding insert_matrix
  insert-same e = rw (order_same m x, e)

  insert-after : order_of m x ≡ Greater → insert_matrix m (x ∷ l) ≡ x ∷ insert_matrix m l
  unfolding insert_matrix
  insert-after e = rw (order_same m x, order-less m x, e)

-- ---- along a list

-- a matrix that belongs after those before a place
pub record AfterFirst (m : Matrix) (l : List Matrix) (place : ℕ) : Type 0 where
  pub within : place ≤ length l
  pub rest : insert_matrix m l ≡ take place l ++ insert_matrix m (drop place l)

pub place-start : (m : Matrix) (l : List Matrix) → AfterFirst m l 0
place-start m l = record { within = omega arith; rest = refl }

module _ {m : Matrix} {l : List Matrix} {place : ℕ} (p : AfterFirst m l place) where
  -- by the answer how it stands to the next matrix
  module _ (h : place < length l) (x : Matrix) (e : get_or l place [] ≡ x) {answer : Ordering}
      (o : answer ≡ order_of m x)
    where
      split : drop place l ≡ x ∷ drop (suc place) l
      split = drop-cons l place [] h ∙ ap (λ (y : Matrix). y ∷ drop (suc place) l) e

      pub place-more : answer ≡ Greater → AfterFirst m l (place + 1)
      place-more a = record {
        within = omega arith;
        rest =
            p.rest
            ∙ rw (split, insert-after m x (drop (suc place) l) (sym o ∙ a), add-one, take-suc l place [] h, e)
            (sym (append_snoc (take place l) x (insert_matrix m (drop (suc place) l))));
      }

      pub place_here : answer ≡ Less → BelongsAt m l (Some place)
      place_here a = (p.within, p.rest ∙ rw (split, insert-before m x (drop (suc place) l) (sym o ∙ a)))

      pub place_known : answer ≡ Equal → BelongsAt m l None
      place_known a =
          p.rest
          ∙ ap (λ (k : List Matrix). take place l ++ k)
          (ap (insert_matrix m) split ∙ insert-same m x (drop (suc place) l) (sym o ∙ a) ∙ sym split)
          ∙ take-append-drop place l

  pub place_end : length l ≤ place → BelongsAt m l (Some place)
  unfolding insert_matrix
  place_end h = (p.within, p.rest ∙ rw (drop_of_length-le l {i = place} h))
