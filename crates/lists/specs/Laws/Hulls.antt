-- What lies outside the hulls does not meet: where two lists meet, their hulls do. So a search may pass over a
-- list by looking at its hull alone.
use Rattle.std.specs.Prelude.{◌≡◌, refl, ◌||◌, ℕ, ◌≤◌, ◌<◌, ltb}
use Rattle.std.proofs.Math.Path.{sym, subst}
use Rattle.std.proofs.Common.{ap, ◌∙◌, inr, arith, ltb-true, ltb-false}
use Rattle.std.proofs.Math.Logic.{inl}
use mathlib.Core.List.{List, [], ◌∷◌, map}
use Rattle.std.proofs.Math.Dec.{T}
use Rattle.std.proofs.Math.ListN.{length, get_or-eq_default}
use Rattle.std.proofs.lemmas.List.{length-replicate}
use Rattle.definitions.specs.Lists.{◌!◌, IsIn}
use Rattle.definitions.specs.PhoneSets.{has}
use Rattle.definitions.specs.Matrices.{Matrix, meet, valid}
use Rattle.definitions.specs.MatrixLists.{normal, pairs_met, meet_lists, holds_some}
use Rattle.definitions.proofs.Laws.Lists.Tests.{T_and, T-or, by-test}
use Rattle.definitions.proofs.Laws.Lists.Members.{of_map, of-concat_map}
use Rattle.definitions.proofs.Laws.Matrices.PhoneSets.{has-or, member-nonzero}
use Rattle.definitions.proofs.Laws.Matrices.Matrices.{meet-has, meet-length, valid-columns}
use Rattle.definitions.proofs.Laws.Matrices.MatrixLists.{normal-is}
use Rattle.lists.specs.Joining.{join, hull_from, hull}
use Rattle.lists.specs.Laws.Joining.{join-length, join-column}

-- a matrix lies inside another where its phones are the other's, column by column
abbrev Inside : (x hull : Matrix) → Type 0
Inside x hull = (c p : ℕ) → T (has p (x ! c)) → T (has p (hull ! c))

-- a phone stands in a column that is there
column-there : (m : Matrix) (c p : ℕ) → T (has p (m ! c)) → c < length m
column-there m c p t = by-test (ltb c (length m)) (ltb-true c (length m))
    (λ e.
    let beyond : length m ≤ c = ltb-false c (length m) e in
    absurd (member-nonzero p (m ! c) t (get_or-eq_default m 0 {n = c} beyond)))

module _ (a b : Matrix) (e : length a ≡ length b) where
  join-has : (c p : ℕ) → c < length a → has p (join a b ! c) ≡ (has p (a ! c) || has p (b ! c))
  join-has c p h = ap (has p) (join-column a b c h (omega arith)) ∙ has-or p (a ! c) (b ! c)

  join-left : Inside a (join a b)
  join-left c p t =
      rw (join-has c p (column-there a c p t)) ((T-or (has p (a ! c)) (has p (b ! c))).1 (inl t))

  join-right : Inside b (join a b)
  join-right c p t =
      let inside : c < length a = omega (arith, column-there b c p t) in
      rw (join-has c p inside) ((T-or (has p (a ! c)) (has p (b ! c))).1 (inr t))

-- matrices of one width
abbrev pub AllWide : (width : ℕ) → List Matrix → Type 0
AllWide width l = (x : Matrix) → IsIn x l → length x ≡ width

module _ (width : ℕ) where
  joined-wide : (sofar x : Matrix) → length sofar ≡ width → length x ≡ width → length (join sofar x) ≡ width
  joined-wide sofar x e f = join-length sofar x (e ∙ sym f) ∙ e

  hull-wide : (sofar : Matrix) (l : List Matrix) → length sofar ≡ width → AllWide width l
      → length (hull_from sofar l) ≡ width
  unfolding hull_from
  hull-wide sofar [] e f = e
  hull-wide sofar (x ∷ l) e f =
      hull-wide (join sofar x) l (joined-wide sofar x e (f x (inl refl))) (λ y i. f y (inr i))

  hull-keeps : (sofar : Matrix) (l : List Matrix) → length sofar ≡ width → AllWide width l
      → Inside sofar (hull_from sofar l)
  unfolding hull_from
  hull-keeps sofar [] e f c p t = t
  hull-keeps sofar (x ∷ l) e f c p t =
      hull-keeps (join sofar x) l (joined-wide sofar x e (f x (inl refl))) (λ y i. f y (inr i)) c p
      (join-left sofar x (e ∙ sym (f x (inl refl))) c p t)

  hull-takes : (sofar : Matrix) (l : List Matrix) → length sofar ≡ width → AllWide width l
      → (x : Matrix) → IsIn x l → Inside x (hull_from sofar l)
  unfolding hull_from
  hull-takes sofar [] e f x i c p t = elim i [ ]
  hull-takes sofar (y ∷ l) e f x (inl q) c p t =
      let sized : length y ≡ width = f y (inl refl) in
      hull-keeps (join sofar y) l (joined-wide sofar y e sized) (λ z i. f z (inr i)) c p
      (join-right sofar y (e ∙ sym sized) c p (subst (λ z. T (has p (z ! c))) q t))
  hull-takes sofar (y ∷ l) e f x (inr i) c p t =
      hull-takes (join sofar y) l (joined-wide sofar y e (f y (inl refl))) (λ z j. f z (inr j)) x i c p t

  hull-length : (l : List Matrix) → AllWide width l → length (hull width l) ≡ width
  unfolding hull
  hull-length l f = hull-wide _ l (length-replicate width 0) f

  -- each matrix lies inside the hull
  pub hull-has : (l : List Matrix) → AllWide width l → (x : Matrix) → IsIn x l → Inside x (hull width l)
  unfolding hull
  hull-has l f x i = hull-takes _ l (length-replicate width 0) f x i

  -- two lists that meet: a pair of matrices that do
  met-pair : (a b : List Matrix) → T (holds_some (meet_lists a b))
      → (x : Matrix) × IsIn x a × ((y : Matrix) × IsIn y b × T (valid (meet x y)))
  unfolding meet_lists holds_some
  met-pair a b t =
      let (m, i) = first (normal (pairs_met a b)) t in
      let (j, v) = (normal-is (pairs_met a b) m).0 i in
      let (x, k, p) = of-concat_map (λ z. map (meet z) b) m a j in
      let (y, l, e) = of_map (meet x) m b p in
      (x, k, (y, l, subst (λ z. T (valid z)) e v))
    where
      first : (l : List Matrix) → T (holds_some l) → (m : Matrix) × IsIn m l
      first [] h = absurd h
      first (m ∷ l) h = (m, inl refl)

  pub hulls-meet : (a b : List Matrix) → AllWide width a → AllWide width b → T (holds_some (meet_lists a b))
      → T (valid (meet (hull width a) (hull width b)))
  hulls-meet a b f g t =
      let (x, i, (y, j, v)) = met-pair a b t in
      (valid-columns (meet (hull width a) (hull width b))).1 (λ c h.
      let sized = meet-length (hull width a) (hull width b) (hull-length a f ∙ sym (hull-length b g)) in
      let own : length (meet x y) ≡ width = meet-length x y (f x i ∙ sym (g y j)) ∙ f x i in
      let (p, both) = (valid-columns (meet x y)).0 v c (omega (arith, sized, own, hull-length a f)) in
      let (r, s) = (T_and (has p (x ! c)) (has p (y ! c))).0 (subst T (meet-has p x y c) both) in (
        p,
        subst T (sym (meet-has p (hull width a) (hull width b) c))
            ((T_and (has p (hull width a ! c)) (has p (hull width b ! c))).1
            (hull-has a f x i c p r, hull-has b g y j c p s)),
      ))
