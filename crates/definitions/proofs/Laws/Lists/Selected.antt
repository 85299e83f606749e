-- Laws about the elements of a list that pass a test: of lists joined, of none, of exactly one.
-- The idea: "exactly one passes" is the equation `select test l ≡ x ∷ []`, which goes through `++` and
-- `concat_map`. The proof that a context has one leaf in a tree and one combination in a book uses them.
use Rattle.std.specs.Prelude.{◌≡◌, ◌⊎◌, Bool, ℕ, zero, suc, ◌+◌, ◌≤◌, ◌<◌, eqb, length, get_or}
use Rattle.std.proofs.Math.Path.{refl, subst}
use Rattle.std.proofs.Common.{sym, ap, ap₂, ◌∙◌, inl, inr, arith, eqb-true, ne_eqb}
use mathlib.Core.List.{List, [], ◌∷◌, ◌++◌, map, append-nil, nil≢cons, head-eq_of_cons-eq, tail-eq_of_cons-eq}
use Rattle.std.proofs.Math.Bool.{true, false}
use Rattle.std.proofs.Math.Dec.{T}
use Rattle.std.proofs.lemmas.Bool.{eqb-false}
use Rattle.definitions.specs.Lists.{if◌then◌else◌, select, concat_map, up_from, IsIn}
use Rattle.definitions.proofs.Laws.Lists.Members.{of-up_from, of-kept, in_kept, in_after, in-at}

module _ {A : Type 0} (test : A → Bool) where
  -- ---- the first element passes, or does not

  pub select-here : (x : A) (l : List A) → test x ≡ true → select test (x ∷ l) ≡ x ∷ select test l
  unfolding select
  select-here x l e = rw e

  pub select-past : (x : A) (l : List A) → test x ≡ false → select test (x ∷ l) ≡ select test l
  unfolding select
  select-past x l e = rw e

  -- ---- lists joined

  pub select-append : (k l : List A) → select test (k ++ l) ≡ select test k ++ select test l
  unfolding select
  select-append [] l = refl
  select-append (x ∷ k) l = rw (select-append k l) (go (test x))
    where
      go : (b : Bool)
          → (if b then x ∷ (select test k ++ select test l) else select test k ++ select test l)
          ≡ (if b then x ∷ select test k else select test k) ++ select test l
      go true = refl
      go false = refl

  -- ---- none

  pub select-none : (l : List A) → ((x : A) → IsIn x l → test x ≡ false) → select test l ≡ []
  unfolding select
  select-none [] h = refl
  select-none (x ∷ l) h = select-past x l (h x (inl refl)) ∙ select-none l (λ y i. h y (inr i))

  -- ---- the same where another test agrees

  pub select-same : (other : A → Bool) (l : List A) → ((x : A) → IsIn x l → test x ≡ other x)
      → select test l ≡ select other l
  unfolding select
  select-same other [] h = refl
  select-same other (x ∷ l) h = rw (h x (inl refl), select-same other l (λ y i. h y (inr i)))

  -- ---- which elements are left

  pub in-select : (x : A) (l : List A) → IsIn x l → T (test x) → IsIn x (select test l)
  unfolding select
  in-select x [] h t = absurd h
  in-select x (y ∷ l) (inl e) t =
      in_kept y (select test l) (test y) x (subst (λ z. T (test z)) e t) e
  in-select x (y ∷ l) (inr h) t = in_after y (select test l) (test y) x (in-select x l h t)

  pub of-select : (x : A) (l : List A) → IsIn x (select test l) → IsIn x l × T (test x)
  unfolding select
  of-select x [] h = absurd h
  of-select x (y ∷ l) h = go (of-kept y (select test l) (test y) x h) (λ i. of-select x l i)
    where
      go : (T (test y) × (x ≡ y)) ⊎ IsIn x (select test l)
          → (IsIn x (select test l) → IsIn x l × T (test x)) → IsIn x (y ∷ l) × T (test x)
      go (inl (t, e)) rest = (inl e, subst (λ z. T (test z)) (sym e) t)
      go (inr i) rest = let (there, passes) = rest i in (inr there, passes)

  -- ---- exactly one

  pub one_passes : (l : List A) (x : A) → select test l ≡ x ∷ [] → IsIn x l × T (test x)
  one_passes l x e = of-select x l (subst (λ k. IsIn x k) (sym e) (inl refl))

  -- x stands at one place of the list, and no other place holds an element that passes
  abbrev pub OnlyAt : (l : List A) (x d : A) → Type 0
  OnlyAt l x d =
      (j : ℕ) × (j < length l) × (get_or l j d ≡ x) × ((i : ℕ) → i < length l → T (test (get_or l i d)) → i ≡ j)

  only-first : (l : List A) (y d : A) → select test l ≡ [] → OnlyAt (y ∷ l) y d
  only-first l y d e = (0, omega arith, refl, only)
    where
      only : (i : ℕ) → i < suc (length l) → T (test (get_or (y ∷ l) i d)) → i ≡ 0
      only zero h p = refl
      only (suc i) h p =
          let x : A = get_or l i d in
          absurd (subst (λ k. IsIn x k) e (in-select x l (in-at l i d (omega arith)) p))

  only-later : (l : List A) (x y d : A) → test y ≡ false → OnlyAt l x d → OnlyAt (y ∷ l) x d
  only-later l x y d e (j, h, k, only) = (suc j, omega arith, k, later)
    where
      later : (i : ℕ) → i < suc (length l) → T (test (get_or (y ∷ l) i d)) → i ≡ suc j
      later zero h p = absurd (subst T e p)
      later (suc i) h p = ap suc (only i (omega arith) p)

  pub select-one : (l : List A) (x d : A) → select test l ≡ x ∷ [] → OnlyAt l x d
  unfolding select
  select-one [] x d e = absurd (nil≢cons e)
  select-one (y ∷ l) x d e = go (test y) refl e (λ k. select-one l x d k)
    where
      go : (b : Bool) → test y ≡ b → (if b then y ∷ select test l else select test l) ≡ x ∷ []
          → (select test l ≡ x ∷ [] → OnlyAt l x d) → OnlyAt (y ∷ l) x d
      go true t k rest =
          subst (λ z. OnlyAt (y ∷ l) z d) (head-eq_of_cons-eq k) (only-first l y d (tail-eq_of_cons-eq k))
      go false t k rest = only-later l x y d t (rest k)

-- ---- what elements give, one after the other

pub select-concat_map : {A B : Type 0} (test : B → Bool) (f : A → List B) (l : List A)
    → select test (concat_map f l) ≡ concat_map (λ x. select test (f x)) l
unfolding select concat_map
select-concat_map test f [] = refl
select-concat_map test f (x ∷ l) =
    select-append test (f x) (concat_map f l)
    ∙ ap (λ m. select test (f x) ++ m) (select-concat_map test f l)

-- where elements that do not pass give nothing, those that pass give all
concat_map-select : {A B : Type 0} (test : A → Bool) (f : A → List B) (l : List A)
    → ((x : A) → IsIn x l → test x ≡ false → f x ≡ []) → concat_map f l ≡ concat_map f (select test l)
unfolding select concat_map
concat_map-select test f [] h = refl
concat_map-select test f (x ∷ l) h =
    go (test x) refl (concat_map-select test f l (λ y i. h y (inr i)))
  where
    go : (b : Bool) → test x ≡ b → concat_map f l ≡ concat_map f (select test l)
        → f x ++ concat_map f l ≡ concat_map f (if b then x ∷ select test l else select test l)
    go true e rest = ap (λ m. f x ++ m) rest
    go false e rest = ap₂ ◌++◌ (h x (inl refl) e) rest

-- where one passes, what it gives is all
pub concat_map-one : {A B : Type 0} (test : A → Bool) (f : A → List B) (l : List A) (x : A)
    → select test l ≡ x ∷ [] → ((y : A) → IsIn y l → test y ≡ false → f y ≡ []) → concat_map f l ≡ f x
unfolding concat_map
concat_map-one test f l x e h = concat_map-select test f l h ∙ ap (concat_map f) e ∙ append-nil (f x)

-- one image is of one element
pub map-one : {A B : Type 0} (f : A → B) (l : List A) (y : B) → map f l ≡ y ∷ []
    → (x : A) × (l ≡ x ∷ []) × (f x ≡ y)
map-one f [] y e = absurd (nil≢cons e)
map-one f (x ∷ []) y e = (x, refl, head-eq_of_cons-eq e)
map-one f (x ∷ z ∷ l) y e = absurd (nil≢cons (sym (tail-eq_of_cons-eq e)))

-- ---- counting up

pub select-up_from : (a count q : ℕ) → a ≤ q → q < a + count → select (eqb q) (up_from a count) ≡ q ∷ []
unfolding up_from
select-up_from a zero q h k = absurd (omega arith)
select-up_from a (suc count) q h k = go (eqb q a) refl (λ l. select-up_from (suc a) count q l (omega arith))
  where
    none : q ≡ a → select (eqb q) (up_from (suc a) count) ≡ []
    none e = select-none (eqb q) (up_from (suc a) count) λ p i.
        ne_eqb q p (λ s. omega (arith, of-up_from (suc a) count p i))

    go : (b : Bool) → eqb q a ≡ b → (suc a ≤ q → select (eqb q) (up_from (suc a) count) ≡ q ∷ [])
        → select (eqb q) (a ∷ up_from (suc a) count) ≡ q ∷ []
    go true e rest =
        let here : q ≡ a = eqb-true q a e in
        select-here (eqb q) a (up_from (suc a) count) e ∙ ap₂ ◌∷◌ (sym here) (none here)
    go false e rest =
        let there : (q ≡ a → ⊥) = eqb-false q a e in
        select-past (eqb q) a (up_from (suc a) count) e ∙ rest (omega arith)
