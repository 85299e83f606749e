-- Laws about the elements of a list: which are in a list built from others, at which place, and no element
-- twice. The proofs about tables, arcs, leaves and combinations use them. The library's own membership is an
-- indexed type; this one computes on the list, so a proof of it is taken apart by `inl` and `inr`.
use Rattle.std.specs.Prelude.{◌≡◌, refl, ◌⊎◌, ◌↔◌, List, [], ◌∷◌, ◌++◌, map, Bool, true, false, ℕ, zero, suc, ◌+◌, ◌≤◌, ◌<◌, T, eqb, length, get_or}
use Rattle.std.proofs.Common.{sym, ap, ap₂, subst, inl, inr, ⊎_elim, arith, eqb→eq}
use Rattle.std.proofs.Math.Decide.{ℕ_discrete}
use Rattle.std.proofs.Math.Dec.{eqb_refl}
use Rattle.definitions.specs.Lists.{IsIn, Distinct, if◌then◌else◌, every, at_least_one, concat_map, up_from}
use Rattle.definitions.proofs.Laws.Lists.Tests.{T-or}
use Rattle.definitions.proofs.Laws.Lists.Lists.{every-cons}

-- ---- lists one after the other

pub in_left : {A : Type 0} (x : A) (k l : List A) → IsIn x k → IsIn x (k ++ l)
in_left x (y ∷ k) l (inl e) = inl e
in_left x (y ∷ k) l (inr h) = inr (in_left x k l h)
in_left x [] l h = absurd h

pub in_right : {A : Type 0} (x : A) (k l : List A) → IsIn x l → IsIn x (k ++ l)
in_right x [] l h = h
in_right x (y ∷ k) l h = inr (in_right x k l h)

pub of-append : {A : Type 0} (x : A) (k l : List A) → IsIn x (k ++ l) → IsIn x k ⊎ IsIn x l
of-append x [] l h = inr h
of-append x (y ∷ k) l (inl e) = inl (inl e)
of-append x (y ∷ k) l (inr h) = go (of-append x k l h)
  where
    go : IsIn x k ⊎ IsIn x l → IsIn x (y ∷ k) ⊎ IsIn x l
    go (inl i) = inl (inr i)
    go (inr i) = inr i

pub of-single : {A : Type 0} (y x : A) → IsIn x (y ∷ []) → x ≡ y
of-single y x (inl e) = e
of-single y x (inr h) = absurd h

-- ---- what elements give

pub in_map : {A B : Type 0} (f : A → B) (x : A) (l : List A) → IsIn x l → IsIn (f x) (map f l)
in_map f x [] h = absurd h
in_map f x (y ∷ l) (inl e) = inl (ap f e)
in_map f x (y ∷ l) (inr h) = inr (in_map f x l h)

pub of_map : {A B : Type 0} (f : A → B) (y : B) (l : List A) → IsIn y (map f l)
    → (x : A) × IsIn x l × (y ≡ f x)
of_map f y [] h = absurd h
of_map f y (x ∷ l) (inl e) = (x, inl refl, e)
of_map f y (x ∷ l) (inr h) = let (z, i, e) = of_map f y l h in (z, inr i, e)

pub in-concat_map : {A B : Type 0} (f : A → List B) (x : A) (y : B) (l : List A) → IsIn x l → IsIn y (f x)
    → IsIn y (concat_map f l)
unfolding concat_map
in-concat_map f x y [] h i = absurd h
in-concat_map f x y (z ∷ l) (inl e) i =
    in_left y (f z) (concat_map f l) (subst (λ w. IsIn y (f w)) e i)
in-concat_map f x y (z ∷ l) (inr h) i = in_right y (f z) (concat_map f l) (in-concat_map f x y l h i)

pub of-concat_map : {A B : Type 0} (f : A → List B) (y : B) (l : List A) → IsIn y (concat_map f l)
    → (x : A) × IsIn x l × IsIn y (f x)
unfolding concat_map
of-concat_map f y [] h = absurd h
of-concat_map {A} f y (x ∷ l) h = go (of-append y (f x) (concat_map f l) h) (λ i. of-concat_map f y l i)
  where
    go : IsIn y (f x) ⊎ IsIn y (concat_map f l)
        → (IsIn y (concat_map f l) → (z : A) × IsIn z l × IsIn y (f z))
        → (z : A) × IsIn z (x ∷ l) × IsIn y (f z)
    go (inl i) rest = (x, inl refl, i)
    go (inr i) rest = let (z, j, k) = rest i in (z, inr j, k)

-- what gives the same for each element
pub concat_map-same : {A B : Type 0} (f g : A → List B) (l : List A) → ((x : A) → IsIn x l → f x ≡ g x)
    → concat_map f l ≡ concat_map g l
unfolding concat_map
concat_map-same f g [] h = refl
concat_map-same f g (x ∷ l) h = ap₂ ◌++◌ (h x (inl refl)) (concat_map-same f g l (λ y i. h y (inr i)))

pub map_same : {A B : Type 0} (f g : A → B) (l : List A) → ((x : A) → IsIn x l → f x ≡ g x) → map f l ≡ map g l
map_same f g [] h = refl
map_same f g (x ∷ l) h = ap₂ ◌∷◌ (h x (inl refl)) (map_same f g l (λ y i. h y (inr i)))

-- what gives each element back gives the list back
pub map_back : {A B : Type 0} (f : A → B) (g : B → A) (l : List A) → ((x : A) → IsIn x l → g (f x) ≡ x)
    → map g (map f l) ≡ l
map_back f g [] h = refl
map_back {A} f g (x ∷ l) h =
    ap₂ (λ (y : A) (k : List A). y ∷ k) (h x (inl refl)) (map_back f g l (λ y i. h y (inr i)))

-- ---- counting up

pub of-up_from : (a count x : ℕ) → IsIn x (up_from a count) → (a ≤ x) × (x < a + count)
unfolding up_from
of-up_from a zero x h = absurd h
of-up_from a (suc count) x (inl e) = omega arith
of-up_from a (suc count) x (inr h) = omega (arith, of-up_from (suc a) count x h)

pub in-up_from : (a count x : ℕ) → a ≤ x → x < a + count → IsIn x (up_from a count)
unfolding up_from
in-up_from a zero x h k = absurd (omega arith)
in-up_from a (suc count) x h k = go (ℕ_discrete x a) (λ i. in-up_from (suc a) count x i (omega arith))
  where
    go : Dec (x ≡ a) → (suc a ≤ x → IsIn x (up_from (suc a) count)) → IsIn x (a ∷ up_from (suc a) count)
    go (yes e) rest = inl e
    go (no e) rest = inr (rest (omega arith))

-- a test that each element passes
pub every_in : {A : Type 0} (test : A → Bool) (l : List A) → ((x : A) → IsIn x l → T (test x))
    → T (every test l)
unfolding every
every_in test [] h = tt
every_in test (x ∷ l) h = (every-cons test x l).1 (h x (inl refl), every_in test l (λ y i. h y (inr i)))

pub in-every : {A : Type 0} (test : A → Bool) (l : List A) → T (every test l) → (x : A) → IsIn x l
    → T (test x)
in-every test [] h x i = absurd i
in-every test (y ∷ l) h x (inl e) = subst (λ z. T (test z)) (sym e) ((every-cons test y l).0 h).0
in-every test (y ∷ l) h x (inr i) = in-every test l ((every-cons test y l).0 h).1 x i

-- and so a weaker one
pub every-weaker : {A : Type 0} (test weaker : A → Bool) → ((x : A) → T (test x) → T (weaker x)) → (l : List A)
    → T (every test l) → T (every weaker l)
every-weaker test weaker f l h = every_in weaker l (λ x i. f x (in-every test l h x i))

-- a test holds of some element exactly when it holds of one that is in the list
of_some : {A : Type 0} (test : A → Bool) (l : List A) → T (at_least_one test l) → (x : A) × IsIn x l × T (test x)
unfolding at_least_one
of_some test [] h = absurd h
of_some test (y ∷ l) h =
    ⊎_elim (λ t. (y, inl refl, t)) (λ t. let (x, i, k) = of_some test l t in (x, inr i, k))
    ((T-or (test y) (at_least_one test l)).0 h)

in_some : {A : Type 0} (test : A → Bool) (x : A) (l : List A) → IsIn x l → T (test x) → T (at_least_one test l)
unfolding at_least_one
in_some test x [] i t = i
in_some test x (y ∷ l) (inl e) t =
    (T-or (test y) (at_least_one test l)).1 (inl (subst (λ z. T (test z)) e t))
in_some test x (y ∷ l) (inr i) t = (T-or (test y) (at_least_one test l)).1 (inr (in_some test x l i t))

pub some_is : {A : Type 0} (test : A → Bool) (l : List A)
    → T (at_least_one test l) ↔ ((x : A) × IsIn x l × T (test x))
some_is test l = (of_some test l, λ (x, i, t). in_some test x l i t)

-- the test whether a number is listed
pub listed : (x : ℕ) (l : List ℕ) → T (at_least_one (eqb x) l) ↔ IsIn x l
listed x l = (
  λ h. let (y, i, t) = (some_is (eqb x) l).0 h in subst (λ z. IsIn z l) (sym (eqb→eq x y t)) i,
  λ i. (some_is (eqb x) l).1 (x, i, eqb_refl x),
)

-- ---- an element that is there if a test holds

module _ {A : Type 0} (y : A) (l : List A) where
  pub of-kept : (b : Bool) (x : A) → IsIn x (if b then y ∷ l else l) → (T b × (x ≡ y)) ⊎ IsIn x l
  of-kept true x (inl e) = inl (tt, e)
  of-kept true x (inr h) = inr h
  of-kept false x h = inr h

  pub in_kept : (b : Bool) (x : A) → T b → x ≡ y → IsIn x (if b then y ∷ l else l)
  in_kept true x t e = inl e
  in_kept false x t e = absurd t

  pub in_after : (b : Bool) (x : A) → IsIn x l → IsIn x (if b then y ∷ l else l)
  in_after true x h = inr h
  in_after false x h = h

  pub Distinct-kept : (b : Bool) → Distinct l → (IsIn y l → ⊥) → Distinct (if b then y ∷ l else l)
  Distinct-kept true u new = (new, u)
  Distinct-kept false u new = u

pub of_one : {A : Type 0} (y : A) (b : Bool) (x : A) → IsIn x (if b then y ∷ [] else []) → T b × (x ≡ y)
of_one y b x h = ⊎_elim (λ p. p) (λ i. absurd i) (of-kept y [] b x h)

-- ---- places

pub in-at : {A : Type 0} (l : List A) (i : ℕ) (d : A) → i < length l → IsIn (get_or l i d) l
in-at [] i d h = absurd (omega arith)
in-at (x ∷ l) zero d h = inl refl
in-at (x ∷ l) (suc i) d h = inr (in-at l i d (omega arith))

pub place_of : {A : Type 0} (x : A) (l : List A) (d : A) → IsIn x l
    → (i : ℕ) × (i < length l) × (get_or l i d ≡ x)
place_of x [] d h = absurd h
place_of x (y ∷ l) d (inl e) = (0, omega arith, sym e)
place_of x (y ∷ l) d (inr h) = let (i, k, e) = place_of x l d h in (suc i, omega arith, e)

-- ---- no element twice

-- two places of one element are one place
pub same_place : {A : Type 0} (l : List A) (d : A) → Distinct l → (i j : ℕ) → i < length l → j < length l
    → get_or l i d ≡ get_or l j d → i ≡ j
same_place [] d u i j h k e = absurd (omega arith)
same_place (x ∷ l) d u zero zero h k e = refl
same_place (x ∷ l) d u zero (suc j) h k e =
    absurd (u.0 (subst (λ y. IsIn y l) (sym e) (in-at l j d (omega arith))))
same_place (x ∷ l) d u (suc i) zero h k e =
    absurd (u.0 (subst (λ y. IsIn y l) e (in-at l i d (omega arith))))
same_place (x ∷ l) d u (suc i) (suc j) h k e =
    ap suc (same_place l d u.1 i j (omega arith) (omega arith) e)

pub distinct_append : {A : Type 0} (k l : List A) → Distinct k → Distinct l
    → ((x : A) → IsIn x k → IsIn x l → ⊥) → Distinct (k ++ l)
distinct_append [] l u v apart = v
distinct_append {A} (x ∷ k) l u v apart =
    (λ h. go (of-append x k l h), distinct_append k l u.1 v (λ y i j. apart y (inr i) j))
  where
    go : IsIn x k ⊎ IsIn x l → ⊥
    go (inl i) = u.0 i
    go (inr i) = apart x (inl refl) i

-- one element more, at the end
pub distinct_more : {A : Type 0} (l : List A) (x : A) → Distinct l → (IsIn x l → ⊥) → Distinct (l ++ (x ∷ []))
distinct_more {A} l x u new = distinct_append l (x ∷ []) u (λ h. h, tt) apart
  where
    apart : (y : A) → IsIn y l → IsIn y (x ∷ []) → ⊥
    apart y i (inl e) = new (subst (λ z. IsIn z l) e i)
    apart y i (inr h) = h

-- what tells elements apart keeps them apart
pub Distinct-map : {A B : Type 0} (f : A → B) (l : List A) → Distinct l
    → ((x y : A) → IsIn x l → IsIn y l → f x ≡ f y → x ≡ y) → Distinct (map f l)
Distinct-map f [] u one = tt
Distinct-map {A} {B} f (x ∷ l) u one =
    (twice, Distinct-map f l u.1 (λ y z i j e. one y z (inr i) (inr j) e))
  where
    twice : IsIn (f x) (map f l) → ⊥
    twice h =
        let (y, i, e) = of_map f (f x) l h in
        u.0 (subst (λ z. IsIn z l) (sym (one x y (inl refl) (inr i) e)) i)

-- lists that share no element, each without one twice
pub Distinct-concat_map : {A B : Type 0} (f : A → List B) (l : List A) → Distinct l
    → ((x : A) → IsIn x l → Distinct (f x))
    → ((x y : A) (b : B) → IsIn x l → IsIn y l → IsIn b (f x) → IsIn b (f y) → x ≡ y)
    → Distinct (concat_map f l)
unfolding concat_map
Distinct-concat_map f [] u each apart = tt
Distinct-concat_map {A} {B} f (x ∷ l) u each apart =
    distinct_append (f x) (concat_map f l) (each x (inl refl))
    (Distinct-concat_map f l u.1 (λ y i. each y (inr i)) (λ y z b i j. apart y z b (inr i) (inr j)))
    shared
  where
    shared : (b : B) → IsIn b (f x) → IsIn b (concat_map f l) → ⊥
    shared b i j =
        let (y, k, m) = of-concat_map f b l j in
        u.0 (subst (λ z. IsIn z l) (sym (apart x y b (inl refl) (inr k) i m)) k)

-- the parts of a list without an element twice are such lists, and share none
pub Distinct-left : {A : Type 0} (k l : List A) → Distinct (k ++ l) → Distinct k
Distinct-left [] l u = tt
Distinct-left (x ∷ k) l u = (λ h. u.0 (in_left x k l h), Distinct-left k l u.1)

pub Distinct-right : {A : Type 0} (k l : List A) → Distinct (k ++ l) → Distinct l
Distinct-right [] l u = u
Distinct-right (x ∷ k) l u = Distinct-right k l u.1

pub distinct_apart : {A : Type 0} (x : A) (k l : List A) → Distinct (k ++ l) → IsIn x k → IsIn x l → ⊥
distinct_apart x [] l u h i = h
distinct_apart x (y ∷ k) l u (inl e) i = u.0 (in_right y k l (subst (λ z. IsIn z l) e i))
distinct_apart x (y ∷ k) l u (inr h) i = distinct_apart x k l u.1 h i
