-- Laws about lists of matrices: their members, their order, how many they are; lists with the same valid members have
-- one normal form. The laws about what lists admit (demand/) and the crate `lists` use them.
use Rattle.std.specs.Prelude.{◌≡◌, refl, ◌⊎◌, ◌↔◌, List, [], ◌∷◌, ◌++◌, Bool, true, false, suc, ◌≤◌, T, length}
use Rattle.std.proofs.Common.{sym, ap, ap₂, ◌∙◌, subst, inl, inr, ⊎_elim, arith}
use Rattle.definitions.specs.Lists.{if◌then◌else◌, same, precedes, IsIn}
use Rattle.definitions.specs.Matrices.{Matrix, valid}
use Rattle.definitions.specs.MatrixLists.{insert_matrix, added, gather, normal, same_list}
use Rattle.definitions.proofs.Laws.Lists.Tests.{T_and}
use Rattle.definitions.proofs.Laws.Lists.Lists.{same_lists, same_self}
use Rattle.definitions.proofs.Laws.Lists.Orders.{Before, precedes-irreflexive, precedes-trans, precedes-total}
use Rattle.definitions.proofs.Laws.Lists.Rising.{Rising}

-- ---- members

of-insert : (m : Matrix) (l : List Matrix) (x : Matrix) → IsIn x (insert_matrix m l) → IsIn x (m ∷ l)
unfolding insert_matrix
of-insert m [] x h = h
of-insert m (y ∷ l) x h = go (same m y) (precedes m y) h (of-insert m l x)
  where
    go : (b c : Bool) → IsIn x (if b then y ∷ l else (if c then m ∷ y ∷ l else y ∷ insert_matrix m l))
        → (IsIn x (insert_matrix m l) → IsIn x (m ∷ l)) → IsIn x (m ∷ y ∷ l)
    go true c i rest = inr i
    go false true i rest = i
    go false false (inl e) rest = inr (inl e)
    go false false (inr i) rest = ⊎_elim inl (λ j. inr (inr j)) (rest i)

in_insert : (m : Matrix) (l : List Matrix) (x : Matrix) → IsIn x (m ∷ l) → IsIn x (insert_matrix m l)
unfolding insert_matrix
in_insert m [] x h = h
in_insert m (y ∷ l) x h =
    go (same m y) (precedes m y) (λ e. same_lists m y (subst T (sym e) tt)) (in_insert m l x) h
  where
    go : (b c : Bool) → (b ≡ true → m ≡ y) → (IsIn x (m ∷ l) → IsIn x (insert_matrix m l)) → IsIn x (m ∷ y ∷ l)
        → IsIn x (if b then y ∷ l else (if c then m ∷ y ∷ l else y ∷ insert_matrix m l))
    go true c eq rest (inl e) = inl (e ∙ eq refl)
    go true c eq rest (inr i) = i
    go false true eq rest i = i
    go false false eq rest (inl e) = inr (rest (inl e))
    go false false eq rest (inr (inl e)) = inl e
    go false false eq rest (inr (inr i)) = inr (rest (inr i))

of-added : (l : List Matrix) (m x : Matrix) → IsIn x (added l m) → IsIn x l ⊎ ((x ≡ m) × T (valid x))
unfolding added
of-added l m x h = go (valid m) refl h
  where
    go : (b : Bool) → valid m ≡ b → IsIn x (if b then insert_matrix m l else l)
        → IsIn x l ⊎ ((x ≡ m) × T (valid x))
    go true v i =
        ⊎_elim (λ e. inr (e, subst (λ z. T (valid z)) (sym e) (subst T (sym v) tt))) inl (of-insert m l x i)
    go false v i = inl i

in-added : (l : List Matrix) (m x : Matrix) → IsIn x l ⊎ ((x ≡ m) × T (valid x)) → IsIn x (added l m)
unfolding added
in-added l m x h = go (valid m) refl h
  where
    go : (b : Bool) → valid m ≡ b → IsIn x l ⊎ ((x ≡ m) × T (valid x))
        → IsIn x (if b then insert_matrix m l else l)
    go true v (inl i) = in_insert m l x (inr i)
    go true v (inr (e, _)) = in_insert m l x (inl e)
    go false v (inl i) = i
    go false v (inr (e, t)) = absurd (subst T (ap valid e ∙ v) t)

of-gather : (sofar l : List Matrix) (x : Matrix) → IsIn x (gather sofar l)
    → IsIn x sofar ⊎ (IsIn x l × T (valid x))
unfolding gather
of-gather sofar [] x h = inl h
of-gather sofar (m ∷ l) x h =
    ⊎_elim
    (λ i. ⊎_elim inl (λ p. inr (inl p.0, p.1)) (of-added sofar m x i))
    (λ p. inr (inr p.0, p.1))
    (of-gather (added sofar m) l x h)

in-gather : (sofar l : List Matrix) (x : Matrix) → IsIn x sofar ⊎ (IsIn x l × T (valid x))
    → IsIn x (gather sofar l)
unfolding gather
in-gather sofar [] x (inl i) = i
in-gather sofar [] x (inr p) = absurd p.0
in-gather sofar (m ∷ l) x (inl i) = in-gather (added sofar m) l x (inl (in-added sofar m x (inl i)))
in-gather sofar (m ∷ l) x (inr (inl e, v)) =
    in-gather (added sofar m) l x (inl (in-added sofar m x (inr (e, v))))
in-gather sofar (m ∷ l) x (inr (inr i, v)) = in-gather (added sofar m) l x (inr (i, v))

-- the members of a normal form: the valid ones
pub normal-is : (l : List Matrix) (x : Matrix) → IsIn x (normal l) ↔ (IsIn x l × T (valid x))
normal-is l x = (λ h. ⊎_elim (λ i. absurd i) (λ p. p) (of-gather [] l x h), λ p. in-gather [] l x (inr p))

-- ---- the test for sameness

pub same-list-is : (k l : List Matrix) → T (same_list k l) → k ≡ l
unfolding same_list
same-list-is [] [] h = refl
same-list-is [] (y ∷ l) h = absurd h
same-list-is (x ∷ k) [] h = absurd h
same-list-is (x ∷ k) (y ∷ l) h =
    let (first, others) = (T_and (same x y) (same_list k l)).0 h in
    ap₂ ◌∷◌ (same_lists x y first) (same-list-is k l others)

pub same-list-self : (l : List Matrix) → T (same_list l l)
unfolding same_list
same-list-self [] = tt
same-list-self (x ∷ l) = (T_and (same x x) (same_list l l)).1 (same_self x, same-list-self l)

-- ---- order

-- every member stands before all later ones
insert-rises : (m : Matrix) (l : List Matrix) → Rising Before l → Rising Before (insert_matrix m l)
unfolding insert_matrix
insert-rises m [] r = (λ y i. absurd i, tt)
insert-rises m (x ∷ l) r = go (same m x) (precedes m x) refl refl (insert-rises m l r.1)
  where
    go : (b c : Bool) → same m x ≡ b → precedes m x ≡ c → Rising Before (insert_matrix m l)
        → Rising Before (if b then x ∷ l else (if c then m ∷ x ∷ l else x ∷ insert_matrix m l))
    go true c e f rest = r
    go false true e f rest =
        let here : Before m x = subst T (sym f) tt in
        (λ y i. ⊎_elim (λ q. subst (Before m) (sym q) here) (λ j. precedes-trans m x y here (r.0 y j)) i, r)
    go false false e f rest =
        let there : Before x m = precedes-total m x (λ t. subst T e t) (λ t. subst T f t) in
        (λ y i. ⊎_elim (λ q. subst (Before x) (sym q) there) (r.0 y) (of-insert m l y i), rest)

pub gather-rises : (sofar l : List Matrix) → Rising Before sofar → Rising Before (gather sofar l)
unfolding gather added
gather-rises sofar [] r = r
gather-rises sofar (m ∷ l) r = gather-rises (added sofar m) l (go (valid m))
  where
    go : (b : Bool) → Rising Before (if b then insert_matrix m sofar else sofar)
    go true = insert-rises m sofar r
    go false = r

pub normal-rises : (l : List Matrix) → Rising Before (normal l)
normal-rises l = gather-rises [] l tt

-- ascending lists with the same members are the same
pub rising-same : (a b : List Matrix) → Rising Before a → Rising Before b → ((x : Matrix) → IsIn x a → IsIn x b)
    → ((x : Matrix) → IsIn x b → IsIn x a) → a ≡ b
rising-same [] [] r s f g = refl
rising-same [] (y ∷ b) r s f g = absurd (g y (inl refl))
rising-same (x ∷ a) [] r s f g = absurd (f x (inl refl))
rising-same (x ∷ a) (y ∷ b) r s f g =
    ap₂ ◌∷◌ first (rising-same a b r.1 s.1 (λ z i. later z i (f z (inr i)))
    (λ z i. back z i (g z (inr i))))
  where
    first : x ≡ y
    first = go (f x (inl refl)) (g y (inl refl))
      where
        go : (x ≡ y) ⊎ IsIn x b → (y ≡ x) ⊎ IsIn y a → x ≡ y
        go (inl e) k = e
        go (inr i) (inl e) = sym e
        go (inr i) (inr j) = absurd (precedes-irreflexive x (precedes-trans x y x (r.0 y j) (s.0 x i)))

    later : (z : Matrix) → IsIn z a → (z ≡ y) ⊎ IsIn z b → IsIn z b
    later z i (inl e) = absurd (precedes-irreflexive z (subst (λ w. Before w z) (first ∙ sym e) (r.0 z i)))
    later z i (inr j) = j

    back : (z : Matrix) → IsIn z b → (z ≡ x) ⊎ IsIn z a → IsIn z a
    back z i (inl e) = absurd (precedes-irreflexive z (subst (λ w. Before w z) (sym first ∙ sym e) (s.0 z i)))
    back z i (inr j) = j

-- so the normal form tells only which valid matrices there are
pub normal-same : (k l : List Matrix) → ((x : Matrix) → T (valid x) → IsIn x k → IsIn x l)
    → ((x : Matrix) → T (valid x) → IsIn x l → IsIn x k) → normal k ≡ normal l
normal-same k l f g =
    rising-same (normal k) (normal l) (normal-rises k) (normal-rises l)
    (λ x i. let (j, v) = (normal-is k x).0 i in (normal-is l x).1 (f x v j, v))
    (λ x i. let (j, v) = (normal-is l x).0 i in (normal-is k x).1 (g x v j, v))

-- what is normal already stays
pub normal-self : (l : List Matrix) → Rising Before l → ((x : Matrix) → IsIn x l → T (valid x)) → normal l ≡ l
normal-self l r v =
    rising-same (normal l) l (normal-rises l) r (λ x i. ((normal-is l x).0 i).0)
    (λ x i. (normal-is l x).1 (i, v x i))

-- ---- how many they are: no matrix is lost again

pub insert-longer : (m : Matrix) (l : List Matrix) → length l ≤ length (insert_matrix m l)
unfolding insert_matrix
insert-longer m [] = omega arith
insert-longer m (x ∷ l) = go (same m x) (precedes m x) (insert-longer m l)
  where
    go : (b c : Bool) → length l ≤ length (insert_matrix m l)
        → suc (length l) ≤ length (if b then x ∷ l else (if c then m ∷ x ∷ l else x ∷ insert_matrix m l))
    go true c rest = omega arith
    go false true rest = omega arith
    go false false rest = omega arith

added-longer : (l : List Matrix) (m : Matrix) → length l ≤ length (added l m)
unfolding added
added-longer l m = go (valid m)
  where
    go : (b : Bool) → length l ≤ length (if b then insert_matrix m l else l)
    go true = insert-longer m l
    go false = omega arith

pub gather-longer : (sofar l : List Matrix) → length sofar ≤ length (gather sofar l)
unfolding gather
gather-longer sofar [] = omega arith
gather-longer sofar (m ∷ l) = omega (arith, added-longer sofar m, gather-longer (added sofar m) l)

pub gather_append : (sofar k l : List Matrix) → gather sofar (k ++ l) ≡ gather (gather sofar k) l
unfolding gather
gather_append sofar [] l = refl
gather_append sofar (m ∷ k) l = gather_append (added sofar m) k l
