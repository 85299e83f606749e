-- Laws about the members that the writer of tree books states of its classes: reading makes the same sets of
-- them, they lie within the header's counts, and they ascend strictly by (class, phone).
-- The idea: the members of one class stand together, and later ones are of later classes, so all three go class
-- by class. The laws about the texts of books use them.
use Rattle.std.specs.Prelude.{◌≡◌, ◌&&◌, T, eqb, length}
use Rattle.std.proofs.Math.Path.{refl, ap₂}
use Rattle.std.proofs.Common.{ap, ◌∙◌, subst, inl, inr, arith, ltb→lt, eq-eqb, ne_eqb}
use Rattle.std.proofs.Math.Logic.{⊎_elim}
use mathlib.Core.List.{List, [], ◌∷◌, ◌++◌, map, map-append, append_assoc, append-nil}
use Prim.Native.Nat.{ℕ, zero, suc, ◌+◌, ◌^◌, ◌≤◌, ◌<◌}
use Rattle.std.proofs.Math.Dec.{ltb, lt→ltb, eqb_refl}
use Rattle.definitions.specs.Lists.{every, select, last_passes, up_from, IsIn}
use Rattle.definitions.specs.PhoneSets.{has, set_of}
use Rattle.definitions.specs.BookLines.{Member}
use Rattle.definitions.specs.BookReading.{comes_before}
use Rattle.definitions.specs.Tables.{phones_of_class, class_sets}
use Rattle.definitions.specs.BookText.{member_of, phones_in, members_from}
use Rattle.definitions.proofs.Laws.Lists.Tests.{T_and, T-or, same_tests}
use Rattle.definitions.proofs.Laws.Lists.Lists.{every-cons}
use Rattle.definitions.proofs.Laws.Lists.Members.{of-append, of_map, of-up_from, in-up_from, listed}
use Rattle.definitions.proofs.Laws.Lists.Selected.{select-append, select-none, in-select, of-select}
use Rattle.definitions.proofs.Laws.Lists.Rising.{Rising, rising-append, rising-up_from, rising-select}
use Rattle.definitions.proofs.Laws.Lists.Rising.{rising-map, rising-last}
use Rattle.definitions.proofs.Laws.Matrices.PhoneSets.{has_listed, has-below, same-members}

-- ---- the phones of a set

-- the set of the phones of a set is the set
pub phones-again : (phones set : ℕ) → set < 2 ^ phones → set_of (phones_in phones set) ≡ set
unfolding has
phones-again phones set h = same-members (set_of (phones_in phones set)) set agree
  where
    kept : (p : ℕ) → T (has p set) → IsIn p (phones_in phones set)
    kept p t =
        let (low, high) = has-below p set phones h t in
        in-select (λ p. has p set) p (up_from 1 phones) (in-up_from 1 phones p (omega arith) (omega arith)) t

    agree : (p : ℕ) → has p (set_of (phones_in phones set)) ≡ has p set
    agree zero = refl
    agree (suc i) =
        let p : ℕ = suc i in
        let there = listed p (phones_in phones set) in
        has_listed i (phones_in phones set)
        ∙ same_tests _ (has p set)
        (λ t. (of-select (λ p. has p set) p (up_from 1 phones) (there.0 t)).1) (λ t. there.1 (kept p t))

-- ---- the phones of a class

class-append : (class : ℕ) (k l : List Member)
    → phones_of_class class (k ++ l) ≡ phones_of_class class k ++ phones_of_class class l
unfolding phones_of_class
class-append class k l = rw (select-append (λ m. eqb m.class class) k l, map-append)

class-none : (class : ℕ) (l : List Member) → ((m : Member) → IsIn m l → (m.class ≡ class) → ⊥)
    → phones_of_class class l ≡ []
unfolding phones_of_class
class-none class l other =
    rw (select-none (λ m. eqb m.class class) l (λ m i. ne_eqb m.class class (other m i)))

class-own : (class : ℕ) (phones : List ℕ) → phones_of_class class (map (member_of class) phones) ≡ phones
unfolding phones_of_class select
class-own class [] = refl
class-own class (p ∷ phones) =
    rw (eq-eqb class class refl) (ap (λ (l : List ℕ). p ∷ l) (class-own class phones))

module _ (phones : ℕ) where
  -- ---- members in range

  -- the members of one class
  abbrev own : (class set : ℕ) → List Member
  own class set = map (member_of class) (phones_in phones set)

  of-own : (class set : ℕ) (m : Member) → IsIn m (own class set)
      → (m.class ≡ class) × (1 ≤ m.phone) × (m.phone ≤ phones)
  of-own class set m h =
      let (p, i, e) = of_map (member_of class) m (phones_in phones set) h in
      let (low, high) = of-up_from 1 phones p (of-select (λ p. has p set) p (up_from 1 phones) i).0 in
      rw e (refl, low, omega arith)

  of_members : (class : ℕ) (sets : List ℕ) (m : Member) → IsIn m (members_from phones class sets)
      → (class ≤ m.class) × (m.class < class + length sets) × (1 ≤ m.phone) × (m.phone ≤ phones)
  unfolding members_from
  of_members class [] m h = absurd h
  of_members class (set ∷ sets) m h =
      ⊎_elim (λ i. omega (arith, of-own class set m i)) (λ i. omega (arith, of_members (suc class) sets m i))
      (of-append m (own class set) (members_from phones (suc class) sets) h)

  pub members-within : (sets : List ℕ) (m : Member) → IsIn m (members_from phones 1 sets)
      → (1 ≤ m.class) × (m.class ≤ length sets) × (1 ≤ m.phone) × (m.phone ≤ phones)
  members-within sets m h = omega (arith, of_members 1 sets m h)

  -- ---- the sets

  -- with members of lower classes before them
  sets-from : (class : ℕ) (sets : List ℕ) (done : List Member)
      → ((m : Member) → IsIn m done → m.class < class) → T (every (λ set. ltb set (2 ^ phones)) sets)
      → map (λ c. set_of (phones_of_class c (done ++ members_from phones class sets))) (up_from class (length sets))
      ≡ sets
  unfolding members_from up_from
  sets-from class [] done lower h = refl
  sets-from class (set ∷ sets) done lower h =
      let (below, others) = (every-cons (λ set. ltb set (2 ^ phones)) set sets).0 h in
      ap₂ ◌∷◌ (ap set_of found ∙ phones-again phones set (ltb→lt _ _ below))
      (subst (λ (l : List Member). map (λ c. set_of (phones_of_class c l)) (up_from (suc class) (length sets)) ≡ sets)
      (append_assoc done (own class set) later)
      (sets-from (suc class) sets (done ++ own class set) up_to others))
    where
      later : List Member
      later = members_from phones (suc class) sets

      found : phones_of_class class (done ++ (own class set ++ later)) ≡ phones_in phones set
      found =
          rw (
            class-append class done (own class set ++ later),
            class-append class (own class set) later,
            class-none class done (λ m i e. omega (arith, lower m i)),
            class-own class (phones_in phones set),
            class-none class later (λ m i e. omega (arith, of_members (suc class) sets m i)),
          ) (append-nil (phones_in phones set))

      up_to : (m : Member) → IsIn m (done ++ own class set) → m.class < suc class
      up_to m h =
          ⊎_elim (λ i. omega (arith, lower m i)) (λ i. omega (arith, of-own class set m i))
          (of-append m done (own class set) h)

  pub sets-again : (sets : List ℕ) → T (every (λ set. ltb set (2 ^ phones)) sets)
      → class_sets (length sets) (members_from phones 1 sets) ≡ sets
  unfolding class_sets
  sets-again sets h = sets-from 1 sets [] (λ m i. absurd i) h

  -- ---- in order

  abbrev MemberBefore : Member → Member → Type 0
  MemberBefore a b = T (comes_before a b)

  members-rising : (class : ℕ) (sets : List ℕ) → Rising MemberBefore (members_from phones class sets)
  unfolding members_from comes_before
  members-rising class [] = tt
  members-rising class (set ∷ sets) =
      rising-append MemberBefore (own class set) (members_from phones (suc class) sets)
      (rising-map ◌<◌ MemberBefore (member_of class) same_class (phones_in phones set)
      (rising-select ◌<◌ (λ p. has p set) (up_from 1 phones) (rising-up_from 1 phones)))
      (members-rising (suc class) sets) across
    where
      same_class : (p q : ℕ) → p < q → MemberBefore (member_of class p) (member_of class q)
      same_class p q h =
          (T-or (ltb class class) (eqb class class && ltb p q)).1
          (inr ((T_and (eqb class class) (ltb p q)).1 (eqb_refl class, lt→ltb p q h)))

      across : (a b : Member) → IsIn a (own class set) → IsIn b (members_from phones (suc class) sets)
          → MemberBefore a b
      across a b i j =
          let own-class = of-own class set a i in
          let less : a.class < b.class = omega (arith, of_members (suc class) sets b j) in
          (T-or (ltb a.class b.class) _).1 (inl (lt→ltb _ _ less))

  pub members-ascend : (sets : List ℕ) (done : List Member) (m : Member) (rest : List Member)
      → members_from phones 1 sets ≡ done ++ (m ∷ rest) → T (last_passes (λ b. comes_before b m) done)
  members-ascend sets done m rest e =
      rising-last comes_before done m rest (subst (Rising MemberBefore) e (members-rising 1 sets))
