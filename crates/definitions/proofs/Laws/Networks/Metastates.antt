-- Laws about metastates: sameness is equality; which of them start and which follow, by number, none twice.
-- Starts and followers are built alike, from the combinations that pass a test, each with its number: so their
-- laws are shown once. Demand 3 uses them.
use Rattle.std.specs.Prelude.{◌≡◌, ◌⊎◌, ◌↔◌, Bool, ◌&&◌, T, eqb, length}
use Rattle.std.proofs.Math.Path.{refl, ap}
use Rattle.std.proofs.Common.{sym, ◌∙◌, subst, inl, inr, arith, eqb→eq}
use mathlib.Core.Logic.Iff
use mathlib.Core.List.{List, [], ◌∷◌}
use Prim.Native.Nat.{ℕ, zero, suc, ◌+◌, ◌<◌}
use Rattle.std.proofs.Math.Dec.{eqb_refl}
use Rattle.definitions.specs.Metastates.{numbered, Metastate, same_metastate, starts_from, followers_from}
use Rattle.definitions.specs.Metastates.{phone_of, starts, followers, may_end}
use Rattle.definitions.specs.Lists.{if◌then◌else◌, IsIn, Distinct}
use Rattle.definitions.specs.Tables.{Book}
use Rattle.definitions.specs.Combinations.{Combination}
use Rattle.definitions.proofs.Laws.Lists.Tests.{T_and, T-eqb, Tells}
use Rattle.definitions.proofs.Laws.Lists.Members.{of-kept, in_kept, in_after, Distinct-kept}
use Rattle.definitions.proofs.Demand.Carrier.{Carrier, holds_some, same_carrier, meet_of, shift_of, cut_of}
use Rattle.definitions.proofs.Demand.Carrier.{end_test, carriers-told}

-- ---- sameness

-- metastates that agree in number and in what they carry are equal
pub metastates-equal : (x y : Metastate) → x.number ≡ y.number → x.carried ≡ y.carried → x ≡ y
metastates-equal x y e f = λ i. record { number = e i; carried = f i }

pub same-metastate : (x y : Metastate) → T (same_metastate x y) → x ≡ y
unfolding same_metastate
same-metastate x y h =
    let (e, f) = (T_and (eqb x.number y.number) (same_carrier x.carried y.carried)).0 h in
    metastates-equal x y (eqb→eq x.number y.number e)
    (carriers-told.same_equal x.carried y.carried f)

pub metastate-self : (x : Metastate) → T (same_metastate x x)
unfolding same_metastate
metastate-self x =
    (T_and (eqb x.number x.number) (same_carrier x.carried x.carried)).1
    (eqb_refl x.number, carriers-told.self x.carried)

pub metastates-told : Tells same_metastate
metastates-told = record { same_equal = same-metastate; self = metastate-self }

-- ---- the combinations that pass a test, each with its number and what it carries

module _ (test : Combination → Bool) (carry : Combination → Carrier) where
  unfoldable passing : (number : ℕ) → List Combination → List Metastate
  passing number [] = []
  passing number (c ∷ cs) =
      if test c
      then record { number = number; carried = carry c } ∷ passing (suc number) cs
      else passing (suc number) cs

  -- x is the metastate of the combination at place i of a list whose first has this number
  record Passing (number : ℕ) (cs : List Combination) (x : Metastate) (i : ℕ) : Type 0 where
    listed : i < length cs
    passes : T (test (numbered cs i))
    named : x.number ≡ number + i
    carries : x.carried ≡ carry (numbered cs i)

  passing-next : (number : ℕ) (c : Combination) (cs : List Combination) (x : Metastate) (i : ℕ)
      → Passing (suc number) cs x i ↔ Passing number (c ∷ cs) x (suc i)
  passing-next number c cs x i = (
    λ p. record {
      listed = omega (arith, p.listed);
      passes = p.passes;
      named = omega (arith, p.named);
      carries = p.carries;
    },
    λ p. record {
      listed = omega (arith, p.listed);
      passes = p.passes;
      named = omega (arith, p.named);
      carries = p.carries;
    },
  )

  of-passing : (number : ℕ) (cs : List Combination) (x : Metastate) → IsIn x (passing number cs)
      → (i : ℕ) × Passing number cs x i
  unfolding passing
  of-passing number [] x h = absurd h
  of-passing number (c ∷ cs) x h =
      go (of-kept _ (passing (suc number) cs) (test c) x h) (λ k. of-passing (suc number) cs x k)
    where
      go : (T (test c) × (x ≡ record { number = number; carried = carry c })) ⊎ IsIn x (passing (suc number) cs)
          → (IsIn x (passing (suc number) cs) → (i : ℕ) × Passing (suc number) cs x i)
          → (i : ℕ) × Passing number (c ∷ cs) x i
      go (inl (t, e)) rest = (
        0,
        record {
          listed = omega arith;
          passes = t;
          named = ap (λ (y : Metastate). y.number) e ∙ omega arith;
          carries = ap (λ (y : Metastate). y.carried) e;
        },
      )
      go (inr k) rest = let (i, p) = rest k in (suc i, (passing-next number c cs x i).0 p)

  in-passing : (number : ℕ) (cs : List Combination) (x : Metastate) (i : ℕ) → Passing number cs x i
      → IsIn x (passing number cs)
  unfolding passing
  in-passing number [] x i p = absurd (omega (arith, p.listed))
  in-passing number (c ∷ cs) x zero p =
      let here : number ≡ x.number = omega (arith, p.named) in
      in_kept _ (passing (suc number) cs) (test c) x p.passes (metastates-equal x _ (sym here) p.carries)
  in-passing number (c ∷ cs) x (suc i) p =
      in_after _ (passing (suc number) cs) (test c) x
      (in-passing (suc number) cs x i ((passing-next number c cs x i).1 p))

  passing-once : (number : ℕ) (cs : List Combination) → Distinct (passing number cs)
  unfolding passing
  passing-once number [] = tt
  passing-once number (c ∷ cs) =
      Distinct-kept _ (passing (suc number) cs) (test c) (passing-once (suc number) cs) later
    where
      later : IsIn (record { number = number; carried = carry c }) (passing (suc number) cs) → ⊥
      later h = let (i, p) = of-passing (suc number) cs _ h in omega (arith, p.named)

  -- from number 0 on, the place is the number
  by_number : (cs : List Combination) (x : Metastate)
      → IsIn x (passing 0 cs) ↔ Passing 0 cs x x.number
  by_number cs x = (there, in-passing 0 cs x x.number)
    where
      there : IsIn x (passing 0 cs) → Passing 0 cs x x.number
      there h =
          let (i, p) = of-passing 0 cs x h in
          subst (Passing 0 cs x) {x = i} {y = x.number} (omega (arith, p.named)) p

module _ (book : Book) (combinations : List Combination) where
  -- ---- starts: silence, with the start's cut, where that leaves some window

  start_carry : Combination → Carrier
  start_carry c = cut_of book c.carried

  start_test : Combination → Bool
  start_test c = eqb c.phone 1 && holds_some (start_carry c)

  starts-pass : (number : ℕ) (cs : List Combination)
      → starts_from book.half number cs ≡ passing start_test start_carry number cs
  unfolding starts_from passing start_test start_carry
  starts-pass number [] = refl
  starts-pass number (c ∷ cs) =
      ap (λ rest. if start_test c then record { number = number; carried = start_carry c } ∷ rest else rest)
      (starts-pass (suc number) cs)

  pub starts_once : Distinct (starts book combinations)
  unfolding starts
  starts_once = rw (starts-pass 0 combinations) (passing-once start_test start_carry 0 combinations)

  pub record StartOf (x : Metastate) : Type 0 where
    pub listed : x.number < length combinations
    pub silence : (numbered combinations x.number).phone ≡ 1
    pub cut : x.carried ≡ cut_of book (numbered combinations x.number).carried
    pub holds : T (holds_some x.carried)

  pub start_is : (x : Metastate) → IsIn x (starts book combinations) ↔ StartOf x
  unfolding starts start_test start_carry
  start_is x = (there, back)
    where
      c : Combination
      c = numbered combinations x.number

      there : IsIn x (starts_from book.half 0 combinations) → StartOf x
      there h =
          let p = (by_number start_test start_carry combinations x).0 (rw (starts-pass 0 combinations) at h) in
          let (first, second) = (T_and (eqb c.phone 1) (holds_some (start_carry c))).0 p.passes in
          record {
            listed = p.listed;
            silence = eqb→eq c.phone 1 first;
            cut = p.carries;
            holds = rw p.carries second;
          }

      back : StartOf x → IsIn x (starts_from book.half 0 combinations)
      back s =
          rw (starts-pass 0 combinations)
          ((by_number start_test start_carry combinations x).1 record {
            listed = s.listed;
            passes =
                (T_and (eqb c.phone 1) (holds_some (start_carry c))).1
                (rw s.silence tt, rw s.cut at s.holds);
            named = omega arith;
            carries = s.cut;
          })

  -- ---- ends: silence, with silence to the right

  pub may-end : (q : Metastate) → T (may_end book combinations q)
      ↔ ((phone_of combinations q ≡ 1) × T (end_test book q.carried))
  unfolding may_end
  may-end q =
      Iff.trans (T_and (eqb (phone_of combinations q) 1) (end_test book q.carried))
      (Iff.and (T-eqb (phone_of combinations q) 1) Iff.rfl)

  -- ---- followers: the meet with what was shifted, where that leaves some window

  module _ (q : Metastate) where
    abbrev shifted : Carrier
    shifted = shift_of book q.carried

    follow_carry : Combination → Carrier
    follow_carry c = meet_of shifted c.carried

    follow_test : Combination → Bool
    follow_test c = holds_some (follow_carry c)

    followers-pass : (number : ℕ) (cs : List Combination)
        → followers_from shifted number cs ≡ passing follow_test follow_carry number cs
    unfolding followers_from passing follow_test follow_carry
    followers-pass number [] = refl
    followers-pass number (c ∷ cs) =
        ap (λ rest. if follow_test c then record { number = number; carried = follow_carry c } ∷ rest else rest)
        (followers-pass (suc number) cs)

    pub followers_once : Distinct (followers book combinations q)
    unfolding followers
    followers_once = rw (followers-pass 0 combinations) (passing-once follow_test follow_carry 0 combinations)

    pub record FollowerOf (x : Metastate) : Type 0 where
      pub listed : x.number < length combinations
      pub met : x.carried ≡ meet_of shifted (numbered combinations x.number).carried
      pub holds : T (holds_some (meet_of shifted (numbered combinations x.number).carried))

    pub follower-is : (x : Metastate) → IsIn x (followers book combinations q) ↔ FollowerOf x
    unfolding followers follow_test follow_carry
    follower-is x = (there, back)
      where
        there : IsIn x (followers_from shifted 0 combinations) → FollowerOf x
        there h =
            let p = (by_number follow_test follow_carry combinations x).0
            (rw (followers-pass 0 combinations) at h) in
            record { listed = p.listed; met = p.carries; holds = p.passes }

        back : FollowerOf x → IsIn x (followers_from shifted 0 combinations)
        back f =
            rw (followers-pass 0 combinations)
            ((by_number follow_test follow_carry combinations x).1 record {
              listed = f.listed;
              passes = f.holds;
              named = omega arith;
              carries = f.met;
            })
