-- Laws about sets of phones: which phones are in a set built from others, and how large the set's number is.
-- The idea: phone 1 is the lowest digit, phone i+1 is phone i of the half, so a law about two sets is a fact
-- about digits and one about halves. The laws about matrices, demand 3 and the proofs of the code use them.
use Rattle.std.specs.Prelude.{◌≡◌, refl, ◌≢◌, List, [], ◌∷◌, Bool, true, false, not, ◌&&◌, ◌||◌, ℕ, zero, suc, ◌-◌, ◌*◌, ◌/◌, ◌%◌, ◌^◌, ◌≤◌, ◌<◌, min, max, T, leb, ltb, eqb}
use Rattle.std.proofs.Common.{sym, ap, ap₂, ◌∙◌, subst, true≢false, mod-eq_of_lt, pow-suc, mul_comm, one-mul, div-one, arith, leb→le, ltb→lt, pow_pos, shl_exact, lt-ltb}
use Rattle.std.proofs.lemmas.Bool.{false≢true}
use Rattle.std.proofs.Math.Bool.{and_assoc}
use Rattle.std.proofs.Math.Nat.{div-div-eq-div-mul}
use Rattle.std.proofs.Math.Dec.{leb-zero, leb-suc-zero, leb-suc-suc, eqb-zero-suc, eqb-suc-zero, eqb-suc-suc}
use Rattle.std.proofs.Math.Arith.{bin_ind}
use Rattle.std.specs.Int.Bits.{bit_and, bit_or, and_step, or_step}
use Rattle.std.proofs.lemmas.Nat.{and_comm, and_le_l, and_mask, or_lt}
use Rattle.std.proofs.Math.Pow.{pow-lt, ones_lt}
use Rattle.definitions.specs.Lists.{every, at_least_one}
use Rattle.definitions.specs.PhoneSets.{has, alone, all_phones, without, set_of}
use Rattle.definitions.proofs.Laws.Lists.Tests.{T_and}

-- phone 1 is the lowest digit, each further phone is one of the half
has_first : (s : ℕ) → has 1 s ≡ eqb (s % 2) 1
unfolding has
has_first s = rw div-one

has-next : (i s : ℕ) → has (suc (suc i)) s ≡ has (suc i) (s / 2)
unfolding has
has-next i s = simp (div-div-eq-div-mul, pow-suc, mul_comm)

-- ---- sets built from two sets, digit by digit

-- a fact about two digits, from its four cases
two_digits : (P : ℕ → ℕ → Type 0) → P 0 0 → P 0 1 → P 1 0 → P 1 1 → (x y : ℕ) → x < 2 → y < 2 → P x y
two_digits P p q r s zero zero h k = p
two_digits P p q r s zero (suc zero) h k = q
two_digits P p q r s (suc zero) zero h k = r
two_digits P p q r s (suc zero) (suc zero) h k = s
two_digits P p q r s zero (suc (suc y)) h k = absurd (omega arith)
two_digits P p q r s (suc zero) (suc (suc y)) h k = absurd (omega arith)
two_digits P p q r s (suc (suc x)) y h k = absurd (omega arith)

-- `f` goes through two sets digit by digit: `d` is what it does to digits, `g` to whether a phone is in
digitwise : (f d : ℕ → ℕ → ℕ) (g : Bool → Bool → Bool) → false ≡ g false false
    → ((a b : ℕ) → (f a b % 2 ≡ d (a % 2) (b % 2)) × (f a b / 2 ≡ f (a / 2) (b / 2)))
    → ((x y : ℕ) → x < 2 → y < 2 → eqb (d x y) 1 ≡ g (eqb x 1) (eqb y 1))
    → (p a b : ℕ) → has p (f a b) ≡ g (has p a) (has p b)
unfolding has
digitwise f d g none step agree zero a b = none
digitwise f d g none step agree (suc zero) a b =
    simp (has_first, (step a b).0) (agree (a % 2) (b % 2) (omega arith) (omega arith))
digitwise f d g none step agree (suc (suc i)) a b =
    simp (has-next, (step a b).1) (digitwise f d g none step agree (suc i) (a / 2) (b / 2))

pub has-and : (p a b : ℕ) → has p (bit_and a b) ≡ (has p a && has p b)
has-and =
    digitwise bit_and min ◌&&◌ refl (λ a b. omega (arith, and_step a b)) (two_digits _ refl refl refl refl)

pub has-or : (p a b : ℕ) → has p (bit_or a b) ≡ (has p a || has p b)
has-or =
    digitwise bit_or max ◌||◌ refl (λ a b. omega (arith, or_step a b)) (two_digits _ refl refl refl refl)

pub has-without : (p a b : ℕ) → has p (without a b) ≡ (has p a && not (has p b))
unfolding without
has-without = digitwise without (λ x y. x - min x y) (λ x y. x && not y) refl
    (λ a b. omega (arith, and_step a b, and_le_l (a / 2) (b / 2))) (two_digits _ refl refl refl refl)

-- ---- sets built from nothing

pub has-none : (p : ℕ) → has p 0 ≡ false
unfolding has
has-none zero = refl
has-none (suc zero) = refl
has-none (suc (suc i)) = has-next i 0 ∙ has-none (suc i)

-- digits and halves of one phone, and of all
alone-digits : (j : ℕ) → (alone (suc (suc j)) % 2 ≡ 0) × (alone (suc (suc j)) / 2 ≡ alone (suc j))
unfolding alone
alone-digits j = rw pow-suc (omega arith)

all_digits : (n : ℕ) → (all_phones (suc n) % 2 ≡ 1) × (all_phones (suc n) / 2 ≡ all_phones n)
unfolding all_phones
all_digits n = omega (arith, pow_pos n)

pub has-alone : (p q : ℕ) → 0 < q → has p (alone q) ≡ eqb p q
unfolding has alone
has-alone p zero h = absurd (omega arith)
has-alone zero (suc j) h = sym (eqb-zero-suc j)
has-alone (suc zero) (suc zero) h = refl
has-alone (suc zero) (suc (suc j)) h = rw (has_first, (alone-digits j).0, eqb-suc-suc 0, eqb-zero-suc j)
has-alone (suc (suc i)) (suc zero) h = rw (has-next, eqb-suc-suc (suc i) 0, eqb-suc-zero) (has-none (suc i))
has-alone (suc (suc i)) (suc (suc j)) h =
    rw (has-next, (alone-digits j).1, eqb-suc-suc (suc i) (suc j)) (has-alone (suc i) (suc j) (omega arith))

pub has_all : (p phones : ℕ) → has p (all_phones phones) ≡ (ltb 0 p && leb p phones)
unfolding has all_phones
has_all zero n = refl
has_all (suc i) n = up_to i n ∙ sym (rw (lt-ltb 0 (suc i) (omega arith)))
  where
    up_to : (i n : ℕ) → has (suc i) (all_phones n) ≡ leb (suc i) n
    up_to i zero = has-none (suc i) ∙ sym (leb-suc-zero i)
    up_to zero (suc n) = rw (has_first, (all_digits n).0, leb-suc-suc, leb-zero)
    up_to (suc i) (suc n) = rw (has-next, (all_digits n).1, leb-suc-suc (suc i) n) (up_to i n)

-- a list may hold 0, which is no phone: then its set has nothing for it
pub has_listed : (i : ℕ) (l : List ℕ) → has (suc i) (set_of l) ≡ at_least_one (eqb (suc i)) l
unfolding set_of at_least_one alone
has_listed i [] = has-none (suc i)
has_listed i (p ∷ l) = has-or (suc i) (alone p) (set_of l) ∙ ap₂ ◌||◌ (head p) (has_listed i l)
  where
    head : (p : ℕ) → has (suc i) (alone p) ≡ eqb (suc i) p
    head zero = has-none (suc i) ∙ sym (eqb-suc-zero i)
    head (suc j) = has-alone (suc i) (suc j) (omega arith)

has-set_of : (p : ℕ) (l : List ℕ) → T (every (ltb 0) l) → has p (set_of l) ≡ at_least_one (eqb p) l
unfolding has every at_least_one
has-set_of (suc i) l h = has_listed i l
has-set_of zero [] h = refl
has-set_of zero (zero ∷ l) h = absurd h
has-set_of zero (suc j ∷ l) h =
    has-set_of zero l ((T_and (ltb 0 (suc j)) (every (ltb 0) l)).0 h).1 ∙ sym (rw eqb-zero-suc)

-- ---- members

-- a number below 2 ^ phones has only phones up to that number
pub within_all : (phones s : ℕ) → s < 2 ^ phones → bit_and s (all_phones phones) ≡ s
unfolding all_phones
within_all n s h = and_mask s n ∙ mod-eq_of_lt h

has_within : (p phones s : ℕ) → s < 2 ^ phones → has p s ≡ (has p s && has p (all_phones phones))
has_within p n s h = ap (has p) (sym (within_all n s h)) ∙ has-and p s (all_phones n)

pub has-below : (p s phones : ℕ) → s < 2 ^ phones → T (has p s) → (0 < p) × (p ≤ phones)
has-below p s n l h = (ltb→lt 0 p range.0, leb→le p n range.1)
  where
    in_all : T (has p (all_phones n))
    in_all = ((T_and (has p s) (has p (all_phones n))).0 (subst T (has_within p n s l) h)).1

    range : T (ltb 0 p) × T (leb p n)
    range = (T_and (ltb 0 p) (leb p n)).0 (subst T (has_all p n) in_all)

pub member-nonzero : (p s : ℕ) → T (has p s) → s ≢ 0
member-nonzero p s h e = subst T (ap (has p) e ∙ has-none p) h

-- a member of the half is a member, one further up
next-member : (s p : ℕ) → T (has p (s / 2)) → (p : ℕ) × T (has p s)
unfolding has
next-member s zero h = absurd h
next-member s (suc i) h = (suc (suc i), subst T (sym (has-next i s)) h)

-- sets that agree on phone 1 have the same lowest digit
same-digit : (x y : ℕ) → x < 2 → y < 2 → eqb x 1 ≡ eqb y 1 → x ≡ y
same-digit = two_digits (λ x y. eqb x 1 ≡ eqb y 1 → x ≡ y)
    (λ e. refl) (λ e. absurd (false≢true e)) (λ e. absurd (true≢false e)) (λ e. refl)

same_first : (a b : ℕ) → has 1 a ≡ has 1 b → a % 2 ≡ b % 2
same_first a b e =
    same-digit (a % 2) (b % 2) (omega arith) (omega arith) (sym (has_first a) ∙ e ∙ has_first b)

abbrev Found : ℕ → Type 0
Found s = s ≢ 0 → (p : ℕ) × T (has p s)

pub some-member : (s : ℕ) → s ≢ 0 → (p : ℕ) × T (has p s)
some-member = bin_ind Found (λ h. absurd (h refl)) (λ s ih h. go s ih h (has 1 s) refl)
  where
    go : (s : ℕ) → Found (s / 2) → s ≢ 0 → (b : Bool) → has 1 s ≡ b → (p : ℕ) × T (has p s)
    go s ih h true e = (1, subst T (sym e) tt)
    go s ih h false e =
        let even : s % 2 ≡ 0 = same_first s 0 (e ∙ sym (has-none 1)) in
        let m : (p : ℕ) × T (has p (s / 2)) = ih (λ z. h (omega arith)) in
        next-member s m.0 m.1

-- two sets with the same members are the same number
abbrev Same : ℕ → ℕ → Type 0
Same a b = (p : ℕ) → has p a ≡ has p b

same-halves : (a b : ℕ) → Same a b → Same (a / 2) (b / 2)
unfolding has
same-halves a b h zero = refl
same-halves a b h (suc i) = sym (has-next i a) ∙ h (suc (suc i)) ∙ has-next i b

same_step : (a b : ℕ) → Same a b → (Same (a / 2) (b / 2) → a / 2 ≡ b / 2) → a ≡ b
same_step a b h ih = omega (arith, ih (same-halves a b h), same_first a b (h 1))

same_none : (b : ℕ) → Same 0 b → 0 ≡ b
same_none = bin_ind (λ (b : ℕ). Same 0 b → 0 ≡ b) (λ h. refl) (λ b ih h. same_step 0 b h ih)

pub same-members : (a b : ℕ) → ((p : ℕ) → has p a ≡ has p b) → a ≡ b
same-members =
    bin_ind (λ (a : ℕ). (b : ℕ) → Same a b → a ≡ b) same_none (λ a ih b h. same_step a b h (ih (b / 2)))

-- ---- how large a set's number is

pub alone-below : (phones q : ℕ) → q ≤ phones → alone q < 2 ^ phones
unfolding alone
alone-below n zero h = pow_pos n
alone-below n (suc i) h = pow-lt h

pub all-below : (phones : ℕ) → all_phones phones < 2 ^ phones
unfolding all_phones
all-below = ones_lt

pub and-below-left : (w a b : ℕ) → a < 2 ^ w → bit_and a b < 2 ^ w
and-below-left w a b h = omega (arith, and_le_l a b)

pub set_of-below : (phones : ℕ) (l : List ℕ) → T (every (λ p. leb p phones) l) → set_of l < 2 ^ phones
unfolding set_of every
set_of-below n [] h = pow_pos n
set_of-below n (p ∷ l) h =
    let parts : T (leb p n) × T (every (λ p. leb p n) l) = (T_and (leb p n) (every (λ p. leb p n) l)).0 h in
    or_lt n (alone p) (set_of l) (alone-below n p (leb→le p n parts.0)) (set_of-below n l parts.1)

-- ---- what a set has and another lacks, as a mask: in words of w digits, `a & !b`

complement : (w s : ℕ) → s < 2 ^ w → (2 ^ w - 1) - s ≡ without (all_phones w) s
unfolding without all_phones
complement w s h = ap (λ (x : ℕ). (2 ^ w - 1) - x) (sym (and_comm (2 ^ w - 1) s ∙ within_all w s h))

pub without-is-mask : (w a b : ℕ) → a < 2 ^ w → b < 2 ^ w → without a b ≡ bit_and a ((2 ^ w - 1) - b)
without-is-mask w a b h k = same-members (without a b) (bit_and a ((2 ^ w - 1) - b)) masked
  where
    -- a has no phone beyond w, so it loses nothing to all phones
    cut : (p : ℕ) → (has p a && not (has p b)) ≡ (has p a && (has p (all_phones w) && not (has p b)))
    cut p =
        ap (λ (x : Bool). x && not (has p b)) (has_within p w a h)
        ∙ and_assoc (has p a) (has p (all_phones w)) (not (has p b))

    masked : (p : ℕ) → has p (without a b) ≡ has p (bit_and a ((2 ^ w - 1) - b))
    masked p = rw complement (simp (has-without, has-and) (cut p))

-- ---- sets in 64-bit words

-- 1 shifted, within a word
pub one_shifted : (k : ℕ) → k < 64 → (1 * 2 ^ k) % 18446744073709551616 ≡ 2 ^ k
one_shifted k l = shl_exact {a = 1} 1 k 64 (omega arith) (omega arith) ∙ one-mul (2 ^ k)

-- so a phone alone is a shifted 1
pub alone-shifted : (phone : ℕ) → 1 ≤ phone → phone ≤ 64
    → (1 * 2 ^ (phone - 1)) % 18446744073709551616 ≡ alone phone
unfolding alone
alone-shifted zero k l = absurd (omega arith)
alone-shifted (suc i) k l =
    let before : suc i - 1 ≡ i = omega arith in
    rw before (one_shifted i (omega arith))
