-- Laws about numerals: what is written is read, and what is read is written.
-- The idea: the last digit of a number is its remainder by 10, and the digits before it are its quotient's
-- numeral, so a law about numerals is a fact about one digit and a fact about one digit more. The laws about
-- fields use them.
use Rattle.std.specs.Prelude.{◌≡◌, refl, ◌≢◌, List, [], ◌∷◌, ◌++◌, Bool, true, false, not, ◌&&◌, ℕ, zero, suc, ◌+◌, ◌-◌, ◌*◌, ◌/◌, ◌%◌, ◌^◌, ◌≤◌, ◌<◌, T, ltb, eqb, length}
use Rattle.std.proofs.Common.{sym, ◌∙◌, append-nil, add-zero, zero-add, arith, T_not, eqb→eq, length-append, lt-ltb, le-ltb, ltb-true, ltb-false}
use Rattle.std.proofs.Math.Dec.{not_T}
use Rattle.std.proofs.Math.ListN.{get_or-append}
use Rattle.std.proofs.Math.Seq.{append_snoc}
use Rattle.definitions.specs.Lists.{◌!◌, every}
use Rattle.definitions.specs.Numerals.{is_digit, is_numeral, value_of, numeral_within, numeral}
use Rattle.definitions.proofs.Laws.Lists.Tests.{T_and, between}
use Rattle.definitions.proofs.Laws.Lists.Lists.{every-cons, every_append}

-- ---- digits, and which of them are a numeral

pub digit-range : (byte : ℕ) → T (is_digit byte) → (48 ≤ byte) × (byte ≤ 57)
unfolding is_digit
digit-range b = (between 48 b 57).0

digit-is : (byte : ℕ) → 48 ≤ byte → byte ≤ 57 → T (is_digit byte)
unfolding is_digit
digit-is b low high = (between 48 b 57).1 (low, high)

-- a numeral of two digits or more has no leading 0
numeral-parts : (b c : ℕ) (bytes : List ℕ) → T (is_numeral (b ∷ c ∷ bytes))
    → T (is_digit b) × (b ≢ 48) × T (every is_digit (c ∷ bytes))
unfolding is_numeral
numeral-parts b c bytes h =
    let (front, rest) = (T_and (is_digit b && not (eqb b 48)) (every is_digit (c ∷ bytes))).0 h in
    let (digit, nonzero) = (T_and (is_digit b) (not (eqb b 48))).0 front in
    (digit, λ e. T_not (eqb b 48) nonzero (rw e tt), rest)

-- a numeral is digits, and digits are a numeral where the first is not 0
pub is_numeral-digits : (bytes : List ℕ) → T (is_numeral bytes) → T (every is_digit bytes)
unfolding is_numeral every
is_numeral-digits [] h = tt
is_numeral-digits (b ∷ []) h = (every-cons is_digit b []).1 (h, tt)
is_numeral-digits (b ∷ c ∷ bytes) h =
    let (first, nonzero, rest) = numeral-parts b c bytes h in
    (every-cons is_digit b (c ∷ bytes)).1 (first, rest)

digits-numeral : (bytes : List ℕ) → 0 < length bytes → T (every is_digit bytes) → bytes ! 0 ≢ 48
    → T (is_numeral bytes)
unfolding is_numeral every
digits-numeral [] l h k = absurd (omega arith)
digits-numeral (b ∷ []) l h k = ((every-cons is_digit b []).0 h).0
digits-numeral (b ∷ c ∷ bytes) l h k =
    let (digit, rest) = (every-cons is_digit b (c ∷ bytes)).0 h in
    let nonzero : T (not (eqb b 48)) = not_T (eqb b 48) (λ e. k (eqb→eq b 48 e)) in
    let front : T (is_digit b && not (eqb b 48)) = (T_and (is_digit b) (not (eqb b 48))).1 (digit, nonzero) in
    (T_and (is_digit b && not (eqb b 48)) (every is_digit (c ∷ bytes))).1 (front, rest)

-- ---- how a number is written

-- a fact about all numbers: about those of one digit, and about a number from its quotient by 10
by_digits : (P : ℕ → Type 0) → ((n : ℕ) → n < 10 → P n) → ((n : ℕ) → 10 ≤ n → P (n / 10) → P n)
    → (n : ℕ) → P n
by_digits P short long n = within n n (omega arith)
  where
    within : (enough n : ℕ) → n ≤ enough → P n
    within zero n h = short n (omega arith)
    within (suc enough) n h = go (ltb n 10) refl (λ k. within enough (n / 10) (omega arith))
      where
        go : (b : Bool) → ltb n 10 ≡ b → (10 ≤ n → P (n / 10)) → P n
        go true e rest = short n (ltb-true n 10 e)
        go false e rest = long n (ltb-false n 10 e) (rest (ltb-false n 10 e))

within-short : (enough n : ℕ) → n < 10 → numeral_within enough n ≡ (48 + n) ∷ []
unfolding numeral_within
within-short zero n h = refl
within-short (suc enough) n h = rw (lt-ltb n 10 h, numeral_within)

within-long : (enough n : ℕ) → 10 ≤ n
    → numeral_within (suc enough) n ≡ numeral_within enough (n / 10) ++ ((48 + n % 10) ∷ [])
unfolding numeral_within
within-long enough n h = rw (le-ltb n 10 h, numeral_within)

-- more than enough changes nothing, so the digits of a number are those of its quotient and one more
abbrev Same : ℕ → Type 0
Same n = (e f : ℕ) → n ≤ e → n ≤ f → numeral_within e n ≡ numeral_within f n

enough-same : (n : ℕ) → Same n
enough-same = by_digits Same (λ n h e f k l. within-short e n h ∙ sym (within-short f n h)) long
  where
    long : (n : ℕ) → 10 ≤ n → Same (n / 10) → Same n
    long n h ih zero f k l = absurd (omega arith)
    long n h ih (suc e) zero k l = absurd (omega arith)
    long n h ih (suc e) (suc f) k l =
        within-long e n h ∙ rw (ih e f (omega arith) (omega arith)) (sym (within-long f n h))

pub numeral-short : (n : ℕ) → n < 10 → numeral n ≡ (48 + n) ∷ []
unfolding numeral
numeral-short n h = within-short n n h

pub numeral-long : (n : ℕ) → 10 ≤ n → numeral n ≡ numeral (n / 10) ++ ((48 + n % 10) ∷ [])
unfolding numeral
numeral-long zero h = absurd (omega arith)
numeral-long (suc m) h =
    within-long m (suc m) h ∙ rw (enough-same (suc m / 10) m (suc m / 10) (omega arith) (omega arith))

-- the same from the quotient and the digit
numeral-more : (v d : ℕ) → 0 < v → d < 10 → numeral (v * 10 + d) ≡ numeral v ++ ((48 + d) ∷ [])
numeral-more v d h k =
    let quotient : (v * 10 + d) / 10 ≡ v = omega arith in
    let rest : (v * 10 + d) % 10 ≡ d = omega arith in
    rw (numeral-long (v * 10 + d) (omega arith), quotient, rest)

-- ---- what is written is read

digits_more : (bytes : List ℕ) (d : ℕ) → T (every is_digit bytes) → d < 10
    → T (every is_digit (bytes ++ ((48 + d) ∷ [])))
unfolding every
digits_more bytes d h k =
    let digit : T (is_digit (48 + d)) = digit-is (48 + d) (omega arith) (omega arith) in
    let last : T (every is_digit ((48 + d) ∷ [])) = (every-cons is_digit (48 + d) []).1 (digit, tt) in
    rw every_append ((T_and (every is_digit bytes) (every is_digit ((48 + d) ∷ []))).1 (h, last))

pub numeral-digits : (n : ℕ) → T (every is_digit (numeral n))
unfolding every
numeral-digits = by_digits (λ n. T (every is_digit (numeral n)))
    (λ n h. rw numeral-short (digits_more [] n tt h))
    (λ n h ih. rw numeral-long (digits_more (numeral (n / 10)) (n % 10) ih (omega arith)))

numeral-nonempty : (n : ℕ) → 0 < length (numeral n)
numeral-nonempty = by_digits (λ n. 0 < length (numeral n))
    (λ n h. rw numeral-short (omega arith)) (λ n h ih. rw (numeral-long, length-append) (omega arith))

numeral-first : (n : ℕ) → 0 < n → numeral n ! 0 ≢ 48
numeral-first = by_digits (λ n. 0 < n → numeral n ! 0 ≢ 48)
    (λ n h k. rw numeral-short (omega arith))
    (λ n h ih k. rw (numeral-long, get_or-append (numeral (n / 10)), numeral-nonempty) (ih (omega arith)))

pub numeral-is : (n : ℕ) → T (is_numeral (numeral n))
unfolding is_numeral numeral numeral_within is_digit
numeral-is zero = tt
numeral-is (suc n) =
    let first : numeral (suc n) ! 0 ≢ 48 = numeral-first (suc n) (omega arith) in
    digits-numeral (numeral (suc n)) (numeral-nonempty (suc n)) (numeral-digits (suc n)) first

value-append : (v : ℕ) (k l : List ℕ) → value_of v (k ++ l) ≡ value_of (value_of v k) l
unfolding value_of
value-append v [] l = refl
value-append v (b ∷ k) l = value-append (v * 10 + (b - 48)) k l

pub numeral-value : (n : ℕ) → value_of 0 (numeral n) ≡ n
unfolding value_of
numeral-value = by_digits (λ n. value_of 0 (numeral n) ≡ n)
    (λ n h. rw numeral-short (omega arith))
    (λ n h ih. rw (numeral-long, value-append, ih) (omega arith))

-- ---- what is read is written

-- digits after a number are written after its numeral
numeral-after : (v : ℕ) (bytes : List ℕ) → 0 < v → T (every is_digit bytes)
    → numeral (value_of v bytes) ≡ numeral v ++ bytes
unfolding value_of every
numeral-after v [] h k = sym (append-nil (numeral v))
numeral-after v (b ∷ bytes) h k =
    let (first, rest) = (every-cons is_digit b bytes).0 k in
    let range : (48 ≤ b) × (b ≤ 57) = digit-range b first in
    let byte : 48 + (b - 48) ≡ b = omega arith in
    numeral-after (v * 10 + (b - 48)) bytes (omega arith) rest
    ∙ rw (numeral-more v (b - 48) h (omega arith), append_snoc, byte)

-- a digit is the numeral of its value
one-digit : (b : ℕ) → T (is_digit b) → numeral (0 + (b - 48)) ≡ b ∷ []
one-digit b h =
    let range : (48 ≤ b) × (b ≤ 57) = digit-range b h in
    let byte : 48 + (0 + (b - 48)) ≡ b = omega arith in
    numeral-short (0 + (b - 48)) (omega arith) ∙ rw byte

-- the digits of a number without leading zeros are its numeral
pub numeral-writes : (bytes : List ℕ) → T (is_numeral bytes) → numeral (value_of 0 bytes) ≡ bytes
unfolding is_numeral value_of
numeral-writes [] h = absurd h
numeral-writes (b ∷ []) h = one-digit b h
numeral-writes (b ∷ c ∷ bytes) h =
    let (first, nonzero, rest) = numeral-parts b c bytes h in
    let range : (48 ≤ b) × (b ≤ 57) = digit-range b first in
    numeral-after (0 + (b - 48)) (c ∷ bytes) (omega (arith, nonzero)) rest ∙ rw (one-digit b first)

-- ---- how long a numeral is, and how large its number

pub numeral-length : (k n : ℕ) → 0 < k → n < 10 ^ k → length (numeral n) ≤ k
numeral-length k n = by_digits Short (λ n h k l m. rw numeral-short l) long n k
  where
    Short : ℕ → Type 0
    Short n = (k : ℕ) → 0 < k → n < 10 ^ k → length (numeral n) ≤ k

    long : (n : ℕ) → 10 ≤ n → Short (n / 10) → Short n
    long n h ih zero l m = absurd (omega arith)
    long n h ih (suc zero) l m = absurd (omega arith)
    long n h ih (suc (suc k)) l m =
        rw (numeral-long, length-append) (omega (arith, ih (suc k) (omega arith) (omega arith)))

-- a number below 10 ^ k and so many digits more
value-within : (k v : ℕ) (bytes : List ℕ) → v < 10 ^ k → T (every is_digit bytes)
    → value_of v bytes < 10 ^ (k + length bytes)
unfolding value_of every
value-within k v [] h d = rw add-zero h
value-within k v (b ∷ bytes) h d =
    let (first, rest) = (every-cons is_digit b bytes).0 d in
    let range : (48 ≤ b) × (b ≤ 57) = digit-range b first in
    let places : k + suc (length bytes) ≡ suc k + length bytes = omega arith in
    rw places (value-within (suc k) (v * 10 + (b - 48)) bytes (omega arith) rest)

pub value-below : (bytes : List ℕ) → T (is_numeral bytes) → value_of 0 bytes < 10 ^ length bytes
value-below bytes h = rw zero-add at (value-within 0 0 bytes (omega arith) (is_numeral-digits bytes h))
