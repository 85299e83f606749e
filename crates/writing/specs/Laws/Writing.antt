-- Laws about writing a number: its bytes, from the right, are those of its field.
-- The idea: the last digit stands at the right end, and before it stand the bytes of the quotient by 10, which
-- are spaces once it is 0. The proofs of the functions that write a number use them.
use Rattle.std.specs.Prelude.{◌≡◌, refl, List, [], ◌∷◌, ◌++◌, ℕ, zero, suc, ◌+◌, ◌-◌, ◌/◌, ◌%◌, ◌^◌, ◌≤◌, ◌<◌, ltb, length, drop, set, replicate}
use Rattle.std.proofs.Common.{ap, ◌∙◌, append_assoc, arith, length-append, drop_of_length-le, drop-cons, drop-set-lt, get_or-set_same, lt-length-set, ltb-true, ltb-false, ne_eqb}
use borrow.Author.Tests.{eq-eqb}
use Rattle.std.proofs.lemmas.List.{replicate-append-replicate}
use Rattle.std.proofs.Math.Seq.{append_snoc}
use Rattle.definitions.specs.Numerals.{numeral}
use Rattle.definitions.specs.Lines.{space, field_text}
use Rattle.definitions.proofs.Laws.Lists.Tests.{by-test}
use Rattle.definitions.proofs.Laws.Text.Numerals.{numeral-short, numeral-long}
use Rattle.writing.specs.Writing.{last_byte, leading}

-- ---- a number's bytes, from the right

pub last_none : (rest : ℕ) → rest ≡ 0 → space ≡ last_byte rest
last_none rest e = rw (eq-eqb rest 0 e)

pub last-digit : (rest : ℕ) → (rest ≡ 0 → ⊥) → 48 + rest % 10 ≡ last_byte rest
last-digit rest h = rw (ne_eqb rest 0 h)

leading-none : (k : ℕ) → leading k 0 ≡ replicate k space
unfolding leading
leading-none zero = refl
leading-none (suc k) =
    let one : k + 1 ≡ suc k = omega arith in
    rw (leading-none k) (replicate-append-replicate k 1 space ∙ rw one)

-- a number right-justified in places for its last digit and `k` digits more
abbrev Justified : (k n : ℕ) → Type 0
Justified k n =
    replicate (suc k - length (numeral n)) space ++ numeral n ≡ leading k (n / 10) ++ ((48 + n % 10) ∷ [])

justified-short : (k n : ℕ) → n < 10 → Justified k n
justified-short k n l =
    let none : n / 10 ≡ 0 = omega arith in
    let all : n % 10 ≡ n = omega arith in
    let spaces : suc k - 1 ≡ k = omega arith in
    rw (numeral-short n l, none, all, spaces, leading-none k)

one_more : (n : ℕ) → 10 ≤ n → length (numeral n) ≡ length (numeral (n / 10)) + 1
one_more n l = ap length (numeral-long n l) ∙ length-append (numeral (n / 10)) ((48 + n % 10) ∷ [])

justified-long : (k n : ℕ) → 10 ≤ n → Justified k (n / 10) → Justified (suc k) n
unfolding leading
justified-long k n l before =
    let more : length (numeral n) ≡ length (numeral (n / 10)) + 1 = one_more n l in
    let spaces : suc (suc k) - length (numeral n) ≡ suc k - length (numeral (n / 10)) = omega arith in
    rw (spaces, numeral-long n l, ← last-digit (n / 10) (omega arith), ← before, append_assoc)

justified : (k n : ℕ) → n < 10 ^ suc k → Justified k n
justified zero n h = justified-short zero n (omega arith)
justified (suc k) n h =
    by-test (ltb n 10) (λ e. justified-short (suc k) n (ltb-true n 10 e))
    (λ e. justified-long k n (ltb-false n 10 e) (justified k (n / 10) (omega arith)))

-- what a store leaves from its place on
drop-store : (s : List ℕ) (i v : ℕ) → i < length s → drop i (set s i v) ≡ v ∷ drop (suc i) s
drop-store s i v h =
    drop-cons (set s i v) i 0 (lt-length-set s i v h)
    ∙ rw (get_or-set_same s i v 0 h, drop-set-lt (suc i) s i v (omega arith))

-- the last digit is written
pub leading-first : (n v : ℕ) (field : List ℕ) → n ≤ 999999 → length field ≡ 6 → v ≡ 48 + n % 10
    → field_text n ≡ leading 5 (n / 10) ++ drop 5 (set field 5 v)
unfolding field_text
leading-first n v field h l e =
    let after : drop 6 field ≡ [] = drop_of_length-le field {i = 6} (omega arith) in
    justified 5 n (omega arith) ∙ rw (drop-store field 5 v (omega arith), after, e)

-- one byte more to the left
pub leading-more : (i rest v : ℕ) (field : List ℕ) → 0 < i → i ≤ length field → v ≡ last_byte rest
    → leading i rest ++ drop i field ≡ leading (i - 1) (rest / 10) ++ drop (i - 1) (set field (i - 1) v)
unfolding leading
leading-more zero rest v field h k e = absurd (omega arith)
leading-more (suc i) rest v field h k e =
    let before : suc i - 1 ≡ i = omega arith in
    rw (before, drop-store field i v (omega arith), e, append_snoc)

-- none is left
pub leading_end : (i rest : ℕ) (field : List ℕ) → i ≤ 0 → leading i rest ++ drop i field ≡ field
unfolding leading
leading_end zero rest field h = refl
leading_end (suc i) rest field h = absurd (omega arith)
