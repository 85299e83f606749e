-- Laws about fields: what is written in a field is read, and what is read is what was written.
-- The idea: a field is spaces and then nothing or a numeral, so the laws about numerals carry over; and what
-- holds of one field holds of fields one after the other. The laws about lines use them.
use Rattle.std.specs.Prelude.{◌≡◌, refl, List, [], ◌∷◌, ◌++◌, map, Bool, true, false, ℕ, zero, suc, ◌+◌, ◌-◌, ◌*◌, ◌^◌, ◌≤◌, ◌<◌, T, ltb, eqb, length, replicate}
use Rattle.std.proofs.Common.{sym, ap, ap₂, ◌∙◌, append-nil, arith, eqb→eq, ltb→lt, lt→ltb, length-append, eqb-true}
use Rattle.std.proofs.Math.Nat.{pow-le-pow_right, sub-zero}
use Rattle.std.proofs.Math.Dec.{not_T}
use Rattle.std.proofs.lemmas.List.{length-replicate}
use Rattle.definitions.specs.Lists.{if◌then◌else◌, every, concat_map, records, IsIn}
use Rattle.definitions.specs.Numerals.{is_digit, is_numeral, value_of, numeral}
use Rattle.definitions.specs.Lines.{space, Field, blank, malformed, number, skip_spaces, digits_field}
use Rattle.definitions.specs.Lines.{field_of, field_text}
use Rattle.definitions.proofs.Laws.Lists.Tests.{if-true, if-false}
use Rattle.definitions.proofs.Laws.Lists.Lists.{every-cons}
use Rattle.definitions.proofs.Laws.Lists.Members.{in-every, map_back}
use Rattle.definitions.proofs.Laws.Lists.Records.{joined, all_of, sized-parts, written-length}
use Rattle.definitions.proofs.Laws.Lists.Records.{written-records}
use Rattle.definitions.proofs.Laws.Text.Numerals.{digit-range, is_numeral-digits, numeral-is, numeral-value}
use Rattle.definitions.proofs.Laws.Text.Numerals.{numeral-writes, numeral-length, value-below}

-- ---- what is written is read

skip-spaces : (k : ℕ) (bytes : List ℕ) → skip_spaces (replicate k space ++ bytes) ≡ skip_spaces bytes
unfolding skip_spaces
skip-spaces zero bytes = refl
skip-spaces (suc k) bytes = skip-spaces k bytes

skip-numeral : (bytes : List ℕ) → T (is_numeral bytes) → skip_spaces bytes ≡ bytes
unfolding skip_spaces
skip-numeral [] h = refl
skip-numeral (b ∷ bytes) h =
    let (first, rest) = (every-cons is_digit b bytes).0 (is_numeral-digits (b ∷ bytes) h) in
    let range : (48 ≤ b) × (b ≤ 57) = digit-range b first in
    if-false (eqb b space) _ _ (not_T (eqb b space) (λ e. omega (arith, eqb→eq b space e)))

numeral-field : (bytes : List ℕ) → T (is_numeral bytes) → digits_field bytes ≡ number (value_of 0 bytes)
unfolding digits_field is_numeral
numeral-field [] h = absurd h
numeral-field (b ∷ bytes) h = if-true (is_numeral (b ∷ bytes)) _ _ h

field-reads : (n : ℕ) → field_of (field_text n) ≡ number n
unfolding field_of field_text
field-reads n =
    let digits : List ℕ = numeral n in
    let read : digits_field digits ≡ number (value_of 0 digits) = numeral-field digits (numeral-is n) in
    rw (skip-spaces (6 - length digits) digits, skip-numeral digits (numeral-is n), read, numeral-value n)

blank-reads : (k : ℕ) → field_of (replicate k space) ≡ blank
unfolding field_of skip_spaces digits_field
blank-reads zero = refl
blank-reads (suc k) = blank-reads k

pub field-length : (n : ℕ) → n < 10 ^ 6 → length (field_text n) ≡ 6
unfolding field_text
field-length n h =
    simp (length-append, length-replicate) (omega (arith, numeral-length 6 n (omega arith) h))

-- ---- what is read is what was written

-- bytes are spaces and what stands after them
spaces-before : (bytes : List ℕ) → (k : ℕ) × (bytes ≡ replicate k space ++ skip_spaces bytes)
unfolding skip_spaces
spaces-before [] = (0, refl)
spaces-before (b ∷ bytes) = go (eqb b space) refl (spaces-before bytes)
  where
    go : (t : Bool) → eqb b space ≡ t → (k : ℕ) × (bytes ≡ replicate k space ++ skip_spaces bytes)
        → (k : ℕ) × (b ∷ bytes ≡ replicate k space ++ (if t then skip_spaces bytes else b ∷ bytes))
    go true e rest = (suc rest.0, ap₂ (λ (x : ℕ) (r : List ℕ). x ∷ r) (eqb-true b space e) rest.1)
    go false e rest = (0, refl)

spaces-first : (bytes rest : List ℕ) (k : ℕ) → length bytes ≡ k → skip_spaces bytes ≡ rest
    → (bytes ≡ replicate (k - length rest) space ++ rest) × (length rest ≤ k)
spaces-first bytes rest k l e =
    let (j, split) = spaces-before bytes in
    let whole : bytes ≡ replicate j space ++ rest = split ∙ rw e in
    let long : length bytes ≡ j + length rest = ap length whole ∙ simp (length-append, length-replicate) in
    let count : k - length rest ≡ j = omega arith in
    (rw count whole, omega arith)

-- what stands there is a numeral, or nothing; fields of two kinds are never the same
never : {P : Type 0} → ◌≡◌ {A = ℕ} 0 1 → P
never z = absurd (omega arith)

number-field : (bytes : List ℕ) (n : ℕ) → digits_field bytes ≡ number n
    → T (is_numeral bytes) × (value_of 0 bytes ≡ n)
unfolding digits_field
number-field [] n e = never (cc)
number-field (b ∷ bytes) n e = go (is_numeral (b ∷ bytes)) e
  where
    go : (t : Bool) → (if t then number (value_of 0 (b ∷ bytes)) else malformed) ≡ number n
        → T t × (value_of 0 (b ∷ bytes) ≡ n)
    go true k = (tt, cc)
    go false k = never (cc)

blank-field : (bytes : List ℕ) → digits_field bytes ≡ blank → bytes ≡ []
unfolding digits_field
blank-field [] e = refl
blank-field (b ∷ bytes) e = go (is_numeral (b ∷ bytes)) e
  where
    go : (t : Bool) → (if t then number (value_of 0 (b ∷ bytes)) else malformed) ≡ blank → b ∷ bytes ≡ []
    go true k = cc
    go false k = cc

field-writes : (bytes : List ℕ) (n : ℕ) → length bytes ≡ 6 → field_of bytes ≡ number n
    → (bytes ≡ field_text n) × (n < 10 ^ 6)
unfolding field_of field_text
field-writes bytes n l e =
    let digits : List ℕ = skip_spaces bytes in
    let (proper, value) = number-field digits n e in
    let places : length digits ≤ 6 = (spaces-first bytes digits 6 l refl).1 in
    let below : 10 ^ length digits ≤ 10 ^ 6 = pow-le-pow_right (omega arith) places in
    let written : digits ≡ numeral n = sym (numeral-writes digits proper) ∙ ap numeral value in
    ((spaces-first bytes (numeral n) 6 l written).0, omega (arith, value-below digits proper))

blank-writes : (bytes : List ℕ) (k : ℕ) → length bytes ≡ k → field_of bytes ≡ blank
    → bytes ≡ replicate k space
unfolding field_of
blank-writes bytes k l e =
    simp (sub-zero, append-nil) at (spaces-first bytes [] k l (blank-field (skip_spaces bytes) e)).0

-- ---- both kinds in one: six bytes and the field that they are

abbrev pub text_of : Field → List ℕ
text_of blank = replicate 6 space
text_of malformed = []
text_of (number n) = field_text n

-- whether a field can be written in six bytes, and whether one that was read is not malformed
abbrev pub fits : Field → Bool
fits blank = true
fits malformed = false
fits (number n) = ltb n 1000000

abbrev pub is_read : Field → Bool
is_read blank = true
is_read malformed = false
is_read (number n) = true

text_of-length : (field : Field) → T (fits field) → length (text_of field) ≡ 6
text_of-length blank h = refl
text_of-length malformed h = absurd h
text_of-length (number n) h = field-length n (ltb→lt n 1000000 h)

text_of-reads : (field : Field) → T (fits field) → field_of (text_of field) ≡ field
text_of-reads blank h = blank-reads 6
text_of-reads malformed h = absurd h
text_of-reads (number n) h = field-reads n

text_of-writes : (bytes : List ℕ) → length bytes ≡ 6 → T (is_read (field_of bytes))
    → (text_of (field_of bytes) ≡ bytes) × T (fits (field_of bytes))
text_of-writes bytes l h = go (field_of bytes) refl h
  where
    go : (field : Field) → field_of bytes ≡ field → T (is_read field) → (text_of field ≡ bytes) × T (fits field)
    go blank e h = (sym (blank-writes bytes 6 l e), tt)
    go malformed e h = absurd h
    go (number n) e h =
        let (written, below) = field-writes bytes n l e in
        (sym written, lt→ltb n 1000000 below)

-- ---- fields one after the other

texts-sized : (fields : List Field) → T (every fits fields) → (f : Field) → IsIn f fields
    → length (text_of f) ≡ 6
texts-sized fields h f i = text_of-length f (in-every fits fields h f i)

pub fields-reads : (fields : List Field) (rest : List ℕ) → T (every fits fields)
    → map field_of (records 6 (length fields) (concat_map text_of fields ++ rest)) ≡ fields
fields-reads fields rest h =
    ap (map field_of) (written-records text_of 6 fields (texts-sized fields h) rest)
    ∙ map_back text_of field_of fields (λ f i. text_of-reads f (in-every fits fields h f i))

pub fields-length : (fields : List Field) → T (every fits fields)
    → length (concat_map text_of fields) ≡ 6 * length fields
fields-length fields h = written-length text_of 6 fields (texts-sized fields h)

pub fields-writes : (texts : List (List ℕ)) → T (all_of 6 texts) → T (every is_read (map field_of texts))
    → (concat_map text_of (map field_of texts) ≡ joined texts) × T (every fits (map field_of texts))
unfolding every concat_map
fields-writes [] s h = (refl, tt)
fields-writes (t ∷ texts) s h =
    let (size, sizes) = sized-parts 6 t texts s in
    let (read, reads) = (every-cons is_read (field_of t) (map field_of texts)).0 h in
    let (text, fit) = text_of-writes t size read in
    let (others, fitting) = fields-writes texts sizes reads in
    (ap₂ ◌++◌ text others, (every-cons fits (field_of t) (map field_of texts)).1 (fit, fitting))
