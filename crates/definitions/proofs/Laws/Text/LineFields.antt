-- Laws about the fields of a line: they are its numbers and then blanks, and its numbers are read from them.
-- The idea: numbers and a count of blanks say what the fields are, so each law goes through the numbers and
-- then the blanks. The laws about lines use them.
use Rattle.std.specs.Prelude.{◌≡◌, refl, List, [], ◌∷◌, ◌++◌, map, Bool, true, false, ◌&&◌, ℕ, zero, suc, ◌+◌, ◌-◌, ◌*◌, ◌≤◌, T, ltb, length, replicate}
use Rattle.std.proofs.Common.{sym, ap, ◌∙◌, append_assoc, arith, length-append}
use Rattle.std.proofs.Math.Option.{Option, none, some, none-ne-some}
use Rattle.std.proofs.lemmas.List.{length-map, length-replicate, replicate-append-replicate}
use Rattle.definitions.specs.Lists.{if◌then◌else◌, every, concat_map}
use Rattle.definitions.specs.Forms.{Range}
use Rattle.definitions.specs.Lines.{space, Field, blank, malformed, number, field_text, is_blank, numbers_of}
use Rattle.definitions.proofs.Laws.Lists.Tests.{if-true}
use Rattle.definitions.proofs.Laws.Lists.Lists.{every-replicate}
use Rattle.definitions.proofs.Laws.Text.Fields.{text_of, fits, is_read}

-- whether all have room in a field
abbrev pub all_fit : List ℕ → Bool
all_fit numbers = every (λ n. ltb n 1000000) numbers

-- ---- numbers, and then blanks

abbrev with_blanks : (blanks : ℕ) → List ℕ → List Field
with_blanks blanks numbers = map number numbers ++ replicate blanks blank

with_blanks-length : (k : ℕ) (numbers : List ℕ) → length (with_blanks k numbers) ≡ length numbers + k
with_blanks-length k numbers = simp (length-append, length-map, length-replicate)

with_blanks-fit : (k : ℕ) (numbers : List ℕ) → every fits (with_blanks k numbers) ≡ all_fit numbers
unfolding every
with_blanks-fit zero [] = refl
with_blanks-fit (suc k) [] = with_blanks-fit k []
with_blanks-fit k (n ∷ numbers) = ap (λ (b : Bool). ltb n 1000000 && b) (with_blanks-fit k numbers)

with_blanks-is_read : (k : ℕ) (numbers : List ℕ) → T (every is_read (with_blanks k numbers))
unfolding every
with_blanks-is_read zero [] = tt
with_blanks-is_read (suc k) [] = with_blanks-is_read k []
with_blanks-is_read k (n ∷ numbers) = with_blanks-is_read k numbers

with_blanks-text : (k : ℕ) (numbers : List ℕ)
    → concat_map text_of (with_blanks k numbers) ≡ concat_map field_text numbers ++ replicate (6 * k) space
unfolding concat_map
with_blanks-text zero [] = refl
with_blanks-text (suc k) [] =
    let more : 6 * suc k ≡ 6 + 6 * k = omega arith in
    ap (λ (r : List ℕ). replicate 6 space ++ r) (with_blanks-text k [])
    ∙ replicate-append-replicate 6 (6 * k) space ∙ rw more
with_blanks-text k (n ∷ numbers) =
    ap (λ (r : List ℕ). field_text n ++ r) (with_blanks-text k numbers)
    ∙ sym (append_assoc (field_text n) (concat_map field_text numbers) (replicate (6 * k) space))

-- ---- the numbers that are read from fields

with_blanks-reads : (ranges : List Range) (k : ℕ) (numbers : List ℕ) → length numbers ≡ length ranges
    → numbers_of ranges (with_blanks k numbers) ≡ some numbers
unfolding numbers_of every is_blank
with_blanks-reads [] k [] e =
    if-true (every is_blank (replicate k blank)) _ _ (every-replicate is_blank k blank tt)
with_blanks-reads [] k (n ∷ numbers) e = absurd (omega arith)
with_blanks-reads (range ∷ ranges) k [] e = absurd (omega arith)
with_blanks-reads (range ∷ ranges) k (n ∷ numbers) e =
    rw (with_blanks-reads ranges k numbers (omega arith), numbers_of)

all-blank : (fields : List Field) → T (every is_blank fields) → fields ≡ replicate (length fields) blank
unfolding every is_blank
all-blank [] h = refl
all-blank (blank ∷ fields) h = ap (λ (r : List Field). blank ∷ r) (all-blank fields h)
all-blank (malformed ∷ fields) h = absurd h
all-blank (number n ∷ fields) h = absurd h

-- numbers that are read say what the fields are
abbrev Found : List Range → List Field → List ℕ → Type 0
Found ranges fields numbers = (length numbers ≡ length ranges) × (k : ℕ) × (fields ≡ with_blanks k numbers)

with_blanks-writes : (ranges : List Range) (fields : List Field) (numbers : List ℕ)
    → numbers_of ranges fields ≡ some numbers → Found ranges fields numbers
unfolding numbers_of
with_blanks-writes [] fields numbers e = go (every is_blank fields) (λ h. all-blank fields h) e
  where
    go : (b : Bool) → (T b → fields ≡ replicate (length fields) blank)
        → (if b then some [] else none) ≡ some numbers → Found [] fields numbers
    go true blanks k = let same : numbers ≡ [] = cc in rw same (refl, length fields, blanks tt)
    go false blanks k = absurd (none-ne-some numbers k)
with_blanks-writes (range ∷ ranges) [] numbers e = absurd (none-ne-some numbers e)
with_blanks-writes (range ∷ ranges) (blank ∷ fields) numbers e = absurd (none-ne-some numbers e)
with_blanks-writes (range ∷ ranges) (malformed ∷ fields) numbers e = absurd (none-ne-some numbers e)
with_blanks-writes (range ∷ ranges) (number n ∷ fields) numbers e =
    go (numbers_of ranges fields) (λ rest k. with_blanks-writes ranges fields rest k) e
  where
    go : (found : Option (List ℕ)) → ((rest : List ℕ) → found ≡ some rest → Found ranges fields rest)
        → elim found [ none ↦ none | some rest ↦ some (n ∷ rest) ] ≡ some numbers
        → Found (range ∷ ranges) (number n ∷ fields) numbers
    go none ih k = absurd (none-ne-some numbers k)
    go (some rest) ih k =
        let same : numbers ≡ n ∷ rest = cc in
        let (many, j, split) = ih rest refl in
        rw same (ap suc many, j, ap (λ (r : List Field). number n ∷ r) split)

-- ---- the five fields of a line

pub line_fields : List ℕ → List Field
line_fields numbers = with_blanks (5 - length numbers) numbers

pub line_fields-length : (numbers : List ℕ) → length numbers ≤ 5 → length (line_fields numbers) ≡ 5
unfolding line_fields
line_fields-length numbers few = with_blanks-length (5 - length numbers) numbers ∙ omega arith

-- written, they are what stands between a line's letter and its line feed
pub line_fields-text : (numbers : List ℕ)
    → concat_map text_of (line_fields numbers)
    ≡ concat_map field_text numbers ++ replicate (6 * (5 - length numbers)) space
unfolding line_fields
line_fields-text numbers = with_blanks-text (5 - length numbers) numbers

pub line_fields-fit : (numbers : List ℕ) → every fits (line_fields numbers) ≡ all_fit numbers
unfolding line_fields
line_fields-fit numbers = with_blanks-fit (5 - length numbers) numbers

pub line_fields-is_read : (numbers : List ℕ) → T (every is_read (line_fields numbers))
unfolding line_fields
line_fields-is_read numbers = with_blanks-is_read (5 - length numbers) numbers

pub line_fields-reads : (ranges : List Range) (numbers : List ℕ) → length numbers ≡ length ranges
    → numbers_of ranges (line_fields numbers) ≡ some numbers
unfolding line_fields
line_fields-reads ranges numbers = with_blanks-reads ranges (5 - length numbers) numbers

pub line_fields-writes : (ranges : List Range) (fields : List Field) {numbers : List ℕ}
    → length fields ≡ 5 → numbers_of ranges fields ≡ some numbers
    → (length numbers ≡ length ranges) × (length numbers ≤ 5) × (fields ≡ line_fields numbers)
unfolding line_fields
line_fields-writes ranges fields {numbers} five e =
    let (many, k, split) = with_blanks-writes ranges fields numbers e in
    let whole : length fields ≡ length numbers + k = ap length split ∙ with_blanks-length k numbers in
    let blanks : 5 - length numbers ≡ k = omega arith in
    (many, omega arith, rw blanks split)
