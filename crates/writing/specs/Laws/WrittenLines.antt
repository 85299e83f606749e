-- Laws about writing a line: where each field of six bytes stands in its text, and what is left when part after
-- part is written. The proofs of the functions that write lines use them.
use Rattle.std.specs.Prelude.{◌≡◌, refl, true, T, drop, get_or, set}
use Rattle.std.proofs.Math.Path.{sym}
use Rattle.std.proofs.Common.{ap, ◌∙◌, mul-suc, add-one, arith, leb→le, length-append, length-set, length-drop, take_at, drop_at, drop-drop, take-add, length-take-le, get_or-take, drop-cons}
use mathlib.Core.List.{List, [], ◌∷◌, ◌++◌, append_assoc}
use Prim.Native.Nat.{ℕ, zero, suc, ◌+◌, ◌-◌, ◌*◌, ◌≤◌, ◌<◌}
use Rattle.std.proofs.Math.ListN.{length, take, replicate}
use Rattle.std.proofs.lemmas.List.{length-replicate, replicate-append-replicate, set_at}
use Rattle.std.proofs.Math.Seq.{append_snoc}
use borrow.Rule.Slice.PartMut.{put_mid, same_len_mid}
use Rattle.definitions.specs.Lists.{every, concat_map}
use Rattle.definitions.specs.Lines.{space, line_feed, field_text, line_text}
use Rattle.definitions.proofs.Laws.Lists.Tests.{every-at}
use Rattle.definitions.proofs.Laws.Lists.Lists.{every-cons}
use Rattle.definitions.proofs.Laws.Text.Fields.{field-length}
use Rattle.lines.specs.Rows.{line_in}
use Rattle.lines.specs.declared.Row.{Row}
use Rattle.writing.specs.Laws.Rows.{is_small, writable-parts}
use Rattle.writing.specs.Writing.{writable, written, fields_text}

-- numbers of at most six digits
abbrev Small : List ℕ → Type 0
Small numbers = T (every is_small numbers)

-- the fields of numbers, then so many blank ones
abbrev fields_and : (numbers : List ℕ) (blanks : ℕ) → List ℕ
fields_and numbers blanks = concat_map field_text numbers ++ replicate (6 * blanks) space

small-cons : (n : ℕ) (numbers : List ℕ) → Small (n ∷ numbers) → (length (field_text n) ≡ 6) × Small numbers
small-cons n numbers h =
    let (first, rest) = (every-cons is_small n numbers).0 h in
    let small : n ≤ 999999 = leb→le n 999999 first in
    (field-length n (omega arith), rest)

-- the bytes from a field on; the first field is passed
from_next : (text rest : List ℕ) (field : ℕ) → length text ≡ 6
    → drop (6 * suc field) (text ++ rest) ≡ drop (6 * field) rest
from_next text rest field h =
    let more : 6 * suc field ≡ 6 + 6 * field = omega arith in
    rw (more, ← drop-drop (6 * field) 6 (text ++ rest), drop_at text rest 6 h)

blanks-next : (blanks : ℕ)
    → replicate (6 * suc blanks) space ≡ replicate 6 space ++ replicate (6 * blanks) space
blanks-next blanks =
    let more : 6 * suc blanks ≡ 6 + 6 * blanks = omega arith in
    rw more (sym (replicate-append-replicate 6 (6 * blanks) space))

number_at : (numbers rest : List ℕ) (field : ℕ) → Small numbers → field < length numbers
    → take 6 (drop (6 * field) (concat_map field_text numbers ++ rest)) ≡ field_text (get_or numbers field 0)
unfolding concat_map
number_at [] rest field h l = absurd (omega arith)
number_at (n ∷ numbers) rest zero h l =
    let (six, small) = small-cons n numbers h in
    rw append_assoc (take_at (field_text n) (concat_map field_text numbers ++ rest) 6 six)
number_at (n ∷ numbers) rest (suc field) h l =
    let (six, small) = small-cons n numbers h in
    rw (append_assoc, from_next (field_text n) (concat_map field_text numbers ++ rest) field six)
    (number_at numbers rest field small (omega arith))

blank-at : (numbers : List ℕ) (blanks field : ℕ) → Small numbers
    → length numbers ≤ field → field < length numbers + blanks
    → take 6 (drop (6 * field) (fields_and numbers blanks)) ≡ replicate 6 space
unfolding concat_map
blank-at [] zero field h l k = absurd (omega arith)
blank-at [] (suc blanks) zero h l k = rw (blanks-next blanks)
blank-at [] (suc blanks) (suc field) h l k =
    rw (blanks-next blanks, from_next (replicate 6 space) (replicate (6 * blanks) space) field refl)
    (blank-at [] blanks field h (omega arith) (omega arith))
blank-at (n ∷ numbers) blanks zero h l k = absurd (omega arith)
blank-at (n ∷ numbers) blanks (suc field) h l k =
    let (six, small) = small-cons n numbers h in
    rw (append_assoc, from_next (field_text n) (fields_and numbers blanks) field six)
    (blank-at numbers blanks field small (omega arith) (omega arith))

fields-length : (numbers : List ℕ) (blanks : ℕ) → Small numbers
    → length (fields_and numbers blanks) ≡ 6 * (length numbers + blanks)
unfolding concat_map
fields-length [] blanks h = length-replicate (6 * blanks) space ∙ omega arith
fields-length (n ∷ numbers) blanks h =
    let (six, small) = small-cons n numbers h in
    rw append_assoc (length-append (field_text n) (fields_and numbers blanks)
    ∙ omega (arith, fields-length numbers blanks small))

-- ---- the fields of a row that fits a line

module _ (row : Row) (fits : writable row ≡ true) (room : length row.numbers ≡ 5) where
  used-few : row.used ≤ 5
  used-few = (writable-parts row fits).0

  small : Small (take row.used row.numbers)
  unfolding line_in
  small = (writable-parts row fits).1

  many : length (take row.used row.numbers) ≡ row.used
  many = length-take-le row.used row.numbers (omega (arith, used-few))

  pub row_number : (field : ℕ) → field < row.used → get_or row.numbers field 0 ≤ 999999
  row_number field h =
      let numbers : List ℕ = take row.used row.numbers in
      let test = every-at is_small numbers 0 small field (omega (arith, many)) in
      leb→le (get_or row.numbers field 0) 999999 (rw (get_or-take row.used row.numbers field 0 h) at test)

  pub number-field : (field : ℕ) → field < row.used
      → field_text (get_or row.numbers field 0) ≡ take 6 (drop (6 * field) (fields_text (line_in row).numbers))
  unfolding fields_text line_in
  number-field field h =
      let numbers : List ℕ = take row.used row.numbers in
      let blanks : List ℕ = replicate (6 * (5 - length numbers)) space in
      sym (number_at numbers blanks field small (omega (arith, many))
      ∙ rw (get_or-take row.used row.numbers field 0 h))

  pub blank-field : (field : ℕ) → row.used ≤ field → field < 5
      → replicate 6 space ≡ take 6 (drop (6 * field) (fields_text (line_in row).numbers))
  unfolding fields_text line_in
  blank-field field h l =
      let numbers : List ℕ = take row.used row.numbers in
      sym (blank-at numbers (5 - length numbers) field small (omega (arith, many)) (omega (arith, many)))

  pub row-length : length (fields_text (line_in row).numbers) ≡ 30
  unfolding fields_text line_in
  row-length =
      let numbers : List ℕ = take row.used row.numbers in
      fields-length numbers (5 - length numbers) small ∙ omega (arith, many, used-few)

-- ---- a text that is written part by part

-- the next part of so many bytes was lent and came back written
pub part-put : (width i : ℕ) (text d bytes part : List ℕ) → width * i + width ≤ length text
    → bytes ≡ take (width * i) text ++ drop (width * i) d → part ≡ take width (drop (width * i) text)
    → put_mid (width * i) (width * i + width - width * i) bytes part
    ≡ take (width * (i + 1)) text ++ drop (width * (i + 1)) d
part-put width i text d bytes part h e f =
    let k : ℕ = width * i in
    let own : k + width - k ≡ width = omega arith in
    let next : width * (i + 1) ≡ k + width = omega (arith, mul-suc width i, add-one i) in
    let front : length (take k text) ≡ k = length-take-le k text (omega arith) in
    let before : take k (take k text ++ drop k d) ≡ take k text = take_at (take k text) (drop k d) k front in
    let after : drop k (take k text ++ drop k d) ≡ drop k d = drop_at (take k text) (drop k d) k front in
    rw (own, next, e, f, before, after, drop-drop width k d, take-add k width text, append_assoc)

-- ---- a line

-- what is lent for the five fields
pub middle-length : (bytes : List ℕ) (v : ℕ) → 32 ≤ length bytes
    → length (take 30 (drop 1 (set bytes 0 v))) ≡ 30
middle-length bytes v h =
    length-take-le 30 (drop 1 (set bytes 0 v)) (simp (length-drop, length-set) (omega arith))

-- the line feed is written after the fields
feed-put : (part bytes : List ℕ) → length part ≡ 30 → 30 < length bytes
    → set (part ++ drop 30 bytes) 30 line_feed ≡ part ++ (line_feed ∷ []) ++ drop 31 bytes
feed-put part bytes k h =
    ap (λ (l : List ℕ). set (part ++ l) 30 line_feed) (drop-cons bytes 30 0 h)
    ∙ set_at part (get_or bytes 30 0) (drop 31 bytes) line_feed 30 k
    ∙ sym (append_snoc part line_feed (drop 31 bytes))

-- the letter, the fields and the line feed are written
pub line-put : (row : Row) (bytes part : List ℕ) → 32 ≤ length bytes
    → length part ≡ length (take 30 (drop 1 (set bytes 0 row.letter)))
    → part ≡ fields_text (line_in row).numbers
    → set (put_mid 1 30 (set bytes 0 row.letter) part) 31 line_feed ≡ written row bytes
unfolding written line_text line_in fields_text
line-put row [] part h k e = absurd (omega arith)
line-put row (b ∷ bytes) part h k e =
    ap (λ (l : List ℕ). row.letter ∷ l)
    (feed-put part bytes (k ∙ middle-length (b ∷ bytes) row.letter h) (omega arith)
    ∙ ap (λ (l : List ℕ). l ++ (line_feed ∷ []) ++ drop 31 bytes) e)

pub put-length : (bytes part : List ℕ) (v : ℕ) → 32 ≤ length bytes → length part ≡ 30
    → length (put_mid 1 30 (set bytes 0 v) part) ≡ length bytes
put-length bytes part v h k =
    same_len_mid 1 30 (set bytes 0 v) part (k ∙ sym (middle-length bytes v h)) ∙ length-set bytes 0 v
