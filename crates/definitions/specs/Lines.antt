-- Document 01, "Tree book", its first paragraph: the line of 32 bytes, read by the table of its letter, and
-- written.
use Rattle.std.specs.Prelude.{if◌then◌else◌, List, [], ◌∷◌, ◌++◌, map, Bool, true, false, ◌&&◌, ℕ, ◌-◌, ◌*◌, ◌/◌, ◌%◌, leb, ltb, eqb, length, drop, replicate}
use Rattle.std.proofs.Math.Option.{Option, none, some}
use Prim.Native.Char.{code}
use Rattle.definitions.specs.Lists.{◌!◌, every, concat_map, records}
use Rattle.definitions.specs.Numerals.{is_numeral, value_of, numeral}
use Rattle.definitions.specs.Forms.{Range, Form}

-- the bytes that have a meaning of their own
abbrev pub space : ℕ
space = code " "

abbrev pub line_feed : ℕ
line_feed = code "\n"

-- Fields. "five fields of six bytes"
pub data Field : Type 0 where
  blank malformed : Field
  number : ℕ → Field

unfoldable pub skip_spaces : List ℕ → List ℕ
skip_spaces [] = []
skip_spaces (byte ∷ bytes) = if eqb byte space then skip_spaces bytes else byte ∷ bytes

-- what stands after a field's leading spaces: nothing, or a number to the field's end
unfoldable pub digits_field : List ℕ → Field
digits_field [] = blank
digits_field (byte ∷ bytes) =
    if is_numeral (byte ∷ bytes) then number (value_of 0 (byte ∷ bytes)) else malformed

-- "right-justified with spaces"; "An unused field is six spaces."
unfoldable pub field_of : List ℕ → Field
field_of bytes = digits_field (skip_spaces bytes)

unfoldable pub field_text : ℕ → List ℕ
field_text n = replicate (6 - length (numeral n)) space ++ numeral n

-- Lines. A line read: its letter, and the numbers in its used fields.
pub record Line : Type 0 where
  pub letter : ℕ
  pub numbers : List ℕ

unfoldable pub form_of : List Form → ℕ → Option Form
form_of [] letter = none
form_of (form ∷ forms) letter = if eqb form.letter letter then some form else form_of forms letter

unfoldable pub is_blank : Field → Bool
is_blank blank = true
is_blank malformed = false
is_blank (number n) = false

-- the numbers of a line's fields: each used field is a number, each other one is blank
unfoldable pub numbers_of : List Range → List Field → Option (List ℕ)
numbers_of [] fields = if every is_blank fields then some [] else none
numbers_of (range ∷ ranges) [] = none
numbers_of (range ∷ ranges) (blank ∷ fields) = none
numbers_of (range ∷ ranges) (malformed ∷ fields) = none
numbers_of (range ∷ ranges) (number n ∷ fields) =
    elim (numbers_of ranges fields) [ none ↦ none | some numbers ↦ some (n ∷ numbers) ]

-- "Each line has 32 bytes: a letter, five fields of six bytes, a line feed."
unfoldable pub fields_of : List ℕ → List Field
fields_of bytes = map field_of (records 6 5 (drop 1 bytes))

unfoldable pub with_letter : ℕ → Option (List ℕ) → Option Line
with_letter letter none = none
with_letter letter (some numbers) = some (record { letter = letter; numbers = numbers })

-- a line read by the table of its letter; none is fault 12,
-- "a letter that this kind of text never has, or a malformed field"
unfoldable pub line_of : List Form → List ℕ → Option Line
line_of forms bytes =
    elim (form_of forms (bytes ! 0)) [
      | none ↦ none
      | some form ↦ with_letter form.letter (numbers_of form.fields (fields_of bytes))
    ]

-- whether numbers lie in the ranges of their fields
unfoldable pub in_ranges : List Range → List ℕ → Bool
in_ranges [] numbers = true
in_ranges (range ∷ ranges) [] = false
in_ranges (range ∷ ranges) (n ∷ numbers) =
    leb range.lowest n && leb n range.highest && in_ranges ranges numbers

-- whether a line's numbers lie in the fixed ranges of its letter
unfoldable pub in_fixed_ranges : List Form → Line → Bool
in_fixed_ranges forms line =
    elim (form_of forms line.letter) [
      | none ↦ false
      | some form ↦ in_ranges form.fields line.numbers
    ]

-- writing a line: its letter, its numbers, spaces in the other fields, a line feed
unfoldable pub line_text : Line → List ℕ
line_text line =
    line.letter ∷ concat_map field_text line.numbers
    ++ replicate (6 * (5 - length line.numbers)) space ++ (line_feed ∷ [])

-- Texts.
unfoldable pub lines_of : List ℕ → List (List ℕ)
lines_of text = records 32 (length text / 32) text

unfoldable pub ends_in_line_feed : List ℕ → Bool
ends_in_line_feed bytes = eqb (bytes ! 31) line_feed

-- not fault 11, "length 0 or not a multiple of 32, or a 32nd byte that is no line feed"
unfoldable pub whole_lines : List ℕ → Bool
whole_lines text = ltb 0 (length text) && eqb (length text % 32) 0 && every ends_in_line_feed (lines_of text)
