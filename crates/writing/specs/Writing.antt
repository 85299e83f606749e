-- What the functions that write a line leave: a row that fits a line, a buffer after it was written, and its parts, a
-- number's bytes from the right, and five fields.
use Rattle.std.specs.Prelude.{if◌then◌else◌, List, [], ◌∷◌, ◌++◌, Bool, ◌&&◌, ℕ, zero, suc, ◌+◌, ◌-◌, ◌*◌, ◌/◌, ◌%◌, eqb, leb, length, replicate, drop}
use Prim.Native.Char.{code}
use Rattle.definitions.specs.Forms.{most_number}
use Rattle.definitions.specs.Lists.{concat_map, every}
use Rattle.definitions.specs.Lines.{space, field_text, line_text}
use Rattle.lines.specs.declared.Row.{Row}
use Rattle.lines.specs.Rows.{line_in}

-- a row that fits a line: at most five numbers, each of at most six digits
unfoldable pub writable : Row → Bool
writable row = leb row.used 5 && every (λ n. leb n most_number) (line_in row).numbers

-- a buffer after a row was written: the line, then what stood beyond its 32 bytes
unfoldable pub written : Row → List ℕ → List ℕ
written row bytes = line_text (line_in row) ++ drop 32 bytes

abbrev pub digit_byte : ℕ → ℕ
digit_byte digit = code "0" + digit

-- the byte of a number's last digit; a space for 0, which has no digit before another one
abbrev pub last_byte : ℕ → ℕ
last_byte rest = if eqb rest 0 then space else digit_byte (rest % 10)

-- the bytes that stand before another digit: the digits of `rest`, and spaces to their left
unfoldable pub leading : (places rest : ℕ) → List ℕ
leading zero rest = []
leading (suc places) rest = leading places (rest / 10) ++ (last_byte rest ∷ [])

-- the five fields of a line: its numbers, spaces in the other fields
unfoldable pub fields_text : List ℕ → List ℕ
fields_text numbers = concat_map field_text numbers ++ replicate (6 * (5 - length numbers)) space
