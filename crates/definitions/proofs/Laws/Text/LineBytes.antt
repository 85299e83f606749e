-- Every byte of a line is a byte: letters, digits, spaces and line feeds are below 256.
use Rattle.std.specs.Prelude.{List, [], ◌∷◌, ◌++◌, Bool, ℕ, ◌-◌, ◌*◌, T, ltb, length, replicate}
use Rattle.std.proofs.Common.{arith, lt→ltb}
use Rattle.definitions.specs.Lists.{every, concat_map}
use Rattle.definitions.specs.Numerals.{is_digit, numeral}
use Rattle.definitions.specs.Lines.{space, line_feed, Line, field_text, line_text}
use Rattle.definitions.proofs.Laws.Lists.Lists.{every-cons, every-parts, every-replicate}
use Rattle.definitions.proofs.Laws.Lists.Members.{every-weaker}
use Rattle.definitions.proofs.Laws.Text.Numerals.{digit-range, numeral-digits}

abbrev pub is_byte : ℕ → Bool
is_byte byte = ltb byte 256

-- what each element gives is bytes, so is all that they give
pub bytes-each : {A : Type 0} (f : A → List ℕ) (l : List A) → ((x : A) → T (every is_byte (f x)))
    → T (every is_byte (concat_map f l))
unfolding concat_map every
bytes-each f [] h = tt
bytes-each f (x ∷ l) h = (every-parts is_byte (f x) (concat_map f l)).1 (h x, bytes-each f l h)

digit-bytes : (bytes : List ℕ) → T (every is_digit bytes) → T (every is_byte bytes)
digit-bytes bytes h =
    every-weaker is_digit is_byte (λ byte d. lt→ltb byte 256 (omega (arith, digit-range byte d))) bytes h

field-bytes : (n : ℕ) → T (every is_byte (field_text n))
unfolding field_text
field-bytes n =
    let spaces : List ℕ = replicate (6 - length (numeral n)) space in
    (every-parts is_byte spaces (numeral n)).1
    (every-replicate is_byte (6 - length (numeral n)) space tt, digit-bytes (numeral n) (numeral-digits n))

pub line-bytes : (line : Line) → T (is_byte line.letter) → T (every is_byte (line_text line))
unfolding line_text every
line-bytes line h =
    let blanks : ℕ = 6 * (5 - length line.numbers) in
    let spaces : List ℕ = replicate blanks space in
    let fields : List ℕ = concat_map field_text line.numbers in
    (every-cons is_byte line.letter (fields ++ spaces ++ (line_feed ∷ []))).1 (
      h,
      (every-parts is_byte (fields ++ spaces) (line_feed ∷ [])).1 (
        (every-parts is_byte fields spaces).1
            (bytes-each field_text line.numbers field-bytes, every-replicate is_byte blanks space tt),
        tt,
      ),
    )
