-- Document 01, "Tree book": numbers in decimal digits, read and written. "without leading zeros (zero is `0`)"
use Rattle.std.specs.Prelude.{List, [], ◌∷◌, ◌++◌, Bool, true, false, not, ◌&&◌, ℕ, zero, suc, ◌+◌, ◌-◌, ◌*◌, ◌/◌, ◌%◌, leb, ltb, eqb}
use Prim.Native.Char.{code}
use Rattle.definitions.specs.Lists.{every}

unfoldable pub is_digit : ℕ → Bool
is_digit byte = leb (code "0") byte && leb byte (code "9")

-- whether the bytes are a number's digits, without leading zeros
unfoldable pub is_numeral : List ℕ → Bool
is_numeral [] = false
is_numeral (byte ∷ []) = is_digit byte
is_numeral (byte ∷ next ∷ bytes) = is_digit byte && not (eqb byte (code "0")) && every is_digit (next ∷ bytes)

-- the number that digits give, after digits that give `value`
unfoldable pub value_of : (value : ℕ) → List ℕ → ℕ
value_of value [] = value
value_of value (byte ∷ bytes) = value_of (value * 10 + (byte - code "0")) bytes

-- a number's digits, at most `enough` after the first; no number n has more than n
unfoldable pub numeral_within : (enough n : ℕ) → List ℕ
numeral_within zero n = (code "0" + n) ∷ []
numeral_within (suc enough) n =
    elim (ltb n 10) [
      | true ↦ (code "0" + n) ∷ []
      | false ↦ numeral_within enough (n / 10) ++ ((code "0" + n % 10) ∷ [])
    ]

unfoldable pub numeral : ℕ → List ℕ
numeral n = numeral_within n n
