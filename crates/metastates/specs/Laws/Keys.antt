-- Laws about keys: a loop over columns takes them in one by one.
use Rattle.std.specs.Prelude.{◌≡◌, refl, List, ◌∷◌, ℕ, ◌+◌, ◌%◌, ◌≤◌, ◌<◌, length, drop}
use Rattle.std.proofs.Math.Path.{sym}
use Rattle.std.proofs.Common.{◌∙◌, add-one, drop_of_length-le, drop-cons}
use Rattle.std.specs.Int.Bits.{bit_xor}
use Rattle.definitions.specs.Lists.{◌!◌}
use Rattle.metastates.specs.Keys.{turned, key_from, key_of}

-- the columns before c are taken in, the others are left
pub record Keyed (number : ℕ) (columns : List ℕ) (c key : ℕ) : Type 0 where
  pub rest : key_of (number ∷ columns) ≡ key_from key (drop c columns)

pub keyed-start : (number : ℕ) (columns : List ℕ) → Keyed number columns 0 number
unfolding key_of
keyed-start number columns = record { rest = refl }

module _ {number c key : ℕ} {columns : List ℕ} (k : Keyed number columns c key) where
  pub keyed-more : c < length columns → Keyed number columns (c + 1) (bit_xor (turned key) (columns ! c))
  unfolding key_from
  keyed-more h = record { rest = k.rest ∙ rw (drop-cons columns c 0 h, add-one) }

  pub keyed-end : length columns ≤ c → key % 65521 ≡ key_of (number ∷ columns)
  unfolding key_from
  keyed-end h = sym (k.rest ∙ rw (drop_of_length-le columns {i = c} h))
