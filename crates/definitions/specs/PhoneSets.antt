-- Sets of phones as numbers: "phone p being the bit worth 2^(p−1)". Phones count from 1: phone 0 is in no set.
-- The members common to two sets are `bit_and`, those of either are `bit_or`, both the library's.
use Rattle.std.specs.Prelude.{List, [], ◌∷◌, Bool, false, ℕ, zero, suc, ◌-◌, ◌/◌, ◌%◌, ◌^◌, eqb}
use Rattle.std.specs.Int.Bits.{bit_and, bit_or}

-- whether a set has phone p
unfoldable pub has : ℕ → ℕ → Bool
has zero set = false
has (suc i) set = eqb (set / 2 ^ i % 2) 1

-- phone p alone
unfoldable pub alone : ℕ → ℕ
alone zero = 0
alone (suc i) = 2 ^ i

-- all phones, 1 to the given number
unfoldable pub all_phones : ℕ → ℕ
all_phones phones = 2 ^ phones - 1

-- the members of a set that another lacks
unfoldable pub without : ℕ → ℕ → ℕ
without set other = set - bit_and set other

-- the set of the listed phones
unfoldable pub set_of : List ℕ → ℕ
set_of [] = 0
set_of (p ∷ l) = bit_or (alone p) (set_of l)
