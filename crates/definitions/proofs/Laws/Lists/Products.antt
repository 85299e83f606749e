-- Laws about the code's products: two 32-bit numbers multiplied fit in 64 bits, also with a third added.
use Rattle.std.specs.Prelude.{ℕ, ◌+◌, ◌*◌, ◌≤◌, ◌<◌}
use Rattle.std.proofs.Common.{mul-le-mul, arith}

product-most : (a b : ℕ) → a < 4294967296 → b < 4294967296 → a * b ≤ 4294967295 * 4294967295
product-most a b h k =
    let first : a ≤ 4294967295 = omega arith in
    let second : b ≤ 4294967295 = omega arith in
    mul-le-mul first second

pub product-fits : {a b : ℕ} → a < 4294967296 → b < 4294967296 → a * b < 18446744073709551616
product-fits {a} {b} h k = omega (arith, product-most a b h k)

pub sum_fits : {a b c : ℕ} → a < 4294967296 → b < 4294967296 → c < 4294967296
    → a * b + c < 18446744073709551616
sum_fits {a} {b} {c} h k l = omega (arith, product-most a b h k)
