-- `counting::root_place` meets its contract: a product and a sum of 32-bit numbers are numbers of 64 bits.
use Prim.Native.Nat.{◌+◌, ◌*◌, ◌<◌}
use native.Mathlib.Omega.{arith}
use Rattle.definitions.proofs.Laws.Lists.Products.{product-fits, sum_fits}
use borrow.Author.Rules.{rules}
use Rattle.lines.proofs.counting.root_place.Goals as goal
use Rattle.lines.proofs.counting.root_place.Goals.{After-from_zero-2}

pub overflow_mul-result : goal.overflow_mul-result
overflow_mul-result c =
    let first : c.from_zero.result < 4294967296 = search rules in
    let second : c.wide.result < 4294967296 = search rules in
    record { fits = product-fits first second }

-- the sum, one more than it fits too
less : (c : goal.After-from_zero-2)
    → c.from_zero.result * c.wide.result + c.from_zero-2.result < 18446744073709551615
less c =
    let first : c.from_zero.result < 4294967296 = search rules in
    let second : c.wide.result < 4294967296 = search rules in
    let third : c.from_zero-2.result + 1 < 4294967296 = search rules in
    omega (arith, sum_fits first second third)

pub overflow_add-result : goal.overflow_add-result
overflow_add-result c = record { fits = omega (arith, less (goal.at.overflow_add-result c).After-from_zero-2) }

pub returns : goal.returns
returns c =
    record { place = rw (c.from_zero.ensures, c.wide.ensures, c.from_zero-2.ensures); within = less (goal.at.returns c).After-from_zero-2 }
