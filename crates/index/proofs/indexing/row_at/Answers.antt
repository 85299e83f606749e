-- `indexing::row_at` meets its contract: no product is too large.
use Prim.Native.Nat.{◌+◌, ◌*◌, ◌≤◌}
use native.Mathlib.Omega.{arith}
use Rattle.index.specs.Laws.Filling.{row_near}
use Rattle.index.proofs.indexing.row_at.Goals as goal
use Rattle.index.proofs.indexing.row_at.Goals.{Start}

near : (c : goal.Start) → (c.args.column * c.args.header.phones ≤ 128)
    × ((c.args.column * c.args.header.phones + c.args.phone) * c.args.blocks ≤ 197632)
near c = let (row, few) = c.requires in row_near row c.args.phone few

pub overflow_mul-result : goal.overflow_mul-result
overflow_mul-result c =
    record { fits = rw c.wide.ensures (omega (arith, (near (goal.at.overflow_mul-result c).Start).0)) }

pub overflow_add-result : goal.overflow_add-result
overflow_add-result c =
    let (row, few) = c.requires in
    record { fits = rw (c.wide.ensures, c.wide-2.ensures) (omega (arith, (near (goal.at.overflow_add-result c).Start).0, few)) }

pub overflow_mul-result-2 : goal.overflow_mul-result-2
overflow_mul-result-2 c =
    record { fits = rw (c.wide.ensures, c.wide-2.ensures) (omega (arith, (near (goal.at.overflow_mul-result-2 c).Start).1)) }

pub overflow_add-result-2 : goal.overflow_add-result-2
overflow_add-result-2 c =
    record { fits = rw (c.wide.ensures, c.wide-2.ensures) (omega (arith, (near (goal.at.overflow_add-result-2 c).Start).1)) }

pub returns : goal.returns
returns c = (
  rw (c.wide.ensures, c.wide-2.ensures),
  rw (c.wide.ensures, c.wide-2.ensures) (omega (arith, (near (goal.at.returns c).Start).1)),
)
