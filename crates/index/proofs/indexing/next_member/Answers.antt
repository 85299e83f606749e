-- `indexing::next_member` meets its contract, by the zeros at the end of what is left of the set.
use Prim.Native.Nat.{◌-◌, ◌/◌, ◌^◌}
use native.Mathlib.Omega.{arith}
use lib.Count.{trailing_le}
use Rattle.index.specs.Laws.NextMember.{next-none, next-found}
use Rattle.index.proofs.indexing.next_member.Goals as goal

pub overflow_add-next : goal.overflow_add-next
overflow_add-next c =
    let a = c.args in
    let (some, within) = c.requires in
    record { fits = omega (arith, within, trailing_le 64 (a.set / 2 ^ (a.from - 1))) }

pub returns-then-next-le64 : goal.returns-then-next-le64
returns-then-next-le64 c =
    let (some, within) = c.requires in
    record { next = next-found c.args.set c.args.from some c.if-next-le64.true; some = c.if-next-le64.true }

pub returns-else-next-le64 : goal.returns-else-next-le64
returns-else-next-le64 c =
    let (some, within) = c.requires in
    record { next = next-none c.args.set c.args.from some c.if-from-gt64.false c.if-next-le64.false; some = tt }
