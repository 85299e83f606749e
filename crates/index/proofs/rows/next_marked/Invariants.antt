-- `rows::next_marked` meets its contract. The loop's invariant: none before `number` has its bits set in
-- all rows.
use Prim.Native.Nat.{◌-◌}
use Rattle.index.specs.Rows.{NextMarked}
use Rattle.index.proofs.rows.next_marked.Given as goal

abbrev pub invariant-loop-number : goal.invariant-loop-number
invariant-loop-number l = NextMarked l.index l.rows l.from l.count l.number

abbrev pub decreases-loop-number : goal.decreases-loop-number
decreases-loop-number l = l.count - l.number
