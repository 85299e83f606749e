-- `rows::next_marked` meets its contract. The loop's invariant: none before `number` has its bits set in
-- all rows.
use mathlib.Core.Path.{refl}
use native.Mathlib.Omega.{arith}
use Rattle.index.specs.Laws.Rows.{marked_start, marked_next}
use Rattle.index.proofs.rows.next_marked.Goals as goal

pub loop-number-init : goal.loop-number-init
loop-number-init c = marked_start c.requires.within

pub marked_in-requires : goal.marked_in-requires
marked_in-requires c =
    (c.requires.near, omega (arith, c.loop-number-test.true, c.requires.few))

pub loop-number-preserved : goal.loop-number-preserved
loop-number-preserved c =
    marked_next c.loop-number.invariant refl refl c.marked_in.ensures c.in_default.ensures.next _
    (omega (arith, c.min-number.ensures)) (omega (arith, c.min-number.ensures, c.loop-number-test.true))
    (omega (arith, c.min-number.ensures))
