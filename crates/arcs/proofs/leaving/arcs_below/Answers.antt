-- `leaving::arcs_below` meets its contract. The loop's invariant: the arcs of smaller sources end from `low` to
-- `high`.
use native.Mathlib.Omega.{arith}
use Rattle.arcs.specs.Laws.Leaving.{bracket-from, bracket-up, bracket-down}
use borrow.Author.Rules.{rules}
use Rattle.arcs.proofs.leaving.arcs_below.Goals as goal

pub loop-low-init : goal.loop-low-init
loop-low-init c = bracket-from _ (search rules)

pub loop-low-preserved-then-wide-state : goal.loop-low-preserved-then-wide-state
loop-low-preserved-then-wide-state c =
    bracket-up c.requires c.loop-low.invariant (search rules)
    (omega (arith, c.wide.ensures, c.if-wide-state.true))

pub loop-low-preserved : goal.loop-low-preserved
loop-low-preserved c =
    bracket-down c.requires c.loop-low.invariant (search rules)
    (omega (arith, c.wide.ensures, c.if-wide-state.false))
