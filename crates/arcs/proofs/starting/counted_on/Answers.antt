-- `starting::counted_on` meets its contract. The loop's invariant: they are at least `at`.
use native.Mathlib.Omega.{arith}
use Rattle.arcs.specs.Laws.Leaving.{bracket-from, bracket-up, bracket-down, bracket-end}
use borrow.Author.Rules.{rules}
use Rattle.arcs.proofs.starting.counted_on.Goals as goal

pub loop-at-init : goal.loop-at-init
loop-at-init c = bracket-from _ c.requires.1

pub returns-then-state-wide : goal.returns-then-state-wide
returns-then-state-wide c =
    bracket-end (bracket-down c.requires.0 c.loop-at.invariant c.loop-at-test.true
    (omega (arith, c.wide.ensures, c.if-state-wide.true))) (search rules)

pub loop-at-preserved : goal.loop-at-preserved
loop-at-preserved c =
    bracket-up c.requires.0 c.loop-at.invariant c.loop-at-test.true
    (omega (arith, c.wide.ensures, c.if-state-wide.false))
