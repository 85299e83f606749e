-- `connecting::take_turns` meets its contract. The loop's invariant: after `turns` turns, what the words
-- hold, and what is left of the build.
use Rattle.std.proofs.Common.{arith, refl, ◌≡◌}
use Rattle.std.proofs.lemmas.Result.{err_from_is_err_and}
use Rattle.network.specs.Laws.Turning.{metastates-word, arcs-word, turn-finished}
use Rattle.network.specs.Laws.Turning.{turn_stopped, turned_more, turn-refused}
use Rattle.network.proofs.connecting.take_turns.Goals as goal

pub totals-requires : goal.totals-requires
totals-requires c = (metastates-word c.loop-turns.invariant, arcs-word c.loop-turns.invariant)

pub returns-then-now-place : goal.returns-then-now-place
returns-then-now-place c =
    turn-finished c.loop-turns.invariant c.wide-place.ensures refl c.if-now-place.true c.totals.ensures

pub returns-in_err-now : goal.returns-in_err-now
returns-in_err-now c =
    let p = err_from_is_err_and c.from_residual.result c.from_residual.ensures.1 in
    rw (p.1, p.2)
    (turn-refused c.loop-turns.invariant c.loop-turns-test.true c.wide-place.ensures
    (omega (arith, c.if-now-place.false)) c.expand.ensures c.in_err-now.was)

pub loop-turns-preserved : goal.loop-turns-preserved
loop-turns-preserved c =
    turned_more c.loop-turns.invariant c.loop-turns-test.true c.wide-place.ensures
    (omega (arith, c.if-now-place.false)) c.expand.ensures c.in_ok-now.was

pub totals-all-requires : goal.totals-all-requires
totals-all-requires c = (metastates-word c.loop-turns.invariant, arcs-word c.loop-turns.invariant)

pub returns-then-now-wide : goal.returns-then-now-wide
returns-then-now-wide c =
    let all : c.args.limit ≡ c.loop-turns.turns =
    omega (arith, c.loop-turns-test.false, c.loop-turns.invariant.within) in
    turn-finished c.loop-turns.invariant c.wide.ensures all c.if-now-wide.true c.totals-all.ensures

pub returns-else-now-wide : goal.returns-else-now-wide
returns-else-now-wide c =
    let all : c.args.limit ≡ c.loop-turns.turns =
    omega (arith, c.loop-turns-test.false, c.loop-turns.invariant.within) in
    turn_stopped c.loop-turns.invariant c.wide.ensures all (omega (arith, c.if-now-wide.false)) c.totals-all.ensures
