-- `using::used` meets its contract.
use Rattle.std.proofs.Common.{◌≡◌, ◌∙◌, ◌<◌, ◌+◌, ◌-◌, length, arith}
use Rattle.definitions.proofs.Laws.Lists.Tests.{held, failed}
use Rattle.std.proofs.lemmas.Bool.{not_from_true, not_from_false}
use Rattle.showing.specs.Laws.Using.{used-here, used-less, used-end, zero-at, other-at}
use Rattle.showing.proofs.using.used.Goals as goal

pub returns-then-not-is_zero-clause-used : goal.returns-then-not-is_zero-clause-used
returns-then-not-is_zero-clause-used g c =
    let i = c.loop-i.i in
    let inside : i - 1 < length c.args.numbers.now = omega (arith, c.loop-i.invariant.within, c.loop-i-test.true) in
    let isnt = other-at g.N.Number.value _ _ _ inside c.index-numbers-i.is
    (failed c.is_zero.ensures (not_from_false _ c.if-not-is_zero.true)) in
    let same : i - 1 + 1 ≡ i = omega (arith, c.loop-i-test.true) in
    same ∙ (used-here c.loop-i.invariant c.loop-i-test.true isnt).1

pub loop-i-preserved : goal.loop-i-preserved
loop-i-preserved g c =
    let inside : c.loop-i.i - 1 < length c.args.numbers.now = omega (arith, c.loop-i.invariant.within, c.loop-i-test.true) in
    used-less c.loop-i.invariant c.loop-i-test.true
    (zero-at g.N.Number.value _ _ _ inside c.index-numbers-i.is
    (held c.is_zero.ensures (not_from_true _ c.if-not-is_zero.false)))

pub returns-clause-used : goal.returns-clause-used
returns-clause-used g c =
    let none : 0 ≡ c.loop-i.i = omega (arith, c.loop-i-test.false) in
    none ∙ (used-end c.loop-i.invariant c.loop-i-test.false).1
