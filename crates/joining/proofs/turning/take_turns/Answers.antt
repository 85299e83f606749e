-- `turning::take_turns` meets its contract. The loop's invariant: the states before `turns` are expanded.
use Rattle.std.proofs.Common.{refl, ap, ◌∙◌, arith}
use Rattle.std.proofs.lemmas.Result.{err_from_is_err_and}
use Rattle.joined.specs.Joins.{stepped}
use Rattle.joining.specs.Laws.Turning.{turning-start, turning-done, turning-asks, turning-within}
use Rattle.joining.specs.Laws.Turning.{turning-more, turning-stop}
use Rattle.joining.proofs.turning.take_turns.Goals as goal

pub loop-turns-init : goal.loop-turns-init
loop-turns-init c = (turning-start c.requires, (refl, refl, refl))

pub expand-requires : goal.expand-requires
expand-requires c = turning-asks c.requires c.loop-turns.invariant.0 c.loop-turns-test.true

pub returns-in_err-expand-clause-left : goal.returns-in_err-expand-clause-left
returns-in_err-expand-clause-left c =
    let p = err_from_is_err_and c.from_residual.result c.from_residual.ensures.1 in
    rw (p.1, p.2)
    (turning-stop c.requires c.loop-turns.invariant.0 c.loop-turns-test.true c.expand.ensures.left
    (ap (λ r. stepped r c.expand.new.join.sizes) c.in_err-expand.was))

pub loop-turns-smaller : goal.loop-turns-smaller
loop-turns-smaller c =
    omega (arith, turning-within c.requires c.loop-turns.invariant.0 c.loop-turns-test.true)

pub loop-turns-preserved : goal.loop-turns-preserved
loop-turns-preserved c =
    let same = c.expand.ensures.same in
    let before = c.loop-turns.invariant.1 in (
      turning-more c.requires c.loop-turns.invariant.0 c.loop-turns-test.true c.expand.ensures.left
          (ap (λ r. stepped r c.expand.new.join.sizes) c.in_ok-expand.was),
      (same.0 ∙ before.0, same.1 ∙ before.1, same.2 ∙ before.2),
    )

pub returns-clause-left : goal.returns-clause-left
returns-clause-left c =
    turning-done c.requires c.loop-turns.invariant.0 c.loop-turns-test.false
