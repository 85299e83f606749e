-- `comparing::same_beyond` meets its contract. The loop's invariant: the matrices before `place` are the same.
use Rattle.std.proofs.Common.{◌∙◌, sym, arith, ◌<◌}
use Rattle.definitions.specs.Lists.{◌!◌}
use Rattle.lists.specs.Laws.Comparing.{alike-lists-more, alike-lists-stop, alike-lists-end, beyond-length, beyond-start, beyond-differ, beyond-test}
use Rattle.lists.proofs.comparing.same_beyond.Goals as goal
use Rattle.lists.proofs.comparing.same_beyond.Goals.{After-columns_at-in-loop-place}

pub returns-then-count-matrices_in : goal.returns-then-count-matrices_in
returns-then-count-matrices_in c =
    let a = c.args in
    beyond-differ a.half a.first a.a.now a.b.now
    (λ e. c.if-count-matrices_in.true (c.matrices_in-count.ensures ∙ e ∙ sym c.matrices_in.ensures))

pub loop-place-init : goal.loop-place-init
loop-place-init c =
    let a = c.args in
    beyond-start a.half a.first a.a.now a.b.now
    (sym c.matrices_in-count.ensures ∙ c.if-count-matrices_in.false ∙ c.matrices_in.ensures)

-- a turn's two matrices
module _ (c : goal.After-columns_at-in-loop-place) where
  in-a : c.loop-place.place < c.args.a.now ! 0
  in-a = omega (arith, c.loop-place-test.true, c.matrices_in-count.ensures)

  in-b : c.loop-place.place < c.args.b.now ! 0
  in-b = omega (arith, in-a, c.if-count-matrices_in.false, c.matrices_in-count.ensures, c.matrices_in.ensures)

pub returns-then-ne : goal.returns-then-ne
returns-then-ne c =
    let at = (goal.at.returns-then-ne c).After-columns_at-in-loop-place in
    alike-lists-stop c.loop-place.invariant (omega (arith, beyond-length c.args.half c.args.first c.args.a.now, in-a at))
    (beyond-test _ _ _ _ _ (in-a at) (in-b at) c.columns_at.ensures.columns c.columns_at-in-loop-place.ensures.columns c.if-ne.ensures)

pub loop-place-preserved : goal.loop-place-preserved
loop-place-preserved c =
    let at = (goal.at.loop-place-preserved c).After-columns_at-in-loop-place in
    alike-lists-more c.loop-place.invariant (omega (arith, beyond-length c.args.half c.args.first c.args.a.now, in-a at))
    (beyond-test _ _ _ _ _ (in-a at) (in-b at) c.columns_at.ensures.columns c.columns_at-in-loop-place.ensures.columns c.if-ne.ensures)

pub returns : goal.returns
returns c =
    let a = c.args in
    alike-lists-end c.loop-place.invariant
    (omega (arith, beyond-length a.half a.first a.a.now, c.loop-place-test.false, c.matrices_in-count.ensures))
