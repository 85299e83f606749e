-- `ending::ends_in` meets its contract. The loop's invariant: no path may end with the matrices before `place`.
use Rattle.std.proofs.Common.{◌≡◌, ap, sym, ◌∙◌, arith, [], ◌<◌, length, get_or}
use Rattle.definitions.specs.Matrices.{ends_here}
use Rattle.definitions.specs.MatrixLists.{list_ends}
use Rattle.lines.specs.Laws.Passing.{missed-start, missed_more, missed-found, missed-end}
use Rattle.lists.specs.Held.{list_in}
use Rattle.lists.specs.Laws.Held.{list_length}
use Rattle.lists.specs.Laws.Values.{matrix-read}
use Rattle.lists.proofs.ending.ends_in.Goals as goal
use Rattle.lists.proofs.ending.ends_in.Goals.{After-ends_here}

pub loop-place-init : goal.loop-place-init
loop-place-init c = missed-start _ _

-- a turn's matrix and its test
module _ (c : goal.After-ends_here) where
  inside : c.loop-place.place < length (list_in c.args.half c.args.list.now)
  inside = omega (arith, list_length c.args.half c.args.list.now, c.matrices_in-place-end.ensures)

  tested : ends_here c.args.half (get_or (list_in c.args.half c.args.list.now) c.loop-place.place [])
      ≡ c.ends_here.result
  tested =
      ap (ends_here c.args.half) (matrix-read c.requires _ (omega arith) c.matrix_at.ensures)
      ∙ sym c.ends_here.ensures

pub returns-then-ends_here : goal.returns-then-ends_here
unfolding list_ends
returns-then-ends_here c =
    let at = (goal.at.returns-then-ends_here c).After-ends_here in
    missed-found [] c.loop-place.invariant (inside at) (tested at ∙ c.if-ends_here.true)

pub loop-place-preserved : goal.loop-place-preserved
loop-place-preserved c =
    let at = (goal.at.loop-place-preserved c).After-ends_here in
    missed_more [] c.loop-place.invariant (inside at) (tested at ∙ c.if-ends_here.false)

pub returns : goal.returns
unfolding list_ends
returns c =
    missed-end c.loop-place.invariant
    (omega (arith, list_length c.args.half c.args.list.now, c.matrices_in-place-end.ensures))
