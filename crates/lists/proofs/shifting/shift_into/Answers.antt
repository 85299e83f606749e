-- `shifting::shift_into` meets its contract. The loop's invariant: the matrices before `place` are shifted.
use mathlib.Core.Path.{ap, sym, ◌∙◌}
use native.Mathlib.Omega.{arith}
use lib.ListN.{length-set}
use Rattle.lists.specs.Held.{columns_at}
use Rattle.lists.specs.Shifting.{shifted_by}
use Rattle.lists.specs.Laws.Held.{Turn, turn-of, turns-end, list_length, list-few, columns-length}
use Rattle.lists.specs.Laws.Held.{room_at, room-set, became-from}
use Rattle.lists.specs.Laws.Shifting.{mapped-start, mapped-more, mapped_end, shifted-length}
use Rattle.lists.proofs.shifting.shift_into.Goals as goal
use Rattle.lists.proofs.shifting.shift_into.Goals.{After-start_of}

pub loop-place-init : goal.loop-place-init
loop-place-init c =
    mapped-start c.requires.1 _ _ (c.matrices_in-count.ensures ∙ sym (list_length _ _))

-- a turn's matrix
module _ (c : goal.After-start_of) where
  turn : Turn c.args.half c.args.list.now c.loop-place.place
      c.start_of.result
  turn =
      turn-of c.requires.0 c.matrices_in-count.ensures c.loop-place.place
      c.loop-place-test.true c.start_of.ensures

pub shift_columns-requires : goal.shift_columns-requires
shift_columns-requires c =
    let few = list-few c.requires.0 in (
      c.requires.0.space.narrow,
      (turn (goal.at.shift_columns-requires c).After-start_of).there,
      room_at (room-set c.requires.1 0 _) c.loop-place.out
          c.loop-place.invariant.sized _
          (omega (arith, few, (turn (goal.at.shift_columns-requires c).After-start_of).inside)) c.start_of.ensures,
    )

pub loop-place-preserved : goal.loop-place-preserved
loop-place-preserved c =
    let a = c.args in
    mapped-more (room-set c.requires.1 0 _) (list-few c.requires.0) c.loop-place.invariant
    (turn (goal.at.loop-place-preserved c).After-start_of).inside c.start_of.ensures
    (shifted-length a.all (columns_at a.half a.list.now c.start_of.result)
    (columns-length a.half a.list.now _ (turn (goal.at.loop-place-preserved c).After-start_of).there) (omega arith))
    (ap (shifted_by a.all) (sym (turn (goal.at.loop-place-preserved c).After-start_of).its)) c.shift_columns.ensures

pub shape_of-out : goal.shape_of-out
shape_of-out c =
    c.loop-place.invariant.sized ∙ length-set c.args.out.now 0 _

pub returns : goal.returns
returns c =
    became-from (length-set c.args.out.now 0 _)
    (mapped_end (room-set c.requires.1 0 _) (list-few c.requires.0) c.loop-place.invariant
    (turns-end c.requires.0 c.matrices_in-count.ensures _ c.loop-place-test.false))
