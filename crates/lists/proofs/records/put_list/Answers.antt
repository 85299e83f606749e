-- `records::put_list` meets its contract. The loop's invariant: the matrices before `place` are written.
use mathlib.Core.Path.{refl, sym, ◌∙◌}
use native.Mathlib.Omega.{arith}
use Rattle.lists.specs.Laws.Held.{Turn, turn-of, turns-end, list_length, list-few, columns-length}
use Rattle.lists.specs.Laws.Held.{room_at}
use Rattle.lists.specs.Laws.Records.{cleared-sized, written_start, written-more, written-room}
use Rattle.lists.specs.Laws.Records.{written-sized, written-end}
use Rattle.lists.proofs.records.put_list.Goals as goal
use Rattle.lists.proofs.records.put_list.Goals.{After-start_of}

pub bounds-out-0 : goal.bounds-out-0
bounds-out-0 c =
    omega (arith, cleared-sized c.args.half c.requires.1)

pub loop-place-init : goal.loop-place-init
loop-place-init c =
    written_start _ _ c.requires.1 (c.matrices_in-count.ensures ∙ sym (list_length _ _))

-- a turn's matrix
module _ (c : goal.After-start_of) where
  turn : Turn c.args.half c.args.list.now c.loop-place.place
      c.start_of.result
  turn =
      turn-of c.requires.0 c.matrices_in-count.ensures c.loop-place.place
      c.loop-place-test.true c.start_of.ensures

pub copy_columns-requires : goal.copy_columns-requires
copy_columns-requires c =
    let r = c.requires.0 in
    let few = list-few r in
    let inside = (turn (goal.at.copy_columns-requires c).After-start_of).inside in
    let held = c.loop-place.invariant in (
      r.space.narrow,
      (turn (goal.at.copy_columns-requires c).After-start_of).there,
      room_at (written-room r.space.narrow held few) c.loop-place.out refl _
          (omega arith) c.start_of.ensures,
    )

pub loop-place-preserved : goal.loop-place-preserved
loop-place-preserved c =
    let a = c.args in
    let r = c.requires.0 in
    written-more r.space.narrow c.loop-place.invariant (list-few r) _ (turn (goal.at.loop-place-preserved c).After-start_of).inside (turn (goal.at.loop-place-preserved c).After-start_of).its
    (columns-length a.half a.list.now _ (turn (goal.at.loop-place-preserved c).After-start_of).there) c.start_of.ensures
    c.copy_columns.ensures

pub shape_of-out : goal.shape_of-out
shape_of-out c =
    written-sized c.requires.0.space.narrow c.loop-place.invariant (list-few c.requires.0)
    ∙ sym (cleared-sized c.args.half c.requires.1)

pub returns : goal.returns
returns c =
    written-end c.requires.0.space.narrow c.loop-place.invariant
    (turns-end c.requires.0 c.matrices_in-count.ensures _ c.loop-place-test.false)
