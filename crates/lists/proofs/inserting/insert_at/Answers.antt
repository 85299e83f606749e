-- `inserting::insert_at` meets its contract: the gap is opened, filled and counted, where there is room for it.
use mathlib.Core.Path.{◌≡◌, sym, ◌∙◌}
use Prim.Native.Nat.{◌+◌, ◌≤◌, ◌<◌}
use native.Mathlib.Omega.{arith}
use lib.ListN.{length, length-set}
use Rattle.definitions.specs.Lists.{◌!◌}
use Rattle.definitions.specs.Matrices.{matrix_size}
use Rattle.lists.specs.Laws.Held.{wide_enough}
use Rattle.lists.specs.Laws.Inserting.{gap-fits, gap-as, inserted, ninth}
use borrow.Author.Rules.{rules}
use Rattle.lists.proofs.inserting.insert_at.Goals as goal
use Rattle.lists.proofs.inserting.insert_at.Goals.{After-start_of, Start}

pub returns-then-count-eq8 : goal.returns-then-count-eq8
returns-then-count-eq8 c =
    ninth _ _ c.requires.1 (sym c.matrices_in-count.ensures ∙ c.if-count-eq8.true)

sized : (c : goal.Start) → length c.args.m.columns ≡ 7
sized c = search rules

-- where the matrix goes, and where the last one ends
module _ (c : goal.After-start_of) where
  abbrev count_is : c.matrices_in-count.result ≡ c.args.list.now ! 0
  count_is = c.matrices_in-count.ensures

  within : c.args.place ≤ c.matrices_in-count.result
  within = omega (arith, count_is, c.requires.1)

  few : c.matrices_in-count.result < 8
  few = omega (arith, count_is, c.requires.0.few, c.if-count-eq8.false)

  fits : (c.start_of-from.result ≤ c.start_of.result)
      × (c.start_of.result + matrix_size c.args.half ≤ length c.args.list.now)
  fits = gap-fits c.requires.0 _ _ within few c.start_of-from.ensures c.start_of.ensures

pub open_gap-requires : goal.open_gap-requires
open_gap-requires c = ((fits (goal.at.open_gap-requires c).After-start_of).0, omega (arith, (fits (goal.at.open_gap-requires c).After-start_of).1, c.matrix_size.ensures.0))

pub put_columns-requires : goal.put_columns-requires
put_columns-requires c =
    let space = c.requires.0.space in (
      space.narrow,
      omega (arith, fits (goal.at.put_columns-requires c).After-start_of, c.open_gap.ensures.sized, wide_enough space),
    )

pub shape_of-list : goal.shape_of-list
shape_of-list c =
    length-set c.put_columns.new.words 0 _
    ∙ c.put_columns.ensures.sized ∙ c.open_gap.ensures.sized

pub returns : goal.returns
returns c =
    inserted c.requires.0 _ _ (sized (goal.at.returns c).Start) (count_is (goal.at.returns c).After-start_of) (within (goal.at.returns c).After-start_of) (few (goal.at.returns c).After-start_of)
    c.start_of-from.ensures c.start_of.ensures
    (gap-as c.matrix_size.ensures.0 c.open_gap.ensures)
    c.put_columns.ensures
