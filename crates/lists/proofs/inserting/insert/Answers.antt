-- `inserting::insert` meets its contract: either the matrix is there, or it is put at its place.
use Rattle.std.specs.Prelude.{Some}
use mathlib.Core.Path.{◌≡◌, subst}
use native.Mathlib.Omega.{arith}
use lib.ListN.{length}
use Rattle.definitions.specs.Lists.{◌!◌}
use Rattle.matrix.specs.Shapes.{matrix_in}
use Rattle.lists.specs.Held.{list_in}
use Rattle.lists.specs.Ordering.{BelongsAt}
use Rattle.lists.specs.Laws.Held.{list_length, unchanged}
use Rattle.lists.proofs.inserting.insert.Goals as goal
use Rattle.lists.proofs.inserting.insert.Goals.{In-Some}

-- the matrix and the list of a call, and the place that is told
module _ (c : goal.In-Some) where
  counted : length (list_in c.args.half c.args.list.now) ≡ c.args.list.now ! 0
  counted = list_length c.args.half c.args.list.now

  belongs : BelongsAt (matrix_in c.args.half c.args.m.columns) (list_in c.args.half c.args.list.now) (Some c.in-Some.place)
  belongs =
      subst (BelongsAt (matrix_in c.args.half c.args.m.columns) (list_in c.args.half c.args.list.now)) c.in-Some.is
      c.place_for.ensures

pub insert_at-requires : goal.insert_at-requires
insert_at-requires c =
    let told = (goal.at.insert_at-requires c).In-Some in
    (c.requires, omega (arith, (belongs told).0, counted told))

pub returns-in-Some : goal.returns-in-Some
returns-in-Some c = rw (belongs (goal.at.returns-in-Some c).In-Some).1 c.insert_at.ensures

pub returns-in-None : goal.returns-in-None
returns-in-None c =
    unchanged c.requires
    (subst (BelongsAt (matrix_in c.args.half c.args.m.columns) (list_in c.args.half c.args.list.now)) c.in-None.is
    c.place_for.ensures)
