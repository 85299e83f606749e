-- `adding::enter` meets its contract, by what the search along the chain found and by the room.
use Rattle.std.proofs.Common.{arith, rules, sym, subst, ℕ, ◌*◌, ◌≤◌, length, take, length-take-le}
use Rattle.definitions.specs.Metastates.{metastate_size}
use Rattle.index.specs.Laws.CutRecords.{cut-used}
use Rattle.index.specs.Laws.Followers.{narrow}
use Rattle.growing.specs.Chains.{Findable, Found, elements_in}
use Rattle.metastates.specs.Networks.{metastate_code, metastate_with}
use Rattle.metastates.specs.Laws.Entering.{enter-used, enter-searchable, enter-arcs, enter-placed}
use Rattle.metastates.specs.Laws.Entering.{enter-place-for, enter-known, enter-crowded, enter-new}
use Rattle.metastates.proofs.adding.enter.Goals as goal
use Rattle.metastates.proofs.adding.enter.Goals.{After-find, After-metastate_size, After-metastate_room}

-- the words in use are within the table
used-few : (c : goal.After-metastate_size) → c.metastate_size.result * c.args.sizes.table ≤ length c.args.metastates.now
used-few c = cut-used c.metastate_size.ensures c.args.sizes.table (enter-used c.requires)

-- what the search found among the words in use
found_in : (c : goal.After-find)
    → Found (metastate_code c.args.rules.header.half)
    (elements_in (metastate_code c.args.rules.header.half)
    (take (metastate_size c.args.rules.header.half * c.args.sizes.table) c.args.metastates.now))
    (metastate_with c.args.rules.header.half c.args.follower.number c.args.follower.met.columns) c.find.result
found_in c =
    let a = c.args in
    let code = metastate_code a.rules.header.half in
    subst (λ (n : ℕ). Found code (elements_in code (take (n * a.sizes.table) a.metastates.now))
    (metastate_with a.rules.header.half a.follower.number a.follower.met.columns) c.find.result)
    c.metastate_size.ensures c.find.ensures

pub overflow_mul-used : goal.overflow_mul-used
overflow_mul-used c = let few = used-few (goal.at.overflow_mul-used c).After-metastate_size in search rules

pub slice_bounds-used-end : goal.slice_bounds-used-end
slice_bounds-used-end c = used-few (goal.at.slice_bounds-used-end c).After-metastate_size

pub slice_bounds-used-end-2 : goal.slice_bounds-used-end-2
slice_bounds-used-end-2 c =
    sym (length-take-le _ c.args.metastates.now (used-few (goal.at.slice_bounds-used-end-2 c).After-metastate_size))

pub find-requires : goal.find-requires
find-requires c =
    let a = c.args in
    let s = c.requires in
    let findable =
    subst (λ (n : ℕ). Findable (metastate_code a.rules.header.half)
    (take (n * a.sizes.table) a.metastates.now) a.chains.now) (sym c.metastate_size.ensures)
    (enter-searchable s) in
    (findable, s.shaped, narrow s.connectable.usable)

pub arc_into-requires : goal.arc_into-requires
arc_into-requires c =
    enter-placed c.requires c.args.from (found_in (goal.at.arc_into-requires c).After-find) c.in-Some.is

pub add_arc-requires : goal.add_arc-requires
add_arc-requires c = enter-arcs c.requires

pub returns-in-Some : goal.returns-in-Some
returns-in-Some c =
    enter-known c.requires c.args.from (found_in (goal.at.returns-in-Some c).After-find) c.in-Some.is
    (rw c.arc_into.ensures at c.add_arc.ensures)

pub returns-then-metastate_room-place : goal.returns-then-metastate_room-place
returns-then-metastate_room-place c =
    enter-crowded c.requires c.args.from (found_in (goal.at.returns-then-metastate_room-place c).After-find)
    c.in_default.is (omega (arith, c.if-metastate_room-place.true, c.metastate_room.ensures))

pub add_metastate-requires : goal.add_metastate-requires
add_metastate-requires c =
    enter-place-for c.requires (omega (arith, c.if-metastate_room-place.false, c.metastate_room.ensures))

pub arc_into-requires-2 : goal.arc_into-requires-2
arc_into-requires-2 c =
    let s = c.requires in
    record {
      connectable = s.connectable;
      listed = s.listed;
      few = omega (arith, c.if-metastate_room-place.false, c.metastate_room.ensures);
    }

pub add_arc-requires-2 : goal.add_arc-requires-2
add_arc-requires-2 c = enter-arcs c.requires

pub returns : goal.returns
returns c =
    enter-new c.requires c.args.from (found_in (goal.at.returns c).After-find) c.in_default.is
    (omega (arith, c.if-metastate_room-place.false, c.metastate_room.ensures))
    c.add_metastate.ensures (rw c.arc_into-2.ensures at c.add_arc-2.ensures)
