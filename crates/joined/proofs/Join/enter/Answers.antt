-- `Join::enter` meets its contract, by what the search along the chain found and by the room.
use Rattle.std.proofs.Common.{rules, sym, arith, ◌≤◌, ◌<◌, length-take-le}
use Rattle.joined.specs.States.{joined_of}
use Rattle.joined.specs.Laws.Entering.{state_room, joined-used, joined-searchable, joined-arcs, joined-place-for}
use Rattle.joined.specs.Laws.Entering.{joined-place, joined-known, joined-crowded, joined-new}
use Rattle.joined.proofs.Join.enter.Goals as goal
use Rattle.joined.proofs.Join.enter.Goals.{Else-state_room-place}

-- there is room for a state
free : (c : goal.Else-state_room-place) → c.args.self.now.sizes.table < state_room c.args.self.now.states.now
free c = omega (arith, c.if-state_room-place.false, c.state_room.ensures)

pub overflow_mul-place : goal.overflow_mul-place
overflow_mul-place c = let used = joined-used c.requires in search rules

pub slice_bounds-find-end : goal.slice_bounds-find-end
slice_bounds-find-end c = joined-used c.requires

pub slice_bounds-find-end-2 : goal.slice_bounds-find-end-2
slice_bounds-find-end-2 c = sym (length-take-le _ c.args.self.now.states.now (joined-used c.requires))

pub find-requires : goal.find-requires
find-requires c = joined-searchable c.requires

pub add_arc-requires : goal.add_arc-requires
add_arc-requires c =
    let a = c.args in
    (joined-arcs c.requires, joined-place c.requires a.from (joined_of a.target) a.model a.label c.find.ensures c.in-Some.is)

pub returns-in-Some-clause-left : goal.returns-in-Some-clause-left
returns-in-Some-clause-left c =
    let a = c.args in
    let e = c.add_arc.ensures.added in
    rw (e.states_stay, e.chains_stay)
    (joined-known c.requires a.from (joined_of a.target) a.model a.label c.find.ensures c.in-Some.is e.added)

pub returns-then-state_room-place-clause-left : goal.returns-then-state_room-place-clause-left
returns-then-state_room-place-clause-left c =
    let a = c.args in
    let full : state_room a.self.now.states.now ≤ a.self.now.sizes.table =
    omega (arith, c.if-state_room-place.true, c.state_room.ensures) in
    joined-crowded c.requires a.from (joined_of a.target) a.model a.label c.find.ensures c.in-None.is full

pub add_joined-requires : goal.add_joined-requires
add_joined-requires c =
    joined-place-for c.requires (free (goal.at.add_joined-requires c).Else-state_room-place)

pub add_arc-requires-in-None : goal.add_arc-requires-in-None
add_arc-requires-in-None c =
    let room = free (goal.at.add_arc-requires-in-None c).Else-state_room-place in
    (joined-arcs c.requires, omega (arith, room))

pub returns-else-state_room-place-clause-left : goal.returns-else-state_room-place-clause-left
returns-else-state_room-place-clause-left c =
    let a = c.args in
    let e = c.add_arc-in-None.ensures.added in
    rw (e.states_stay, e.chains_stay)
    (joined-new c.requires a.from (joined_of a.target) a.model a.label c.find.ensures c.in-None.is
    (free (goal.at.returns-else-state_room-place-clause-left c).Else-state_room-place) c.add_joined.ensures e.added)
