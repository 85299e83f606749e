-- `repeating::repeat` meets its contract.
use mathlib.Core.Path.{◌≡◌}
use mathlib.Core.Bool.{true, false}
use Prim.Native.Nat.{◌+◌, ◌-◌}
use native.Mathlib.Omega.{arith}
use lib.Dec.{leb}
use borrow.Author.Tests.{le-leb, lt-leb}
use Rattle.growing.specs.Steps.{arc_room}
use Rattle.followers.proofs.repeating.repeat.Goals as goal

pub returns-then-arc_room-sizes : goal.returns-then-arc_room-sizes
returns-then-arc_room-sizes c =
    let a = c.args in
    let over : leb (a.sizes.arcs + (a.span.end - a.span.first)) (arc_room a.arcs.now) ≡ false =
    lt-leb (a.sizes.arcs + (a.span.end - a.span.first)) (arc_room a.arcs.now)
    (omega (arith, c.if-arc_room-sizes.true, c.arc_room.ensures)) in
    record { answers = rw over; words = rw over }

pub returns : goal.returns
returns c =
    let a = c.args in
    let fits : leb (a.sizes.arcs + (a.span.end - a.span.first)) (arc_room a.arcs.now) ≡ true =
    le-leb (a.sizes.arcs + (a.span.end - a.span.first)) (arc_room a.arcs.now)
    (omega (arith, c.if-arc_room-sizes.false, c.arc_room.ensures)) in
    record { answers = rw fits; words = rw fits c.copy_span.ensures }
