-- `adding::add_arc` meets its contract: with room, the words of the arc stand after the others.
use Prim.Native.Nat.{◌<◌}
use native.Mathlib.Omega.{arith}
use borrow.Author.Tests.{lt-ltb}
use Rattle.definitions.specs.Arcs.{arc_words}
use Rattle.lines.specs.Putting.{put_at}
use Rattle.growing.specs.Steps.{arc_room}
use Rattle.growing.proofs.adding.add_arc.Goals as goal

pub returns : goal.returns
unfolding put_at arc_words
returns c =
    let a = c.args in
    let free : a.sizes.arcs < arc_room a.arcs.now =
    omega (arith, c.if-arc_room-sizes.false, c.arc_room.ensures) in
    record { answers = rw (lt-ltb _ _ free); words = rw (lt-ltb _ _ free) c.put_arc.ensures }
