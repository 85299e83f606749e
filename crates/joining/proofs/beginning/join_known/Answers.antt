-- `beginning::join_known` meets its contract: whatever the number of heads, they are cleared, and there are more than
-- joined states have room for.
use native.Mathlib.Omega.{arith}
use Rattle.definitions.specs.Joining.{join_room}
use Rattle.joining.specs.Laws.Starting.{cleared-chains}
use Rattle.joining.proofs.beginning.join_known.Goals as goal

pub join_with-requires : goal.join_with-requires
unfolding join_room
join_with-requires c =
    (c.requires, cleared-chains c.requires 8192 (omega (arith, c.if-state_room-lt-FEW.true, c.state_room.ensures)))

pub join_with-requires-else-state_room-lt-FEW : goal.join_with-requires-else-state_room-lt-FEW
unfolding join_room
join_with-requires-else-state_room-lt-FEW c =
    (c.requires, cleared-chains c.requires 131072 (omega arith))
