-- `connecting::connect` meets its contract: with few metastates as with many there are more heads than have room.
use Rattle.std.proofs.Common.{arith}
use Rattle.network.proofs.connecting.connect.Goals as goal

pub connect_with-requires : goal.connect_with-requires
connect_with-requires c = (
  c.requires,
  record {
    heads = omega (arith, c.if-metastate_room-lt-FEW.true, c.metastate_room.ensures);
    slots = omega arith;
    ends_room = omega arith;
    index_small = omega arith;
    chains_small = omega arith;
    spans_small = omega arith;
  },
)

pub connect_with-requires-else-metastate_room-lt-FEW : goal.connect_with-requires-else-metastate_room-lt-FEW
connect_with-requires-else-metastate_room-lt-FEW c = (
  c.requires,
  record {
    heads = omega arith;
    slots = omega arith;
    ends_room = omega arith;
    index_small = omega arith;
    chains_small = omega arith;
    spans_small = omega arith;
  },
)
