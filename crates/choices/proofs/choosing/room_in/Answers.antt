-- `choosing::room_in` meets its contract.
use Rattle.std.proofs.Common.{ℕ, ◌/◌, ap, arith}
use Rattle.definitions.specs.Combinations.{combination_room}
use Rattle.choices.proofs.choosing.room_in.Goals as goal

pub returns : goal.returns
unfolding combination_room
returns c = let room = ap (λ (k : ℕ). c.args.words / k) c.combination_size.ensures in omega (arith, room, c.min.ensures)
