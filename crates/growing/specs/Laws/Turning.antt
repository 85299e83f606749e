-- Laws about the turns of a growing table, whichever machine grows it: none is left, the limit ends them, or one is
-- taken.
use Rattle.std.specs.Prelude.{◌≡◌, length}
use Prim.Native.Nat.{ℕ, zero, suc, ◌≤◌, ◌<◌}
use Rattle.std.proofs.Common.{lt-ltb, le-ltb}
use Rattle.definitions.specs.Faults.{answered, and_then}
use Rattle.definitions.specs.Growing.{Grown, Machine, Room, finished, stopped, expand, turns_from}

module _ {X E : Type 0} (m : Machine X E) (room : Room) where
  pub none_left : (limit turns : ℕ) (net : Grown X) → length net.table ≤ turns
      → turns_from m room limit turns net ≡ answered (finished turns net)
  unfolding turns_from
  none_left zero turns net h = rw (le-ltb turns (length net.table) h)
  none_left (suc limit) turns net h = rw (le-ltb turns (length net.table) h, turns_from)

  pub one_left : (turns : ℕ) (net : Grown X) → turns < length net.table
      → turns_from m room 0 turns net ≡ answered (stopped turns net)
  unfolding turns_from
  one_left turns net h = rw (lt-ltb turns (length net.table) h)

  pub one-turn : (limit turns : ℕ) (net : Grown X) → turns < length net.table
      → turns_from m room (suc limit) turns net
      ≡ and_then (expand m room turns net) (λ next. turns_from m room limit (suc turns) next)
  unfolding turns_from
  one-turn limit turns net h = rw (lt-ltb turns (length net.table) h, turns_from)
