-- A join is never stopped: there is a turn for each joined state that has room, and two have room.
use Rattle.std.specs.Prelude.{◌≡◌, List, ℕ, ◌≤◌}
use Rattle.std.proofs.Common.{le_refl, lit<, leb→le}
use native.Mathlib.Omega.{arith}
use Rattle.definitions.specs.Faults.{answered}
use Rattle.definitions.specs.Arcs.{Arc}
use Rattle.definitions.specs.Growing.{Grown, Machine, Room, Done, finished, stopped, grown_in, begun, grow}
use Rattle.definitions.specs.Joining.{Joined, Move, joining, join_in}
use Rattle.definitions.proofs.Laws.Lists.Tests.{Tells}
use Rattle.definitions.proofs.Laws.Text.Judging.{passes_at, judge-answered, and_then-answered}
use Rattle.definitions.proofs.Construction.Turns.{HasRoom, never-stopped}
use Rattle.definitions.proofs.Joined.States.{joined-told}

module _ (arcs : List Arc) (words : List (List ℕ)) (room : Room) where
  abbrev machine : Machine Joined Move
  machine = joining arcs words

  begins : 2 ≤ room.table → HasRoom room (begun machine)
  unfolding joining
  begins h = record { table = h; arcs = omega arith }

  told : Tells machine.same
  unfolding joining
  told = joined-told

  -- what is done when it ends is finished
  all_done : 2 ≤ room.table → (done : Done Joined) (net : Grown Joined)
      → grow machine room room.table ≡ answered done → answered (grown_in done) ≡ answered net
      → (turns : ℕ) × (grow machine room room.table ≡ answered (finished turns net))
  unfolding grown_in
  all_done h (finished turns last) net grown e = (turns, cc)
  all_done h (stopped turns last) net grown e =
      absurd (never-stopped machine told room (begins h) room.table (le_refl room.table) turns last grown)

  pub join-finishes : (net : Grown Joined) → join_in arcs words room ≡ answered net
      → (turns : ℕ) × (grow machine room room.table ≡ answered (finished turns net))
  unfolding join_in
  join-finishes net e =
      let (enough, grows) = judge-answered 0 _ _ net e in
      let (done, grown, same) = and_then-answered (grow machine room room.table) _ net grows in
      all_done (leb→le 2 room.table (passes_at _ enough 0 (lit< tt))) done net grown same
