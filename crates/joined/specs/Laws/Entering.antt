-- Laws about the arc into a joined state: what the calls of the code ask, and what each answer leaves.
use Rattle.std.specs.Prelude.{◌≡◌, List, ℕ, ◌*◌, ◌/◌, ◌≤◌, ◌<◌, min, length, take, Option, Some, None, Result, Err}
use Rattle.std.proofs.Common.{arith}
use Rattle.definitions.specs.declared.Fault.{Fault}
use Rattle.definitions.specs.declared.Fault.TheVariants.{Crowd}
use Rattle.definitions.specs.Arcs.{arc}
use Rattle.definitions.specs.Joining.{Joined, joined_size, joined_words, joining, most_joined, join_room}
use Rattle.definitions.proofs.Laws.Text.Judging.{AllPass, pass-none}
use Rattle.lines.specs.Putting.{put_at}
use Rattle.growing.specs.declared.Sizes.{Sizes}
use Rattle.growing.specs.Chains.{elements_in, Findable, Found}
use Rattle.growing.specs.Steps.{arc_room, ArcAdded}
use Rattle.growing.specs.Laws.Entering as growing
use Rattle.growing.specs.Laws.Entering.{with_one}
use Rattle.joined.specs.States.{joined_code, move_to, entering, Underway, StepLeft, entered, HasPlace}
use Rattle.joined.specs.States.{JoinedAdded}
use Rattle.joined.specs.Laws.Rows.{joined-coded, entering-told}

-- how many states lent words have room for
abbrev pub state_room : (states : List ℕ) → ℕ
state_room states = min (length states / joined_size) most_joined

module _ {sizes : Sizes} {states arcs chains : List ℕ} (u : Underway sizes states arcs chains) where
  pub joined-used : joined_size * sizes.table ≤ length states
  joined-used = growing.enter-used u

  pub joined-searchable : Findable joined_code (take (joined_size * sizes.table) states) chains
  joined-searchable = growing.enter-searchable u (omega arith)

  pub joined-few : sizes.table ≤ state_room states
  unfolding join_room
  joined-few = growing.enter-few u

  pub joined-arcs : sizes.arcs ≤ arc_room arcs
  joined-arcs = growing.enter-arcs u

  -- the words and the link of a new one
  pub joined-place-for : sizes.table < state_room states → HasPlace states chains sizes.table
  unfolding join_room
  joined-place-for h =
      record {
        within = omega (arith, h);
        link = omega (arith, h, u.kept.link-room);
        few = omega (arith, h);
      }

  module _ (from : ℕ) (x : Joined) (model label : ℕ) {found : Option ℕ}
      (f : Found joined_code (elements_in joined_code (take (joined_size * sizes.table) states)) x found) where
    passes : AllPass (entering.tests (move_to x model label))
    unfolding joining
    passes = pass-none

    looked : Found joined_code (elements_in joined_code (take (joined_size * sizes.table) states))
        (entering.stored (move_to x model label)) found
    unfolding joining
    looked = f

    abbrev Left : Result Sizes Fault → (states' arcs' chains' : List ℕ) → Type 0
    Left answer states' arcs' chains' =
        StepLeft states arcs chains (entered states arcs sizes from (move_to x model label)) answer states' arcs' chains'

    pub joined-place : {place : ℕ} → found ≡ Some place → place < most_joined
    joined-place n =
        omega (
          arith,
          joined-few,
          growing.enter-place u entering entering-told from (move_to x model label) passes (omega arith) looked n,
        )

    pub joined-known : {place : ℕ} → found ≡ Some place → {answer : Result Sizes Fault} {arcs' : List ℕ}
        → ArcAdded sizes (arc from place model label) arcs answer arcs' → Left answer states arcs' chains
    unfolding joining
    joined-known n added =
        growing.enter-known u entering entering-told from (move_to x model label) passes (omega arith) looked n added

    pub joined-crowded : found ≡ None → state_room states ≤ sizes.table → Left (Err Crowd) states arcs chains
    unfolding join_room
    joined-crowded n h =
        growing.enter-crowded u entering entering-told from (move_to x model label) passes (omega arith) looked n h

    pub joined-new : found ≡ None → sizes.table < state_room states
        → {answer : Result Sizes Fault} {states' arcs' chains' : List ℕ}
        → JoinedAdded x sizes.table states chains states' chains'
        → ArcAdded (with_one sizes) (arc from sizes.table model label) arcs answer arcs'
        → Left answer states' arcs' chains'
    unfolding joining join_room put_at joined_words
    joined-new n h added arc-added =
        growing.enter-new u entering entering-told from (move_to x model label) passes (omega arith) looked n h
        (joined-coded x) added.put added.linked arc-added
