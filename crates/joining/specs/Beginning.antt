-- What a join begins with, and what it leaves.
use Rattle.std.specs.Prelude.{◌≡◌, List, [], ℕ, ◌≤◌, ◌<◌, length, Result}
use Rattle.definitions.specs.Lists.{cleared}
use Rattle.definitions.specs.Faults.{answered}
use Rattle.definitions.specs.Growing.{Grown, begun}
use Rattle.definitions.specs.Joining.{Joined, join_in, join_left}
use Rattle.growing.specs.declared.Sizes.{Sizes}
use Rattle.definitions.specs.declared.Fault.{Fault}
use Rattle.growing.specs.Chains.{heads_in}
use Rattle.growing.specs.Steps.{step_of}
use Rattle.marks.specs.Lexicon.{spelled, Lexicon}
use Rattle.joined.specs.States.{room_of, held, entering, Underway}
use Rattle.arcs.specs.Whole.{all_arcs}
use Rattle.joining.specs.Turns.{Followed}

-- words that are cleared as they stand
abbrev pub Cleared : (words : List ℕ) → Type 0
Cleared words = words ≡ cleared (length words)

-- a network, words, and cleared space for two joined states or more
pub record Startable (arcs words states joined : List ℕ) : Type 0 where
  pub followed : Followed arcs
  pub lexicon : Lexicon words
  pub states_cleared : Cleared states
  pub joined_cleared : Cleared joined
  pub two : 2 ≤ (room_of states joined).table

-- cleared chains, with more heads than the states have room for
pub record Chainable (states chains : List ℕ) : Type 0 where
  pub states_cleared : Cleared states
  pub chains_cleared : Cleared chains
  pub heads : (room_of states []).table < heads_in chains
  pub two : 2 ≤ (room_of states []).table

-- the first two states stand in the words, whatever cleared words there are for arcs
pub record Begun (states chains states' chains' : List ℕ) : Type 0 where
  pub states_sized : length states' ≡ length states
  pub chains_sized : length chains' ≡ length chains
  pub underway : (joined : List ℕ) → Cleared joined
      → Underway (record { table = 2; arcs = 0 }) states' joined chains'
  pub first : (joined : List ℕ) → Cleared joined
      → held (record { table = 2; arcs = 0 }) states' joined ≡ begun entering

-- what the join of all of it answers, and what the space holds where it answers
pub record JoinLeft (arcs words states joined : List ℕ) (answer : Result Sizes Fault) (states' joined' : List ℕ) : Type 0 where
  pub answers : answer ≡ step_of (join_in (all_arcs arcs) (spelled words) (room_of states joined))
  pub holds : (net : Grown Joined) → join_in (all_arcs arcs) (spelled words) (room_of states joined) ≡ answered net
      → (states' ≡ (join_left (record { states = length states; arcs = length joined }) (answered net)).states)
      × (joined' ≡ (join_left (record { states = length states; arcs = length joined }) (answered net)).arcs)
  pub states_sized : length states' ≡ length states
  pub joined_sized : length joined' ≡ length joined
