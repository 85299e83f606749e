-- Joined states in lent words, and what entering one starts from and leaves.
use Rattle.std.specs.Prelude.{◌≡◌, List, [], ℕ, ◌+◌, ◌*◌, ◌%◌, ◌≤◌, ◌<◌, length, take, drop, Result}
use Rattle.definitions.specs.declared.Fault.{Fault}
use Rattle.definitions.specs.Lists.{◌!◌}
use Rattle.definitions.specs.Faults.{Outcome}
use Rattle.definitions.specs.Arcs.{INITIAL}
use Rattle.definitions.specs.Growing.{Grown, Machine, enter, Room, perform}
use Rattle.definitions.specs.Joining.{Joined, joined, Move, joined_size, joined_words, joining, join_room, most_joined}
use Rattle.lines.specs.Putting.{put_at}
use Rattle.growing.specs.declared.Sizes.{Sizes}
use Rattle.growing.specs.Chains.{Code, heads_in, linked_to}
use Rattle.growing.specs.Steps as growing
use Rattle.growing.specs.Steps.{held_in}
use Rattle.joined.specs.declared.Joined as declared

-- the joined state that the code holds, the one that three words hold, and the three words at a place
abbrev pub joined_of : declared.Joined → Joined
joined_of x = joined x.state x.word x.mark

unfoldable pub joined_in : (row : List ℕ) → Joined
joined_in row = joined (row ! 0) (row ! 1) (row ! 2)

abbrev pub row_at : (states : List ℕ) → (place : ℕ) → List ℕ
row_at states place = take joined_size (drop (joined_size * place) states)

abbrev pub move_to : Joined → (model label : ℕ) → Move
move_to target model label = record { target = target; model = model; label = label }

-- how joined states stand in words
unfoldable pub joined_key : Joined → ℕ
joined_key x = (10007 * x.state + 67 * x.mark.word + x.mark.mark) % 65521

abbrev pub joined_code : Code Joined
joined_code =
    record {
      nothing = joined INITIAL 0 0;
      size = joined_size;
      words = joined_words;
      read = joined_in;
      key = joined_key;
    }

-- the room in lent words
abbrev pub room_of : (states arcs : List ℕ) → Room
room_of states arcs = join_room (record { states = length states; arcs = length arcs })

-- what is entered, whatever network and words are joined
abbrev pub entering : Machine Joined Move
entering = joining [] []

-- what so many states and arcs in words are
abbrev pub held : Sizes → (states arcs : List ℕ) → Grown Joined
held sizes states arcs = held_in joined_code sizes states arcs

-- lent words that hold so many states and arcs, and nothing else
abbrev pub Underway : Sizes → (states arcs chains : List ℕ) → Type 0
Underway sizes states arcs chains = growing.Underway joined_code (room_of states arcs) sizes states arcs chains

-- the words before, the outcome, the answer, and the words after
abbrev pub StepLeft : (states arcs chains : List ℕ) → Outcome (Grown Joined) → Result Sizes Fault
    → (states' arcs' chains' : List ℕ) → Type 0
StepLeft states arcs chains outcome answer states' arcs' chains' =
    growing.StepLeft joined_code (room_of states arcs) states arcs chains outcome answer states' arcs' chains'

-- one joined state entered from another
abbrev pub entered : (states arcs : List ℕ) → Sizes → (from : ℕ) → Move → Outcome (Grown Joined)
entered states arcs sizes from move =
    perform entering (room_of states arcs) (held sizes states arcs) (enter from move)

-- a place for one state more: its words, and its link
pub record HasPlace (states chains : List ℕ) (place : ℕ) : Type 0 where
  pub within : joined_size * place + joined_size ≤ length states
  pub link : place < heads_in chains
  pub few : place < most_joined

-- after it was put at a place of the table and at the front of its chain
pub record JoinedAdded (x : Joined) (place : ℕ) (states chains states' chains' : List ℕ) : Type 0 where
  pub put : states' ≡ put_at (joined_size * place) (joined_words x) states
  pub linked : chains' ≡ linked_to (heads_in chains) chains place (joined_key x)
