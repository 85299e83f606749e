-- What the steps of a build lead to by the definition: the network that lent words hold grows by the rules
-- from nodes and combinations in words, within the room of the lent words.
use Rattle.std.specs.Prelude.{List, map, ℕ}
use Rattle.definitions.specs.declared.Header.{Header}
use Rattle.definitions.specs.Faults.{Outcome}
use Rattle.definitions.specs.Arcs.{last_state}
use Rattle.definitions.specs.Metastates.{Metastate, followers_from}
use Rattle.definitions.specs.Growing.{enter, perform, perform_all, expand, turns_from}
use Rattle.definitions.specs.Connecting.{start_events, Network, Built, no_network, connect}
use Rattle.matrix.specs.Shapes.{matrix_in}
use Rattle.index.specs.declared.Follower.{Follower}
use Rattle.index.specs.Combinations.{combinations_in, rules_in, machine_in}
use Rattle.growing.specs.declared.Sizes.{Sizes}
use Rattle.metastates.specs.Networks.{metastate_with, network_held, room_of}

-- the metastate that a follower is
abbrev pub metastate_of : (half : ℕ) → Follower → Metastate
metastate_of half follower =
    metastate_with half follower.number follower.met.columns

-- one metastate entered from a state
abbrev pub entered : Header → (nodes words metastates arcs : List ℕ) → Sizes → (from : ℕ) → Follower
    → Outcome Network
entered header nodes words metastates arcs sizes from follower =
    perform (machine_in header nodes words) (room_of header.half metastates arcs)
    (network_held header.half sizes metastates arcs) (enter from (metastate_of header.half follower))

-- several
abbrev pub entering_all : Header → (nodes words : List ℕ) → (from : ℕ) → (metastates arcs : List ℕ)
    → Network → List Metastate → Outcome Network
entering_all header nodes words from metastates arcs net xs =
    perform_all (machine_in header nodes words) (room_of header.half metastates arcs) net (map (enter from) xs)

-- the followers of a shifted matrix, from a state
abbrev pub followed_from : Header → (nodes words metastates arcs : List ℕ) → Sizes → (from : ℕ)
    → (columns : List ℕ) → Outcome Network
followed_from header nodes words metastates arcs sizes from columns =
    entering_all header nodes words from metastates arcs (network_held header.half sizes metastates arcs)
    (followers_from (matrix_in header.half columns) 0 (combinations_in header words))

-- the start metastates
abbrev pub started_in : Header → (nodes words metastates arcs : List ℕ) → Outcome Network
started_in header nodes words metastates arcs =
    perform_all (machine_in header nodes words) (room_of header.half metastates arcs) no_network
    (start_events (rules_in header nodes words))

-- the followers of the metastate at a place, by its shifted matrix
abbrev pub followed_on : Header → (nodes words metastates arcs : List ℕ) → Sizes → (place : ℕ)
    → (columns : List ℕ) → Outcome Network
followed_on header nodes words metastates arcs sizes place columns =
    followed_from header nodes words metastates arcs sizes (last_state header.states place) columns

-- the turn of the metastate at a place
abbrev pub expanded_at : Header → (nodes words metastates arcs : List ℕ) → Sizes → (place : ℕ)
    → Outcome Network
expanded_at header nodes words metastates arcs sizes place =
    expand (machine_in header nodes words) (room_of header.half metastates arcs) place
    (network_held header.half sizes metastates arcs)

-- all turns after the start, up to the limit
abbrev pub turned_from : Header → (nodes words metastates arcs : List ℕ) → Sizes → (limit : ℕ) → Outcome Built
turned_from header nodes words metastates arcs sizes limit =
    turns_from (machine_in header nodes words) (room_of header.half metastates arcs) limit 0
    (network_held header.half sizes metastates arcs)

-- the start and the turns
abbrev pub connected_in : Header → (nodes words metastates arcs : List ℕ) → (limit : ℕ) → Outcome Built
connected_in header nodes words metastates arcs limit =
    connect (rules_in header nodes words) (room_of header.half metastates arcs) limit
