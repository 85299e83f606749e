-- Document 02, P4: a network joined with the words of a word book. "Join it with a finished network into arcs
-- (from, to, model, word), a word standing on its first phone's arc, else 0."
use Rattle.std.specs.Prelude.{if◌then◌else◌, List, [], ◌∷◌, ◌++◌, map, Bool, ◌&&◌, ◌||◌, not, ℕ, suc, ◌-◌, ◌/◌, min, leb, eqb, length, get_or}
use Rattle.definitions.specs.declared.Counts.{Counts}
use Rattle.definitions.specs.declared.Fault.TheVariants.{Foreign, Crowd}
use Rattle.definitions.specs.Faults.{Outcome, answered, refused, ◌unless◌, judge, and_then}
use Rattle.definitions.specs.Lists.{◌!◌, select, concat_map, up_from, cleared, padded}
use Rattle.definitions.specs.Arcs.{Arc, arc, INITIAL, FINAL, arc_size, arc_words, arcs_in}
use Rattle.definitions.specs.Growing.{Grown, Machine, enter, Room, grown_in, grow}
use Rattle.definitions.specs.Building.{most_arcs}
use Rattle.definitions.specs.NetworkText.{network_known}
use Rattle.definitions.specs.WordBooks.{words_in, words_known}

-- ---- words and the phones of a path

-- How far words are spoken: 0, 0 before the first silence, 0, 1 between words, 0, 2 after the closing silence, else
-- a word and how many of its phones are spoken.
pub record Mark : Type 0 where
  pub word : ℕ
  pub mark : ℕ

infix 68 ◌⊚◌
abbrev pub ◌⊚◌ : (word mark : ℕ) → Mark
word ⊚ mark = record { word = word; mark = mark }

-- where a phone leads, and the word that stands on its arc, 0 for none
pub record Step : Type 0 where
  pub label : ℕ
  pub next : Mark

abbrev pub step : (label : ℕ) → Mark → Step
step label next = record { label = label; next = next }

module _ (words : List (List ℕ)) where
  -- words count from 1
  abbrev pub phones_in : (word : ℕ) → List ℕ
  phones_in word = get_or words (word - 1) []

  unfoldable pub is_word : ℕ → Bool
  is_word word = leb 1 word && leb word (length words)

  -- "silence, the words' phones in order, and silence"
  unfoldable pub spoken : (W : List ℕ) → List ℕ
  spoken W = 1 ∷ concat_map phones_in W ++ (1 ∷ [])

  -- "each later one a mark on, but its last to 0, 1": where so many phones of a word are spoken
  unfoldable pub spoken_to : (word mark : ℕ) → Mark
  spoken_to word mark = if eqb mark (length (phones_in word)) then 0 ⊚ 1 else word ⊚ mark

  -- "A word's first phone leads from 0, 1 to mark 1 of that word"
  unfoldable pub opening : (phone word : ℕ) → List Step
  opening phone word = if eqb (phones_in word ! 0) phone then step word (spoken_to word 1) ∷ [] else []

  -- "from 0, 1 to 0, 2", and the words: "then by word, closing silence first"
  unfoldable pub between : (phone : ℕ) → List Step
  between phone =
      (if eqb phone 1 then step 0 (0 ⊚ 2) ∷ [] else [])
      ++ concat_map (opening phone) (up_from 1 (length words))

  -- "each later one a mark on"
  unfoldable pub within : (word mark phone : ℕ) → List Step
  within word mark phone =
      if eqb (phones_in word ! mark) phone then step 0 (spoken_to word (suc mark)) ∷ [] else []

  -- "A phone-1 arc leads from 0, 0 to 0, 1"
  unfoldable pub outside : (mark phone : ℕ) → List Step
  outside mark phone =
      if eqb mark 1 then between phone else
      if eqb mark 0 && eqb phone 1 then step 0 (0 ⊚ 1) ∷ [] else []

  -- "An arc without phone keeps word and mark."
  unfoldable pub steps : Mark → (phone : ℕ) → List Step
  steps p phone =
      if eqb phone 0 then step 0 p ∷ [] else
      if eqb p.word 0 then outside p.mark phone else within p.word p.mark phone

-- ---- joined states and arcs

-- "A joined state is three 32-bit words: network state, word, mark."
pub record Joined : Type 0 where
  pub state : ℕ
  pub mark : Mark

abbrev pub joined : (state word mark : ℕ) → Joined
joined state word mark = record { state = state; mark = word ⊚ mark }

abbrev pub joined_size : ℕ
joined_size = 3

unfoldable pub joined_words : Joined → List ℕ
joined_words x = x.state ∷ x.mark.word ∷ x.mark.mark ∷ []

unfoldable pub same_joined : Joined → Joined → Bool
same_joined x y =
    eqb x.state y.state && eqb x.mark.word y.mark.word && eqb x.mark.mark y.mark.mark

-- an arc into a joined state, with its model and its word
pub record Move : Type 0 where
  pub target : Joined
  pub model : ℕ
  pub label : ℕ

-- along an arc of the network, by a step
abbrev pub move_by : Arc → Step → Move
move_by a s = record { target = record { state = a.to; mark = s.next }; model = a.model; label = s.label }

-- "FINAL is entered only with 0, 2."
unfoldable pub may_enter : Joined → Bool
may_enter x = not (eqb x.state FINAL) || (eqb x.mark.word 0 && eqb x.mark.mark 2)

-- the moves along an arc, and from a joined state: "in the network's order, then by word, closing silence first"
unfoldable pub moves_along : (words : List (List ℕ)) → Mark → Arc → List Move
moves_along words p a = select (λ m. may_enter m.target) (map (move_by a) (steps words p a.phone))

module _ (arcs : List Arc) (words : List (List ℕ)) where
  unfoldable pub moves : Joined → List Move
  moves x = concat_map (moves_along words x.mark) (select (λ a. eqb a.from x.state) arcs)

  -- "State 0 is INITIAL with 0, 0; state 1 is FINAL with 0, 2; others are numbered by first reaching, oldest first."
  -- "Arcs stand by joined from state ascending, in number order with FINAL second"
  unfoldable pub joining : Machine Joined Move
  joining =
      record {
        same = same_joined;
        nothing = joined INITIAL 0 0;
        stored = λ m. m.target;
        tests = λ m. [];
        arc_into = λ from place m. arc from place m.model m.label;
        first = joined INITIAL 0 0 ∷ joined FINAL 0 2 ∷ [];
        start_events = [];
        turn_events = λ place x. map (enter place) (moves x);
      }

  -- "31 and 32 judge the capacity, 31 over all joined states, 0 and 1 included". There is a turn for each state that
  -- has room, so the turns always suffice.
  unfoldable pub join_in : Room → Outcome (Grown Joined)
  join_in room =
      judge 0 (Crowd unless leb 2 room.table ∷ [])
      (and_then (grow joining room room.table) (λ done. answered (grown_in done)))

-- ---- the entry

-- the lengths of the lent space for joined states and arcs, in words
pub record JoinSpace : Type 0 where
  pub states : ℕ
  pub arcs : ℕ

-- "(at most 65535)"
abbrev pub most_joined : ℕ
most_joined = 65535

unfoldable pub join_room : JoinSpace → Room
join_room space =
    record { table = min (space.states / joined_size) most_joined; arcs = min (space.arcs / arc_size) most_arcs }

-- The join of lent arcs and a lent table of so many words: 18, then 31 or 32 as construction meets them.
unfoldable pub join : Counts → (arcs : List ℕ) → (count : ℕ) → (table : List ℕ) → JoinSpace → Outcome (Grown Joined)
join counts arcs count table space =
    judge 0 (Foreign unless network_known counts arcs ∷ Foreign unless words_known count table ∷ [])
    (join_in (arcs_in counts.arcs arcs) (words_in count table) (join_room space))

-- what it leaves in the lent space
pub record JoinBuffers : Type 0 where
  pub states : List ℕ
  pub arcs : List ℕ

unfoldable pub join_left : JoinSpace → Outcome (Grown Joined) → JoinBuffers
join_left space (answered net) =
    record {
      states = padded space.states (concat_map joined_words net.table);
      arcs = padded space.arcs (concat_map arc_words net.arcs);
    }
join_left space (refused r) = record { states = cleared space.states; arcs = cleared space.arcs }
