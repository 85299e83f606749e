-- Copying the arcs of a span, with another source: what the steps of it ask, and what they leave and answer.
use Rattle.definitions.specs.declared.Fault.{Fault}
use Rattle.std.specs.Prelude.{if◌then◌else◌, ◌≡◌, List, ◌++◌, Bool, true, ℕ, ◌+◌, ◌-◌, ◌*◌, ◌≤◌, ◌<◌, min, leb, length, drop, Result, Ok, Err}
use Rattle.definitions.specs.Building.{most_metastates, most_arcs}
use Rattle.definitions.specs.declared.Fault.TheVariants.{Tangle}
use Rattle.definitions.specs.declared.Header.{Header}
use Rattle.definitions.specs.Lists.{concat_map, padded}
use Rattle.definitions.specs.PhoneSets.{all_phones}
use Rattle.definitions.specs.Arcs.{arc_size, arcs_in, arc_words}
use Rattle.definitions.specs.Metastates.{metastate_size}
use Rattle.matrix.specs.Shapes.{shifted_words}
use Rattle.matrix.specs.Words.{first_seven}
use Rattle.index.specs.RecordWords.{record_of}
use Rattle.growing.specs.declared.Sizes.{Sizes}
use Rattle.growing.specs.Steps.{arc_room}
use Rattle.followers.specs.Spans.{copies_of, SlotWithin}

-- words that hold so many arcs, and nothing else
abbrev pub HoldArcs : (count : ℕ) → (arcs : List ℕ) → Type 0
HoldArcs count arcs = arcs ≡ padded (length arcs) (concat_map arc_words (arcs_in count arcs))

-- the same words with copies of `many` arcs more
abbrev pub with_copies : (arcs : List ℕ) → (count first many from : ℕ) → List ℕ
with_copies arcs count first many from =
    padded (length arcs)
    (concat_map arc_words (arcs_in count arcs ++ copies_of from first many (arcs_in count arcs)))

-- `many` arcs from the first on that can be copied
pub record Copyable (arcs : List ℕ) (count first many : ℕ) : Type 0 where
  pub held : HoldArcs count arcs
  pub within : first + many ≤ count
  pub room : arc_size * (count + many) ≤ length arcs

-- arcs that can be copied if there is room
pub record Repeatable (sizes : Sizes) (first end : ℕ) (arcs : List ℕ) : Type 0 where
  pub held : HoldArcs sizes.arcs arcs
  pub order : first ≤ end
  pub within : end ≤ sizes.arcs
  pub fit : sizes.arcs ≤ arc_room arcs

-- numbers that are words of a span, and a slot for it
pub record Notable (spans : List ℕ) (slot place first end : ℕ) : Type 0 where
  pub within : SlotWithin spans slot
  pub place_few : place < most_metastates
  pub first_few : first ≤ most_arcs
  pub end_few : end ≤ most_arcs

-- whether they have room, the answer, and the words after
pub record Repeated (sizes : Sizes) (first end from : ℕ) (arcs : List ℕ) (answer : Result Sizes Fault) (arcs' : List ℕ)
    : Type 0 where
  pub answers : answer
      ≡ (if leb (sizes.arcs + (end - first)) (arc_room arcs)
      then Ok (record { table = sizes.table; arcs = sizes.arcs + (end - first) })
      else Err Tangle)
  pub words : arcs'
      ≡ (if leb (sizes.arcs + (end - first)) (arc_room arcs)
      then with_copies arcs sizes.arcs first (end - first) from
      else arcs)

-- where the answer is yes, the record at a place, shifted, has these columns
abbrev pub Repeats : Header → (metastates : List ℕ) → (place : ℕ) → (columns : List ℕ) → (answer : Bool) → Type 0
Repeats header metastates place columns answer =
    answer ≡ true
    → shifted_words (2 * header.half) (all_phones (min header.phones 64))
    (first_seven (drop 1 (record_of (metastate_size header.half) metastates place))) ≡ columns
