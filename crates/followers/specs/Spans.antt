-- Spans: where the arcs to a metastate's followers stand. Metastates with the same shifted matrix have the
-- same followers, so the arcs to them are copied, with another source.
use Rattle.std.specs.Prelude.{◌≡◌, List, map, Option, None, Some, ℕ, zero, suc, ◌+◌, ◌*◌, ◌≤◌, ◌<◌, length, take, drop, get_or, set}
use Rattle.definitions.specs.Lists.{◌!◌, IsIn}
use Rattle.definitions.specs.Tables.{Book}
use Rattle.definitions.specs.Combinations.{Combination}
use Rattle.definitions.specs.Arcs.{Arc, arc, last_state}
use Rattle.definitions.specs.Metastates.{Metastate, followers}
use Rattle.definitions.specs.Connecting.{rules_of, Network, no_metastate, arc_to}
use Rattle.followers.specs.declared.Span.{Span}

-- an arc with another source, and copies of `many` arcs from the first on
unfoldable pub leaving_from : (from : ℕ) → Arc → Arc
leaving_from from a = arc from a.to a.model a.phone

abbrev pub copies_of : (from first many : ℕ) → List Arc → List Arc
copies_of from first many arcs = map (leaving_from from) (take many (drop first arcs))

-- ---- the words of a span

-- how many it takes: a metastate, its place counted from 1, and where the arcs to its followers begin and end
abbrev pub span_size : ℕ
span_size = 3

-- words have a slot
abbrev pub SlotWithin : (spans : List ℕ) → (slot : ℕ) → Type 0
SlotWithin spans slot = span_size * slot + span_size ≤ length spans

-- what a slot has
abbrev pub place_in : (spans : List ℕ) → (slot : ℕ) → ℕ
place_in spans slot = spans ! (span_size * slot)

abbrev pub first_in : (spans : List ℕ) → (slot : ℕ) → ℕ
first_in spans slot = spans ! (span_size * slot + 1)

abbrev pub end_in : (spans : List ℕ) → (slot : ℕ) → ℕ
end_in spans slot = spans ! (span_size * slot + 2)

-- the span in it, if one is noted there
abbrev pub span_of : (word first end : ℕ) → Option Span
span_of zero first end = None
span_of (suc place) first end = Some (record { place = place; first = first; end = end })

abbrev pub span_in : (spans : List ℕ) → (slot : ℕ) → Option Span
span_in spans slot = span_of (place_in spans slot) (first_in spans slot) (end_in spans slot)

-- words with a span in a slot
abbrev pub noted_in : (spans : List ℕ) → (slot place first end : ℕ) → List ℕ
noted_in spans slot place first end =
    set (set (set spans (span_size * slot) (place + 1)) (span_size * slot + 1) first) (span_size * slot + 2) end

-- ---- what is spanned

module _ (book : Book) (combinations : List Combination) where
  -- the followers of the metastate at a place
  abbrev pub followers_at : Network → (place : ℕ) → List Metastate
  followers_at net place = followers book combinations (get_or net.table place no_metastate)

  -- the arcs from a state into metastates of a table
  abbrev pub arcs_to : (table : List Metastate) → (from : ℕ) → List Metastate → List Arc
  arcs_to table from xs = map (arc_to (rules_of book combinations) table from) xs

  -- from `first` up to `end` stand the arcs to the followers of the metastate at a place
  pub record IsSpan (net : Network) (place first end : ℕ) : Type 0 where
    pub listed : place < length net.table
    pub known : (x : Metastate) → IsIn x (followers_at net place) → IsIn x net.table
    pub within : end ≤ length net.arcs
    pub counted : end ≡ first + length (followers_at net place)
    pub arcs : take (length (followers_at net place)) (drop first net.arcs)
        ≡ arcs_to net.table (last_state book.states place) (followers_at net place)

  -- the spans in words; a slot that has none yet has 0
  pub record Spanned (net : Network) (spans : List ℕ) : Type 0 where
    pub each : (slot place : ℕ) → SlotWithin spans slot → place_in spans slot ≡ suc place
        → IsSpan net place (first_in spans slot) (end_in spans slot)
