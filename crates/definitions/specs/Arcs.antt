-- Document 01, "Connecting": the states and the arcs of a network, and an arc's words.
use Rattle.std.specs.Prelude.{List, [], ◌∷◌, map, ℕ, ◌+◌, ◌-◌, ◌*◌}
use Rattle.definitions.specs.Lists.{◌!◌, records}

-- "Network state 0 is INITIAL, 1 is FINAL; metastate j, from 0, has states 2+j×k onward, k of them."
abbrev pub INITIAL : ℕ
INITIAL = 0

abbrev pub FINAL : ℕ
FINAL = 1

unfoldable pub first_state : (states place : ℕ) → ℕ
first_state states place = 2 + place * states

unfoldable pub last_state : (states place : ℕ) → ℕ
last_state states place = first_state states place + (states - 1)

-- "An arc is (from, to, model, phone) ..; 0 as model or phone means none."
pub record Arc : Type 0 where
  pub from : ℕ
  pub to : ℕ
  pub model : ℕ
  pub phone : ℕ

abbrev pub arc : (from to model phone : ℕ) → Arc
arc from to model phone = record { from = from; to = to; model = model; phone = phone }

-- "An arc is (from, to, model, phone), four 32-bit words"
abbrev pub arc_size : ℕ
arc_size = 4

unfoldable pub arc_words : Arc → List ℕ
arc_words a = a.from ∷ a.to ∷ a.model ∷ a.phone ∷ []

unfoldable pub arc_of : List ℕ → Arc
arc_of words = arc (words ! 0) (words ! 1) (words ! 2) (words ! 3)

-- the arcs in the first `count` records of arc space
unfoldable pub arcs_in : (count : ℕ) → (words : List ℕ) → List Arc
arcs_in count words = map arc_of (records arc_size count words)
