-- Arcs that fill words.
use Rattle.std.specs.Prelude.{List, ℕ, ◌*◌, ◌/◌, length, take, drop}
use Rattle.definitions.specs.Arcs.{Arc, arc_size, arc_of, arcs_in}

-- all of them, and the one at a place
abbrev pub all_arcs : (words : List ℕ) → List Arc
all_arcs words = arcs_in (length words / arc_size) words

abbrev pub arc_at : (words : List ℕ) → (i : ℕ) → Arc
arc_at words i = arc_of (take arc_size (drop (arc_size * i) words))
