-- What one more line leaves in the lent arcs.
use Rattle.std.specs.Prelude.{List, ℕ, ◌+◌, ◌*◌, ◌≤◌}
use Rattle.definitions.specs.Arcs.{arc_size, arc_words}
use Rattle.definitions.specs.Lists.{concat_map, padded}
use Rattle.definitions.specs.NetworkText.{NetworkLine, W, A, arcs_of}
use Rattle.lines.specs.Putting.{put_at}

-- the arcs after a line, when so many were there
abbrev pub arcs_after : (arcs : ℕ) → NetworkLine → List ℕ → List ℕ
arcs_after arcs (W _ _ _) table = table
arcs_after arcs (A a) table = put_at (arc_size * arcs) (arc_words a) table

-- a line whose arc lies within so many words
abbrev pub HasRoom : (arcs : ℕ) → (words : ℕ) → NetworkLine → Type 0
HasRoom arcs words (W _ _ _) = Unit {0}
HasRoom arcs words (A a) = arc_size * arcs + arc_size ≤ words

-- what the lines taken so far leave in the lent arcs
unfoldable pub arcs_stored : (lent : ℕ) → (before : List NetworkLine) → List ℕ
arcs_stored lent before = padded lent (concat_map arc_words (arcs_of before))
