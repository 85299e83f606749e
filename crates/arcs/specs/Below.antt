-- How many arcs have a source below a state: so many stand before its own.
use Rattle.std.specs.Prelude.{◌≡◌, List, Bool, ℕ, ◌<◌, ltb, length}
use Rattle.definitions.specs.Lists.{◌!◌, select}
use Rattle.definitions.specs.Arcs.{Arc}
use Rattle.arcs.specs.Whole.{all_arcs}

abbrev pub IsBelow : (state : ℕ) → Arc → Bool
IsBelow state a = ltb a.from state

abbrev pub below : (state : ℕ) → List Arc → ℕ
below state arcs = length (select (IsBelow state) arcs)

-- a table of where the arcs of the first states begin
pub record Started (words starts : List ℕ) : Type 0 where
  pub begins : (state : ℕ) → state < length starts → starts ! state ≡ below state (all_arcs words)
