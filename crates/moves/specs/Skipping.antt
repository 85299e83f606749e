-- The arcs of a state, and those of them along which nothing leads on.
use Rattle.std.specs.Option.{unwrap_or}
use Rattle.std.specs.Prelude.{Option, IfSome, ◌≡◌, List, Bool, true, ◌||◌, ℕ, ◌*◌, ◌/◌, ◌≤◌, ◌<◌, T, eqb, length, drop}
use Rattle.definitions.specs.Lists.{◌!◌, select, concat_map}
use Rattle.definitions.specs.Arcs.{arc_size}
use Rattle.arcs.specs.Below.{below}
use Rattle.arcs.specs.Whole.{all_arcs}
use Rattle.definitions.specs.NetworkText.{never_descending}
use Rattle.definitions.specs.Joining.{◌⊚◌, Mark, Move, moves_along}
use Rattle.marks.specs.Wanting.{Leads}
use Rattle.marks.specs.declared.Wanted.{Wanted}
use Rattle.marks.specs.declared.Wanted.TheVariants.{Words, Phone, Nothing}

-- whether something leads on along an arc with a phone
unfoldable pub leads_along : Wanted → (phone : ℕ) → Bool
leads_along Words phone = true
leads_along (Phone own next) phone = eqb phone 0 || eqb phone own
leads_along Nothing phone = eqb phone 0

-- the moves along the arcs of a state, from an arc on
abbrev pub moves_from : (words : List (List ℕ)) → Mark → (arcs : List ℕ) → (state at : ℕ) → List Move
moves_from words p arcs state at =
    concat_map (moves_along words p) (select (λ a. eqb a.from state) (drop at (all_arcs arcs)))

-- a place among arcs in order, after all arcs of smaller sources
pub record AfterSources (arcs : List ℕ) (state at : ℕ) : Type 0 where
  pub ordered : T (never_descending (all_arcs arcs))
  pub after : below state (all_arcs arcs) ≤ at
  pub within : at ≤ length arcs / arc_size

-- from a place to another all arcs of the state were passed over, and nothing leads along them
pub record Skipped (arcs : List ℕ) (state : ℕ) (wanted : Wanted) (at next : ℕ) : Type 0 where
  pub up : at ≤ next
  pub within : next ≤ length arcs / arc_size
  pub own : next < length arcs / arc_size → arcs ! (arc_size * next) ≡ state
  pub same : (words : List (List ℕ)) (word mark : ℕ) → Leads words word mark wanted
      → moves_from words (word ⊚ mark) arcs state at ≡ moves_from words (word ⊚ mark) arcs state next

-- the arc of the state up to which all were passed over, or none where nothing more leads on
pub record NextFound (arcs : List ℕ) (state : ℕ) (wanted : Wanted) (at : ℕ) (next : Option ℕ) : Type 0 where
  pub skipped : Skipped arcs state wanted at (unwrap_or next (length arcs / arc_size))
  pub inside : IfSome next (λ n. n < length arcs / arc_size)
