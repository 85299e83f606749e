-- A network as a graph of elements that have their own states: which elements may start, follow and end, and
-- the arcs laid out from a table of them. Nothing here knows of books or matrices; the network of a book is
-- such a graph, with metastates as its elements.
use Rattle.std.specs.Prelude.{◌≡◌, List, [], ◌∷◌, ◌++◌, map, Bool, not, ℕ, ◌≤◌, T, eqb, length, drop}
use Rattle.definitions.specs.Lists.{if◌then◌else◌, ◌!◌, every, concat_map, IsIn, Distinct}
use Rattle.definitions.specs.Arcs.{Arc, arc, INITIAL, FINAL, first_state, last_state}
use Rattle.definitions.specs.Connecting.{own_arcs}

pub record Graph (X : Type 0) : Type 0 where
  -- how many states each element has
  pub states : ℕ
  pub table : List X
  -- an element's place in the table
  pub place : X → ℕ
  pub starts : List X
  pub followers : X → List X
  pub ends : X → Bool
  pub models : X → List ℕ
  pub phone : X → ℕ

module _ {X : Type 0} (g : Graph X) where
  abbrev pub entry_of : X → ℕ
  entry_of x = first_state g.states (g.place x)

  abbrev pub exit_of : X → ℕ
  exit_of x = last_state g.states (g.place x)

  -- ---- arcs: into an element, between its own states, to FINAL, to its followers

  abbrev pub arc_to : (from : ℕ) → X → Arc
  arc_to from x = arc from (entry_of x) (g.models x ! 0) (g.phone x)

  abbrev pub inner_arcs : X → List Arc
  inner_arcs x = own_arcs (entry_of x) (drop 1 (g.models x))

  abbrev pub end_arcs : X → List Arc
  end_arcs x = if g.ends x then arc (exit_of x) FINAL 0 0 ∷ [] else []

  abbrev pub follow_arcs : X → List Arc
  follow_arcs x = map (arc_to (exit_of x)) (g.followers x)

  -- the arcs that leave an element's states
  abbrev pub block : X → List Arc
  block x = inner_arcs x ++ end_arcs x ++ follow_arcs x

  unfoldable pub arcs_of : List Arc
  arcs_of = map (arc_to INITIAL) g.starts ++ concat_map block g.table

  -- ---- ways: an element where a sentence may start, then followers, the last of which may end

  abbrev pub Onward : X → List X → Type 0
  Onward x [] = T (g.ends x)
  Onward x (y ∷ ws) = IsIn y (g.followers x) × Onward y ws

  abbrev pub Way : List X → Type 0
  Way [] = ⊥
  Way (x ∷ ws) = IsIn x g.starts × Onward x ws

  -- some way leads to the element, and some on from it
  abbrev pub Reachable : X → Type 0
  Reachable x = (ws : List X) × ((us : List X) → Onward x us → Way (ws ++ (x ∷ us)))

  abbrev pub Alive : X → Type 0
  Alive x = (us : List X) × Onward x us

-- a graph whose table holds its starts and all followers, none twice, and whose elements differ in place and
-- have a phone and a model for each state
pub record Proper {X : Type 0} (g : Graph X) : Type 0 where
  pub some_state : 1 ≤ g.states
  pub table_once : Distinct g.table
  pub starts_once : Distinct g.starts
  pub followers_once : (x : X) → IsIn x g.table → Distinct (g.followers x)
  pub place_injective : (x y : X) → IsIn x g.table → IsIn y g.table → g.place x ≡ g.place y → x ≡ y
  pub starts_in : (x : X) → IsIn x g.starts → IsIn x g.table
  pub followers_in : (x y : X) → IsIn x g.table → IsIn y (g.followers x) → IsIn y g.table
  pub models_length : (x : X) → IsIn x g.table → length (g.models x) ≡ g.states
  pub models_positive : (x : X) → IsIn x g.table → T (every (λ m. not (eqb m 0)) (g.models x))
  pub phone_positive : (x : X) → IsIn x g.table → T (not (eqb (g.phone x) 0))
