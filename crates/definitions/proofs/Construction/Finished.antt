-- What the build of a network leaves: a table without repetition that has the start metastates and the
-- followers of all that are expanded, and the arcs, told by the places of that table. In a finished build all
-- are expanded. The idea: a build is told by the list of all its events (construction/Expanding.antt); here
-- they are read as what the rules say. Demand 3 is about what a finished build leaves.
use Rattle.std.specs.Prelude.{◌≡◌, length, take, drop, get_or}
use Rattle.std.proofs.Math.Path.{refl, ap₂}
use Rattle.std.proofs.Common.{sym, ap, ◌∙◌, subst, length-append, take-append-drop}
use mathlib.Core.List.{List, [], ◌∷◌, ◌++◌, map, append-nil, map-append, map-map, map-id}
use Prim.Native.Nat.{ℕ, suc, ◌+◌, ◌<◌}
use native.Mathlib.Omega.{arith}
use Rattle.std.proofs.Math.ListN.{get_or-append}
use Rattle.definitions.specs.Connecting.{arc_to, Rules, own_arcs, final_arcs, start_events, turn_events, Network}
use Rattle.definitions.specs.Connecting.{Built, no_metastate, connecting, connect}
use Rattle.definitions.specs.Lists.{concat_map, IsIn, Distinct, place_of}
use Rattle.definitions.specs.Faults.{answered}
use Rattle.definitions.specs.Arcs.{Arc, INITIAL, first_state, last_state}
use Rattle.definitions.specs.Metastates.{Metastate, same_metastate}
use Rattle.definitions.specs.Growing.{plain, enter, Room, finished, grown_in}
use Rattle.definitions.proofs.Laws.Lists.Lists.{concat_map-append}
use Rattle.definitions.proofs.Laws.Lists.Members.{in_left, in_right, in_map, of_map, in-concat_map}
use Rattle.definitions.proofs.Laws.Networks.Metastates.{metastates-told}
use Rattle.definitions.proofs.Laws.Lists.Places.{place_at}
use Rattle.definitions.proofs.Construction.Performing.{entered_by, entered_in, event_arc}
use Rattle.definitions.proofs.Construction.Turning.{entered-enter, entered-plain, passed_on}
use Rattle.definitions.proofs.Construction.Expanding.{events_from, Expanded, grown-expanded, grown-finished}

module _ (rules : Rules) where
  -- the arcs of one metastate of a table
  unfoldable pub turn_arcs : (table : List Metastate) → Metastate → List Arc
  turn_arcs table q =
      own_arcs (first_state rules.states (place_of same_metastate table q)) (drop 1 (rules.models q))
      ++ final_arcs rules (place_of same_metastate table q) q
      ++ map (arc_to rules table (last_state rules.states (place_of same_metastate table q))) (rules.followers q)

  -- a network whose table begins with these, the expanded ones
  pub record Expansion (done : List Metastate) (net : Network) : Type 0 where
    pub once : Distinct net.table
    pub listed : (x : Metastate) → IsIn x done → IsIn x net.table
    pub places : (i : ℕ) → i < length done
        → place_of same_metastate net.table (get_or done i no_metastate) ≡ i
    pub starts_in : (x : Metastate) → IsIn x rules.starts → IsIn (rules.kept x) net.table
    pub followers_in : (x y : Metastate) → IsIn x done → IsIn y (rules.followers x)
        → IsIn (rules.kept y) net.table
    pub arcs : net.arcs
        ≡ map (arc_to rules net.table INITIAL) rules.starts ++ concat_map (turn_arcs net.table) done

  -- all of the table are expanded
  abbrev pub Finished : Network → Type 0
  Finished net = Expansion net.table net

  -- ---- what the events enter

  abbrev stored : List Metastate → List Metastate
  stored xs = map rules.kept xs

  starts-entered : entered_in (connecting rules) (start_events rules) ≡ stored rules.starts
  unfolding start_events
  starts-entered = entered-enter (connecting rules) INITIAL rules.starts

  turn-entered : (place : ℕ) (q : Metastate)
      → entered_in (connecting rules) (turn_events rules place q) ≡ stored (rules.followers q)
  unfolding turn_events
  turn-entered place q =
      let own : List Arc = own_arcs (first_state rules.states place) (drop 1 (rules.models q)) in
      let final : List Arc = final_arcs rules place q in
      let arcs = concat_map-append (entered_by (connecting rules)) (map plain own) (map plain final) in
      concat_map-append (entered_by (connecting rules)) (map plain own ++ map plain final) _
      ∙ ap₂ ◌++◌
      (arcs ∙ ap₂ ◌++◌ (entered-plain (connecting rules) own) (entered-plain (connecting rules) final))
      (entered-enter (connecting rules) (last_state rules.states place) (rules.followers q))

  entered_from : (at : ℕ) (table : List Metastate)
      → entered_in (connecting rules) (events_from (connecting rules) at table)
      ≡ concat_map (λ q. stored (rules.followers q)) table
  unfolding events_from concat_map
  entered_from at [] = refl
  entered_from at (q ∷ table) =
      concat_map-append (entered_by (connecting rules)) (turn_events rules at q) _
      ∙ ap₂ ◌++◌ (turn-entered at q) (entered_from (suc at) table)

  entered_all : (table : List Metastate)
      → entered_in (connecting rules) (start_events rules ++ events_from (connecting rules) 0 table)
      ≡ stored rules.starts ++ concat_map (λ q. stored (rules.followers q)) table
  entered_all table =
      concat_map-append (entered_by (connecting rules)) (start_events rules) _
      ∙ ap₂ ◌++◌ starts-entered (entered_from 0 table)

  -- what holds of the start metastates and is passed on to followers holds of the whole table
  pub table-holds : (P : Metastate → Type 0) (room : Room) (limit : ℕ) (built : Built)
      → ((x : Metastate) → IsIn x rules.starts → P (rules.kept x))
      → ((x y : Metastate) → P x → IsIn y (rules.followers x) → P (rules.kept y))
      → connect rules room limit ≡ answered built → (x : Metastate) → IsIn x (grown_in built).table → P x
  table-holds P room limit built first pass =
      passed_on (connecting rules) metastates-told P room limit built (λ x h. absurd h)
      (λ y h.
      let (x, i, e) = of_map rules.kept y rules.starts (subst (IsIn y) starts-entered h) in
      subst P (sym e) (first x i))
      (λ place x y p h.
      let (z, i, e) = of_map rules.kept y (rules.followers x) (subst (IsIn y) (turn-entered place x) h) in
      subst P (sym e) (pass x z p i))

  -- ---- the arcs that the events add

  module _ (table : List Metastate) where
    abbrev added_by : List Arc → List Arc
    added_by arcs = map (event_arc (connecting rules) table) (map plain arcs)

    plain-arcs : (arcs : List Arc) → added_by arcs ≡ arcs
    unfolding event_arc
    plain-arcs arcs = map-map (event_arc (connecting rules) table) plain arcs ∙ map-id arcs

    pub enter-arcs : (from : ℕ) (xs : List Metastate)
        → map (event_arc (connecting rules) table) (map (enter from) xs) ≡ map (arc_to rules table from) xs
    unfolding event_arc
    enter-arcs from xs = map-map (event_arc (connecting rules) table) (enter from) xs

    turn-arcs : (q : Metastate)
        → map (event_arc (connecting rules) table) (turn_events rules (place_of same_metastate table q) q)
        ≡ turn_arcs table q
    unfolding turn_events turn_arcs
    turn-arcs q =
        let at = event_arc (connecting rules) table in
        let place : ℕ = place_of same_metastate table q in
        let own : List Arc = own_arcs (first_state rules.states place) (drop 1 (rules.models q)) in
        let final : List Arc = final_arcs rules place q in
        let arcs = map-append at (map plain own) (map plain final) in
        map-append at (map plain own ++ map plain final) _
        ∙ ap₂ ◌++◌ (arcs ∙ ap₂ ◌++◌ (plain-arcs own) (plain-arcs final))
        (enter-arcs (last_state rules.states place) (rules.followers q))

    -- where each metastate stands at its place in the table
    arcs-from : (at : ℕ) (part : List Metastate)
        → ((i : ℕ) → i < length part → place_of same_metastate table (get_or part i no_metastate) ≡ at + i)
        → map (event_arc (connecting rules) table) (events_from (connecting rules) at part)
        ≡ concat_map (turn_arcs table) part
    unfolding events_from concat_map
    arcs-from at [] h = refl
    arcs-from at (q ∷ part) h =
        let add = event_arc (connecting rules) table in
        let head : place_of same_metastate table q ≡ at + 0 = h 0 (omega arith) in
        let here : at ≡ place_of same_metastate table q = omega arith in
        map-append add (turn_events rules at q) (events_from (connecting rules) (suc at) part)
        ∙ ap₂ ◌++◌ (ap (λ p. map add (turn_events rules p q)) here ∙ turn-arcs q)
        (arcs-from (suc at) part (λ i k. let e = h (suc i) (omega arith) in omega arith))

    all-arcs : (done : List Metastate)
        → ((i : ℕ) → i < length done → place_of same_metastate table (get_or done i no_metastate) ≡ i)
        → map (event_arc (connecting rules) table)
        (start_events rules ++ events_from (connecting rules) 0 done)
        ≡ map (arc_to rules table INITIAL) rules.starts ++ concat_map (turn_arcs table) done
    unfolding start_events
    all-arcs done at =
        map-append (event_arc (connecting rules) table) (start_events rules) _
        ∙ ap₂ ◌++◌ (enter-arcs INITIAL rules.starts)
        (arcs-from 0 done (λ i h. let e = at i h in omega arith))

  -- ---- what is left when some are expanded, and others not yet

  module _ (done others : List Metastate) (net : Network) (whole : net.table ≡ done ++ others)
      (performed : Expanded (connecting rules) done net) where
    abbrev table : List Metastate
    table = net.table

    -- each of them stands in the table at its own place
    own-places : (i : ℕ) → i < length done → place_of same_metastate table (get_or done i no_metastate) ≡ i
    own-places i h =
        let there : get_or table i no_metastate ≡ get_or done i no_metastate =
        ap (λ l. get_or l i no_metastate) whole ∙ get_or-append done others no_metastate i h in
        let inside : i < length table = omega (arith, ap length whole, length-append done others) in
        rw (sym there)
        (place_at same_metastate metastates-told no_metastate table (performed.once tt) i inside)

    -- all that starts or follows is in the table
    reached-in : (x : Metastate)
        → IsIn x (stored rules.starts ++ concat_map (λ q. stored (rules.followers q)) done)
        → IsIn x table
    reached-in x h = performed.entered-in x (subst (IsIn x) (sym (entered_all done)) h)

    expansion : Expansion done net
    expansion = record {
      once = performed.once tt;
      listed = λ x h. subst (IsIn x) (sym whole) (in_left x done others h);
      places = own-places;
      starts_in = λ x h.
          reached-in (rules.kept x)
          (in_left (rules.kept x) (stored rules.starts) _ (in_map rules.kept x rules.starts h));
      followers_in = λ x y h i.
          reached-in (rules.kept y)
          (in_right (rules.kept y) (stored rules.starts) _
          (in-concat_map (λ q. stored (rules.followers q)) x (rules.kept y) done h
          (in_map rules.kept y (rules.followers x) i)));
      arcs = performed.added ∙ all-arcs table done own-places;
    }

  module _ (room : Room) (limit : ℕ) where
    -- every build that answers has expanded the first metastates of its table
    pub build-expanded : (built : Built) → connect rules room limit ≡ answered built
        → (turns : ℕ) × Expansion (take turns (grown_in built).table) (grown_in built)
    build-expanded built e =
        let (turns, performed) = grown-expanded (connecting rules) metastates-told room limit built e in
        let table : List Metastate = (grown_in built).table in
        let parts = sym (take-append-drop turns table) in
        (turns, expansion (take turns table) (drop turns table) (grown_in built) parts performed)

    -- a finished build has expanded all, each in one turn
    pub build-finished : (turns : ℕ) (net : Network)
        → connect rules room limit ≡ answered (finished turns net) → Finished net
    build-finished turns net e =
        expansion net.table [] net (sym (append-nil net.table))
        (grown-finished (connecting rules) metastates-told room limit turns net e)
