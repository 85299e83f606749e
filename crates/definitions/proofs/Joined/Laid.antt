-- A join that is finished has laid the arcs of the moves from its joined states, and no others, between the places of
-- its table: its events are those of the moves from all its states (construction/Expanding.antt).
use Rattle.std.specs.Prelude.{◌≡◌, length, get_or}
use Rattle.std.proofs.Math.Path.{refl, ap}
use Rattle.std.proofs.Common.{sym, ◌∙◌, subst, inl, inr}
use Rattle.std.proofs.Math.Logic.{⊎_elim}
use mathlib.Core.List.{List, [], ◌∷◌, map}
use Prim.Native.Nat.{ℕ, zero, suc, ◌+◌, ◌<◌}
use native.Mathlib.Omega.{arith}
use Rattle.definitions.specs.Faults.{answered}
use Rattle.definitions.specs.Lists.{place_of, IsIn, Distinct}
use Rattle.definitions.specs.Arcs.{Arc, arc, INITIAL, FINAL}
use Rattle.definitions.specs.Growing.{Grown, Event, enter, Machine, Room, finished, begun, grow}
use Rattle.definitions.specs.Joining.{Joined, Move, same_joined, moves, joining}
use Rattle.definitions.proofs.Laws.Lists.Members.{in_left, in_right, of-append, of_map, in_map, in-concat_map}
use Rattle.definitions.proofs.Laws.Lists.Members.{in-at}
use Rattle.definitions.proofs.Laws.Lists.Places.{placed, place_at}
use Rattle.definitions.proofs.Construction.Performing.{Performed, entered_by, event_arc}
use Rattle.definitions.proofs.Construction.Expanding.{events_from, grown-finished}
use Rattle.definitions.proofs.Joined.States.{start, end, first-Distinct, joined-told}
use Rattle.definitions.proofs.Joined.Product.{arc_by, Laid}

-- the place of a joined state
abbrev pub place_in : Grown Joined → Joined → ℕ
place_in net x = place_of same_joined net.table x

module _ (arcs : List Arc) (words : List (List ℕ)) where
  abbrev machine : Machine Joined Move
  machine = joining arcs words

  -- ---- the events of the states in a part of the table

  -- an event enters a move from the state at its place
  of-events : (at : ℕ) (part : List Joined) (event : Event Move) → IsIn event (events_from machine at part)
      → (i : ℕ) × (i < length part)
      × ((v : Move) × IsIn v (moves arcs words (get_or part i start)) × (event ≡ enter (at + i) v))
  unfolding events_from joining
  of-events at [] event h = absurd h
  of-events at (x ∷ part) event h =
      ⊎_elim
      (λ i.
      let (v, j, e) = of_map (enter at) event (moves arcs words x) i in
      let here : at ≡ at + 0 = omega arith in
      (0, omega arith, (v, j, e ∙ ap (λ n. enter n v) here)))
      (λ i.
      let (n, l, (v, j, e)) = of-events (suc at) part event i in
      let there : suc at + n ≡ at + suc n = omega arith in
      (suc n, omega arith, (v, j, e ∙ ap (λ k. enter k v) there)))
      (of-append event (map (enter at) (moves arcs words x)) _ h)

  in-events : (at : ℕ) (part : List Joined) (i : ℕ) (v : Move) → i < length part
      → IsIn v (moves arcs words (get_or part i start)) → IsIn (enter (at + i) v) (events_from machine at part)
  unfolding events_from joining
  in-events at [] i v l h = absurd (omega arith)
  in-events at (x ∷ part) zero v l h =
      let here : at + 0 ≡ at = omega arith in
      let own = in_map (enter at) v (moves arcs words x) h in
      rw here (in_left (enter at v) (map (enter at) (moves arcs words x)) _ own)
  in-events at (x ∷ part) (suc i) v l h =
      let there : at + suc i ≡ suc at + i = omega arith in
      let later = in-events (suc at) part i v (omega arith) h in
      rw there (in_right (enter (suc at + i) v) (map (enter at) (moves arcs words x)) _ later)

  -- ---- a join that is finished

  module _ (room : Room) (limit turns : ℕ) (net : Grown Joined)
      (built : grow machine room limit ≡ answered (finished turns net)) where
    abbrev events : List (Event Move)
    events = events_from machine 0 net.table

    -- what was done: all these events, from the first two states on
    performed : Performed machine (begun machine) events net
    unfolding joining
    performed = grown-finished machine joined-told room limit turns net built

    once : Distinct net.table
    unfolding joining
    once = performed.once first-Distinct

    -- each state of the table stands at its place
    found : (x : Joined) → IsIn x net.table
        → (place_in net x < length net.table) × (get_or net.table (place_in net x) start ≡ x)
    found x h = placed same_joined joined-told start x net.table h

    -- the arc of an event that enters a move
    abbrev arc_from : Joined → Move → Arc
    arc_from x v = arc_by (place_in net) x v

    event-arc : (n : ℕ) (x : Joined) (v : Move) → n ≡ place_in net x
        → event_arc machine net.table (enter n v) ≡ arc_from x v
    unfolding event_arc joining
    event-arc n x v e = ap (λ p. arc p (place_in net v.target) v.model v.label) e

    event-in : (x : Joined) (v : Move) → IsIn x net.table → IsIn v (moves arcs words x)
        → IsIn (enter (0 + place_in net x) v) events
    event-in x v h j =
        let (l, e) = found x h in
        in-events 0 net.table (place_in net x) v l (subst (λ y. IsIn v (moves arcs words y)) (sym e) j)

    -- ---- the arcs

    sound : (a : Arc) → IsIn a net.arcs
        → (x : Joined) × IsIn x net.table × ((v : Move) × IsIn v (moves arcs words x) × (a ≡ arc_from x v))
    sound a h =
        let (event, i, e) = of_map (event_arc machine net.table) a events (subst (IsIn a) performed.added h) in
        let (n, l, (v, j, f)) = of-events 0 net.table event i in
        let x : Joined = get_or net.table n start in
        let here : 0 + n ≡ place_in net (get_or net.table n start) =
        omega (arith, place_at same_joined joined-told start net.table once n l) in (
          x,
          in-at net.table n start l,
          (v, j, e ∙ ap (event_arc machine net.table) f ∙ event-arc (0 + n) x v here),
        )

    complete : (x : Joined) (v : Move) → IsIn x net.table → IsIn v (moves arcs words x)
        → IsIn (arc_from x v) net.arcs
    complete x v h j =
        let event : Event Move = enter (0 + place_in net x) v in
        let there = in_map (event_arc machine net.table) event events (event-in x v h j) in
        subst (λ a. IsIn a net.arcs) (event-arc (0 + place_in net x) x v (omega arith))
        (subst (IsIn (event_arc machine net.table event)) (sym performed.added) there)

    closed : (x : Joined) (v : Move) → IsIn x net.table → IsIn v (moves arcs words x)
        → IsIn v.target net.table
    unfolding entered_by joining
    closed x v h j =
        let event : Event Move = enter (0 + place_in net x) v in
        performed.entered-in v.target
        (in-concat_map (entered_by machine) event v.target events (event-in x v h j) (inl refl))

    -- ---- the first two states, at their places

    starts : IsIn start net.table × (place_in net start ≡ INITIAL)
    unfolding joining place_of same_joined
    starts = rw performed.grown (inl refl, refl)

    ends : IsIn end net.table × (place_in net end ≡ FINAL)
    unfolding joining place_of same_joined
    ends = rw performed.grown (inr (inl refl), refl)

    pub laid : Laid arcs words net.table (place_in net) net.arcs
    laid = record {
      starts = starts;
      ends = ends;
      apart = λ x y h k e. sym (found x h).1 ∙ ap (λ i. get_or net.table i start) e ∙ (found y k).1;
      sound = sound;
      closed = closed;
      complete = complete;
    }
