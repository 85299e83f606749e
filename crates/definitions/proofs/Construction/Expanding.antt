-- A build is told by the list of all its events: the start events, and the turn events of the expanded elements
-- of the table in order. In a finished build all are expanded. What a network's events enter and which arcs
-- they add is left to construction/Finished.antt.
use Rattle.std.specs.Prelude.{◌≡◌, length, take, get_or}
use Rattle.std.proofs.Math.Path.{sym, ap, subst}
use Rattle.std.proofs.Common.{◌∙◌, take_all}
use mathlib.Core.List.{List, [], ◌∷◌, ◌++◌, append_assoc, append-nil}
use Prim.Native.Nat.{ℕ, zero, suc, ◌+◌, ◌<◌}
use native.Mathlib.Omega.{arith}
use Rattle.std.proofs.lemmas.List.{take-append-le}
use Rattle.definitions.specs.Faults.{answered}
use Rattle.definitions.specs.Growing.{Grown, Event, Machine, Room, Done, finished, grown_in, begun, grow}
use Rattle.definitions.proofs.Laws.Lists.Tests.{Tells}
use Rattle.definitions.proofs.Construction.Performing.{Performed, performed-append, all-performed}
use Rattle.definitions.proofs.Construction.Turning.{Turn, KeptByTurns, AtEnd, claim-at-end, one-turn}
use Rattle.definitions.proofs.Construction.Turning.{grow-keeps}

module _ {X E : Type 0} (m : Machine X E) where
  -- the turn events of these elements, the first of which has place `at`
  unfoldable pub events_from : (at : ℕ) → List X → List (Event E)
  events_from at [] = []
  events_from at (q ∷ table) = m.turn_events at q ++ events_from (suc at) table

  -- these elements are expanded, those with which the table begins
  abbrev pub Expanded : (done : List X) → Grown X → Type 0
  Expanded done net = Performed m (begun m) (m.start_events ++ events_from 0 done) net

  -- as many as `turns`
  abbrev AfterTurns : ℕ → Grown X → Type 0
  AfterTurns turns net = Expanded (take turns net.table) net

  -- one element more
  events-next : (at n place : ℕ) (table : List X) → at + n ≡ place → n < length table
      → events_from at (take (suc n) table)
      ≡ events_from at (take n table) ++ m.turn_events place (get_or table n m.nothing)
  unfolding events_from
  events-next at n place [] e h = absurd (omega arith)
  events-next at zero place (q ∷ table) e h =
      let here : at ≡ place = omega arith in
      append-nil (m.turn_events at q) ∙ ap (λ p. m.turn_events p q) here
  events-next at (suc n) place (q ∷ table) e h =
      let here = m.turn_events at q in
      ap (λ l. here ++ l) (events-next (suc at) n place table (omega arith) (omega arith))
      ∙ sym (append_assoc here (events_from (suc at) (take n table)) _)

  -- the events of one turn more
  turn-events : (turns : ℕ) (net next : Grown X) → turns < length net.table → Turn m turns net next
      → events_from 0 (take (suc turns) next.table)
      ≡ events_from 0 (take turns net.table) ++ m.turn_events turns (get_or net.table turns m.nothing)
  turn-events turns net next fewer turn =
      ap (λ table. events_from 0 (take (suc turns) table)) turn.grown
      ∙ ap (events_from 0) (take-append-le (suc turns) net.table turn.more fewer)
      ∙ events-next 0 turns turns net.table (omega arith) fewer

  start-expanded : (net : Grown X) → Performed m (begun m) m.start_events net → AfterTurns 0 net
  unfolding events_from
  start-expanded net p = subst (λ l. Performed m (begun m) l net) (sym (append-nil m.start_events)) p

module _ {X E : Type 0} (m : Machine X E) (tells : Tells m.same) (room : Room) where
  turn-expanded : KeptByTurns m tells room (AfterTurns m)
  turn-expanded turns net next fewer p e =
      let turn = one-turn m tells room turns net next e in
      let before = events_from m 0 (take turns net.table) in
      let now = m.turn_events turns (get_or net.table turns m.nothing) in
      let events = ap (λ l. m.start_events ++ l) (turn-events m turns net next fewer turn) in
      subst (λ l. Performed m (begun m) l next) (append_assoc m.start_events before now ∙ sym events)
      (performed-append m tells (begun m) net next (m.start_events ++ before) now p turn)

  module _ (limit : ℕ) where
    at-end : (built : Done X) → grow m room limit ≡ answered built → AtEnd (AfterTurns m) (0 + limit) built
    at-end built e =
        grow-keeps m tells room (AfterTurns m) built turn-expanded
        (λ net now. start-expanded m net (all-performed m tells room (begun m) _ net now)) limit e

    -- every build that answers has expanded the first elements of its table
    pub grown-expanded : (built : Done X) → grow m room limit ≡ answered built
        → (turns : ℕ) × Expanded m (take turns (grown_in built).table) (grown_in built)
    grown-expanded built e = claim-at-end (AfterTurns m) (0 + limit) built (at-end built e)

    -- a finished build has expanded all, each in one turn
    pub grown-finished : (turns : ℕ) (net : Grown X) → grow m room limit ≡ answered (finished turns net)
        → Expanded m net.table net
    grown-finished turns net e =
        let (performed, all) = at-end (finished turns net) e in
        subst (λ done. Expanded m done net) (take_all turns net.table (omega arith)) performed
