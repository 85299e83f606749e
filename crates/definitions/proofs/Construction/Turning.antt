-- A claim that the start events bring about and every turn keeps holds of every build that answers; a finished
-- one has expanded its whole table. So what holds of the elements that the build starts with, and is passed on
-- by turns, holds of the whole table. Which events a build has performed is such a claim
-- (construction/Expanding.antt).
use Rattle.std.specs.Prelude.{◌≡◌, true, false, ltb, get_or}
use Rattle.std.proofs.Math.Path.{refl, ap, subst}
use Rattle.std.proofs.Common.{⊎_elim, length-append}
use mathlib.Core.List.{List, [], ◌∷◌, map}
use Prim.Native.Nat.{ℕ, zero, suc, ◌+◌, ◌≤◌, ◌<◌}
use native.Mathlib.Omega.{arith}
use Rattle.std.proofs.Math.ListN.{length}
use borrow.Author.Tests.{ltb-true, ltb-false}
use Rattle.definitions.specs.Lists.{concat_map, IsIn}
use Rattle.definitions.specs.Faults.{Outcome, answered}
use Rattle.definitions.specs.Arcs.{Arc}
use Rattle.definitions.specs.Growing.{Grown, Event, plain, enter, Machine, Room, Done, finished, stopped}
use Rattle.definitions.specs.Growing.{grown_in, begun, perform_all, expand, turns_from, grow}
use Rattle.definitions.proofs.Laws.Lists.Tests.{Tells, by-test}
use Rattle.definitions.proofs.Laws.Lists.Members.{in-at, of-append}
use Rattle.definitions.proofs.Laws.Text.Judging.{and_then-answered}
use Rattle.definitions.proofs.Construction.Performing.{entered_by, entered_in, Performed, all-performed}

module _ {X : Type 0} where
  -- what holds at the end of a build, whose turns are `enough` where it is stopped: a claim, and how far it
  -- came
  abbrev pub AtEnd : (ℕ → Grown X → Type 0) → (enough : ℕ) → Done X → Type 0
  AtEnd P enough (finished turns net) = P turns net × (turns ≡ length net.table)
  AtEnd P enough (stopped turns net) = P turns net × (turns ≡ enough) × (turns < length net.table)

  -- the claim alone, of what the build answers with
  pub claim-at-end : (P : ℕ → Grown X → Type 0) (enough : ℕ) (built : Done X) → AtEnd P enough built
      → (turns : ℕ) × P turns (grown_in built)
  unfolding grown_in
  claim-at-end P enough (finished turns net) h = (turns, h.0)
  claim-at-end P enough (stopped turns net) h = (turns, h.0)

module _ {X E : Type 0} (m : Machine X E) where
  -- ---- what the events enter

  pub entered-enter : (from : ℕ) (es : List E) → entered_in m (map (enter from) es) ≡ map m.stored es
  unfolding concat_map entered_by
  entered-enter from [] = refl
  entered-enter from (e ∷ es) = ap (λ l. m.stored e ∷ l) (entered-enter from es)

  pub entered-plain : (arcs : List Arc) → entered_in m (map plain arcs) ≡ []
  unfolding concat_map entered_by
  entered-plain [] = refl
  entered-plain (a ∷ arcs) = entered-plain arcs

  -- one turn, seen as its events
  abbrev pub Turn : ℕ → Grown X → Grown X → Type 0
  Turn turns net next = Performed m net (m.turn_events turns (get_or net.table turns m.nothing)) next

module _ {X E : Type 0} (m : Machine X E) (tells : Tells m.same) where
  -- ---- turns

  module _ (room : Room) where
    -- a turn keeps a claim about what is built and the turns that led to it
    abbrev pub KeptByTurns : (ℕ → Grown X → Type 0) → Type 0
    KeptByTurns P =
        (turns : ℕ) (net next : Grown X) → turns < length net.table → P turns net
        → expand m room turns net ≡ answered next → P (suc turns) next

    -- one turn, seen as its events
    pub one-turn : (turns : ℕ) (net next : Grown X) → expand m room turns net ≡ answered next
        → Turn m turns net next
    unfolding expand
    one-turn turns net next e = all-performed m tells room net _ next e

    grows : (turns : ℕ) (net next : Grown X) → expand m room turns net ≡ answered next
        → length net.table ≤ length next.table
    grows turns net next e = rw ((one-turn turns net next e).grown, length-append) (omega arith)

    module _ (P : ℕ → Grown X → Type 0) (built : Done X) where
      -- where none is left to expand, the turns are as many as the elements
      ended : (enough turns : ℕ) (net : Grown X) → turns ≤ length net.table → P turns net
          → ltb turns (length net.table) ≡ false
          → ◌≡◌ {A = Outcome (Done X)} (answered (finished turns net)) (answered built)
          → AtEnd P enough built
      ended enough turns net h p f e =
          let same : finished turns net ≡ built = cc in
          let all : length net.table ≤ turns = ltb-false turns _ f in
          subst (AtEnd P enough) same (p, omega arith)

      -- where one is left when the turns are done, the build is stopped
      halted : (enough turns : ℕ) (net : Grown X) → P turns net → ltb turns (length net.table) ≡ true
          → turns ≡ enough
          → ◌≡◌ {A = Outcome (Done X)} (answered (stopped turns net)) (answered built)
          → AtEnd P enough built
      halted enough turns net p f k e =
          let same : stopped turns net ≡ built = cc in
          subst (AtEnd P enough) same (p, k, ltb-true turns _ f)

      -- a claim that every turn keeps holds at the end
      turns-keep : KeptByTurns P → (limit turns : ℕ) (net : Grown X) → turns ≤ length net.table
          → P turns net → turns_from m room limit turns net ≡ answered built
          → AtEnd P (turns + limit) built
      unfolding turns_from
      turns-keep keeps zero turns net h p e =
          by-test (ltb turns (length net.table))
          (λ f. halted (turns + 0) turns net p f (omega arith) (rw f at e))
          (λ f. ended (turns + 0) turns net h p f (rw f at e))
      turns-keep keeps (suc limit) turns net h p e =
          let count : suc turns + limit ≡ turns + suc limit = omega arith in
          by-test (ltb turns (length net.table))
          (λ f.
          let (next, now, later) = and_then-answered (expand m room turns net) _ built
          (rw (f, turns_from) at e) in
          let fewer : turns < length net.table = ltb-true turns _ f in
          let more = grows turns net next now in
          let kept = keeps turns net next fewer p now in
          subst (λ n. AtEnd P n built) count (turns-keep keeps limit (suc turns) next (omega arith) kept later))
          (λ f. ended (turns + suc limit) turns net h p f (rw (f, turns_from) at e))

      -- and so does one that the start events bring about
      pub grow-keeps : KeptByTurns P
          → ((net : Grown X) → perform_all m room (begun m) m.start_events ≡ answered net → P 0 net)
          → (limit : ℕ) → grow m room limit ≡ answered built → AtEnd P (0 + limit) built
      unfolding grow
      grow-keeps keeps begin limit e =
          let (net, now, later) = and_then-answered (perform_all m room (begun m) m.start_events) _ _ e in
          turns-keep keeps limit 0 net (omega arith) (begin net now) later

  -- ---- what is passed on

  module _ (P : X → Type 0) where
    -- the claim holds of all elements of a table
    abbrev AllHold : List X → Type 0
    AllHold table = (x : X) → IsIn x table → P x

    -- what holds of a table and of all that events enter holds of the table that results
    events-hold : (net next : Grown X) (events : List (Event E)) → Performed m net events next
        → AllHold net.table → AllHold (entered_in m events) → AllHold next.table
    events-hold net next events p old new x h =
        ⊎_elim (old x) (λ i. new x (p.more_entered x i))
        (of-append x net.table p.more (subst (IsIn x) p.grown h))

    -- what holds at the beginning and is passed on by turns holds of the whole table
    pub passed_on : (room : Room) (limit : ℕ) (built : Done X)
        → ((x : X) → IsIn x m.first → P x)
        → ((x : X) → IsIn x (entered_in m m.start_events) → P x)
        → ((place : ℕ) (x y : X) → P x → IsIn y (entered_in m (m.turn_events place x)) → P y)
        → grow m room limit ≡ answered built → (x : X) → IsIn x (grown_in built).table → P x
    passed_on room limit built first start pass e =
        (claim-at-end (λ turns net. AllHold net.table) (0 + limit) built
        (grow-keeps room (λ turns net. AllHold net.table) built by_turn
        (λ net now. events-hold (begun m) net _ (all-performed m tells room (begun m) _ net now) first start)
        limit e)
        ).1
      where
        by_turn : KeptByTurns room (λ turns net. AllHold net.table)
        by_turn turns net next fewer old now =
            let q : X = get_or net.table turns m.nothing in
            let holds : P q = old q (in-at net.table turns m.nothing fewer) in
            events-hold net next _ (one-turn room turns net next now) old (λ y h. pass turns q y holds h)
