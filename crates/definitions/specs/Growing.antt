-- Document 01, "Connecting", in general: a table that grows at its end while its elements are expanded, oldest
-- first, and arcs that lead to places of it, each built by turns within limits. Elements and what is entered
-- are two types: what is entered is judged, gives its arc, and tells the element that is stored. So one
-- construction, and one proof of it (proofs/Construction/), serves every network that is built this way: document
-- 01's in Connecting.antt, and the joined one of document 02 in Joining.antt.
use Rattle.std.specs.Prelude.{if◌then◌else◌, List, [], ◌∷◌, ◌++◌, Bool, true, false, ℕ, zero, suc, ltb, length, get_or}
use Rattle.std.proofs.Math.Option.{Option, none, some}
use Rattle.definitions.specs.declared.Fault.TheVariants.{Crowd, Tangle}
use Rattle.definitions.specs.Faults.{Outcome, answered, refuse, Test, judge, and_then}
use Rattle.definitions.specs.Arcs.{Arc}

-- ---- a table, and what is asked of it

-- what is built so far
pub record Grown (X : Type 0) : Type 0 where
  pub table : List X
  pub arcs : List Arc

-- what a turn asks to be appended: an arc between states that are there, or an arc into an element that may
-- be new
pub data Event (E : Type 0) : Type 0 where
  plain : Arc → Event E
  enter : (from : ℕ) → E → Event E

-- Elements of type X stand in the table; what is entered has type E. Events do not depend on what has been
-- built; performing them knows the table and the limits.
pub record Machine (X E : Type 0) : Type 0 where
  pub same : X → X → Bool
  -- what stands beyond the end of the table
  pub nothing : X
  -- what is stored of what is entered
  pub stored : E → X
  -- what is judged of it, before the limits
  pub tests : E → List Test
  -- the arc into it, where it has that place
  pub arc_into : (from place : ℕ) → E → Arc
  -- the table before the first event
  pub first : List X
  pub start_events : List (Event E)
  -- what the turn of the element at a place appends
  pub turn_events : (place : ℕ) → X → List (Event E)

-- the place of an element in the table, none where it is new; the first of the table has place `at`
unfoldable pub place_from : {X : Type 0} → (X → X → Bool) → (at : ℕ) → X → List X → Option ℕ
place_from same at x [] = none
place_from same at x (y ∷ table) = if same x y then some at else place_from same (suc at) x table

-- ---- limits

-- how many elements and arcs there is room for
pub record Room : Type 0 where
  pub table : ℕ
  pub arcs : ℕ

module _ {X : Type 0} (room : Room) where
  -- 32, "an arc beyond the lent space or 999999"
  unfoldable pub add_arc : Arc → Grown X → Outcome (Grown X)
  add_arc a net =
      if ltb (length net.arcs) room.arcs
      then answered (record { table = net.table; arcs = net.arcs ++ (a ∷ []) })
      else refuse Tangle 0

  -- 31, "a new metastate beyond the lent space or 65535"
  unfoldable pub add_element : X → Grown X → Outcome (Grown X)
  add_element x net =
      if ltb (length net.table) room.table
      then answered (record { table = net.table ++ (x ∷ []); arcs = net.arcs })
      else refuse Crowd 0

  -- a new element and the arc into it. "31 before the arc to that metastate"
  unfoldable pub add_both : X → Arc → Grown X → Outcome (Grown X)
  add_both x a net = and_then (add_element x net) (add_arc a)

-- ---- events and turns

-- finished, or stopped "when that many turns are done and a metastate is still unexpanded"
pub data Done (X : Type 0) : Type 0 where
  finished stopped : (turns : ℕ) → Grown X → Done X

unfoldable pub grown_in : {X : Type 0} → Done X → Grown X
grown_in (finished turns net) = net
grown_in (stopped turns net) = net

module _ {X E : Type 0} (m : Machine X E) where
  abbrev pub begun : Grown X
  begun = record { table = m.first; arcs = [] }

  module _ (room : Room) where
    unfoldable pub perform : Grown X → Event E → Outcome (Grown X)
    perform net (plain a) = add_arc room a net
    perform net (enter from e) =
        judge 0 (m.tests e)
        (elim (place_from m.same 0 (m.stored e) net.table) [
          | some place ↦ add_arc room (m.arc_into from place e) net
          | none ↦ add_both room (m.stored e) (m.arc_into from (length net.table) e) net
        ])

    unfoldable pub perform_all : Grown X → List (Event E) → Outcome (Grown X)
    perform_all net [] = answered net
    perform_all net (event ∷ events) = and_then (perform net event) (λ next. perform_all next events)

    -- one turn: of elements 0, 1, .. as many as `turns` are expanded, so the oldest unexpanded has that place
    unfoldable pub expand : (turns : ℕ) → Grown X → Outcome (Grown X)
    expand turns net = perform_all net (m.turn_events turns (get_or net.table turns m.nothing))

    -- the turns from now on, with `turns` elements expanded and at most `limit` turns to go
    unfoldable pub turns_from : (limit turns : ℕ) → Grown X → Outcome (Done X)
    turns_from zero turns net =
        answered (if ltb turns (length net.table) then stopped turns net else finished turns net)
    turns_from (suc limit) turns net =
        elim (ltb turns (length net.table)) [
          | false ↦ answered (finished turns net)
          | true ↦ and_then (expand turns net) (λ next. turns_from limit (suc turns) next)
        ]

    unfoldable pub grow : (limit : ℕ) → Outcome (Done X)
    grow limit = and_then (perform_all begun m.start_events) (λ net. turns_from limit 0 net)
