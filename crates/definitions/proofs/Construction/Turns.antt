-- Laws about turns: no build that answers has more elements or arcs than there is room for. So with as many
-- turns as elements have room a build is never stopped. The program's build is one.
use Rattle.std.specs.Prelude.{◌≡◌, ℕ, ◌+◌, ◌≤◌, length}
use Rattle.std.proofs.Math.Path.{subst}
use mathlib.Core.List.{List, [], ◌∷◌}
use Rattle.std.proofs.Math.Option.{Option, none, some}
use Rattle.std.proofs.Common.{arith, lit≤, length-append}
use Rattle.definitions.specs.declared.Header.{Header}
use Rattle.definitions.specs.Faults.{answered}
use Rattle.definitions.specs.Tables.{Tables, tables_book}
use Rattle.definitions.specs.Combinations.{combine}
use Rattle.definitions.specs.Arcs.{Arc}
use Rattle.definitions.specs.Matrices.{matrix_size}
use Rattle.definitions.specs.Growing.{Grown, Event, plain, enter, Machine, place_from, Room, add_arc}
use Rattle.definitions.specs.Growing.{add_both, Done, stopped, grown_in, begun, perform, perform_all, expand}
use Rattle.definitions.specs.Growing.{grow}
use Rattle.definitions.specs.Connecting.{Rules, Network, no_network, Built, connecting, connect, rules_of}
use Rattle.definitions.specs.Building.{Space, room_in, build}
use Rattle.definitions.specs.Program.{program_space, program_turns}
use Rattle.definitions.proofs.Laws.Lists.Tests.{Tells}
use Rattle.definitions.proofs.Laws.Text.Judging.{judge-answered, and_then-answered}
use Rattle.definitions.proofs.Laws.Networks.Limits.{arc-added, both-added}
use Rattle.definitions.proofs.Laws.Networks.Metastates.{metastates-told}
use Rattle.definitions.proofs.Construction.Turning.{AtEnd, claim-at-end, grow-keeps}

-- the elements and the arcs have room
pub record HasRoom {X : Type 0} (room : Room) (net : Grown X) : Type 0 where
  pub table : length net.table ≤ room.table
  pub arcs : length net.arcs ≤ room.arcs

module _ {X : Type 0} (room : Room) where
  -- a new arc had room and keeps the elements; a new element had room too
  arc-room : (a : Arc) (net next : Grown X) → HasRoom room net → add_arc room a net ≡ answered next
      → HasRoom room next
  arc-room a net next h e =
      let (fits, same) = arc-added room net a next e in
      subst (HasRoom room) same record { table = h.table; arcs = simp length-append (omega arith) }

  both-room : (x : X) (a : Arc) (net next : Grown X) → add_both room x a net ≡ answered next
      → HasRoom room next
  both-room x a net next e =
      let (fits, arc-fits, same) = both-added room net x a next e in
      subst (HasRoom room) same
      record { table = simp length-append (omega arith); arcs = simp length-append (omega arith) }

module _ {X E : Type 0} (m : Machine X E) (tells : Tells m.same) (room : Room)
    (begins : HasRoom room (begun m)) where
  perform-room : (net : Grown X) (event : Event E) (next : Grown X)
      → HasRoom room net → perform m room net event ≡ answered next → HasRoom room next
  unfolding perform
  perform-room net (plain a) next h e = arc-room room a net next h e
  perform-room net (enter from x) next h e =
      go (place_from m.same 0 (m.stored x) net.table) (judge-answered 0 (m.tests x) _ next e).1
    where
      go : (found : Option ℕ)
          → elim found [
            | some place ↦ add_arc room (m.arc_into from place x) net
            | none ↦ add_both room (m.stored x) (m.arc_into from (length net.table) x) net
          ] ≡ answered next → HasRoom room next
      go (some place) k = arc-room room _ net next h k
      go none k = both-room room (m.stored x) _ net next k

  events-room : (net : Grown X) (events : List (Event E)) (next : Grown X)
      → HasRoom room net → perform_all m room net events ≡ answered next → HasRoom room next
  unfolding perform_all
  events-room net [] next h e = let same : net ≡ next = cc in subst (HasRoom room) same h
  events-room net (event ∷ events) next h e =
      let steps = and_then-answered (perform m room net event) _ next e in
      events-room steps.0 events next (perform-room net event steps.0 h steps.1) steps.2

  expand-room : (turns : ℕ) (net next : Grown X) → HasRoom room net
      → expand m room turns net ≡ answered next → HasRoom room next
  unfolding expand
  expand-room turns net next h e = events-room net _ next h e

  room-at-end : (limit : ℕ) (built : Done X) → grow m room limit ≡ answered built
      → AtEnd (λ turns net. HasRoom room net) (0 + limit) built
  room-at-end limit built e =
      grow-keeps m tells room (λ turns net. HasRoom room net) built
      (λ turns net next k h now. expand-room turns net next h now)
      (λ net now. events-room (begun m) m.start_events net begins now) limit e

  -- so what a build answers with has room
  pub grown-room : (limit : ℕ) (built : Done X) → grow m room limit ≡ answered built
      → HasRoom room (grown_in built)
  grown-room limit built e =
      (claim-at-end (λ turns net. HasRoom room net) (0 + limit) built (room-at-end limit built e)).1

  -- turns that suffice for all elements are never used up before the last is expanded
  pub never-stopped : (limit : ℕ) → room.table ≤ limit → (done : ℕ) (last : Grown X)
      → grow m room limit ≡ answered (stopped done last) → ⊥
  never-stopped limit l done last e =
      let (fits, many, fewer) = room-at-end limit (stopped done last) e in
      omega (arith, fits.table)

-- ---- networks

-- an empty network has room
none-room : (room : Room) → HasRoom room no_network
none-room room = record { table = omega arith; arcs = omega arith }

pub connected-room : (room : Room) (rules : Rules) (limit : ℕ) (built : Built)
    → connect rules room limit ≡ answered built → HasRoom room (grown_in built)
connected-room room rules = grown-room (connecting rules) metastates-told room (none-room room)

-- a build with a turn for each metastate that has room is never stopped
pub build-never-stopped : (header : Header) (tables : Tables) (space : Space) (limit : ℕ)
    → (room_in header.half space).table ≤ limit
    → (done : ℕ) (last : Network) → build header tables space limit ≡ answered (stopped done last) → ⊥
unfolding build
build-never-stopped header tables space limit l done last e =
    let (found, combines, connects) = and_then-answered (combine header tables space.combinations) _ _ e in
    let rules : Rules = rules_of (tables_book header tables) found in
    let room : Room = room_in header.half space in
    never-stopped (connecting rules) metastates-told room (none-room room) limit l done last connects

pub program-never-stopped : (header : Header) (tables : Tables) (done : ℕ) (last : Network)
    → build header tables program_space program_turns ≡ answered (stopped done last) → ⊥
unfolding room_in matrix_size
program-never-stopped header tables = build-never-stopped header tables program_space program_turns (lit≤ tt)
