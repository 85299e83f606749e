-- Laws about adding to a table and its arcs within their room: 31 where there is no room for a new element,
-- whatever room there is for arcs, 32 where there is none for an arc; and what an addition that is answered
-- leaves. construction/Performing and Turns use them.
use Rattle.std.specs.Prelude.{◌≡◌, [], ◌∷◌, ◌++◌, ◌≤◌, ◌<◌, ltb, length}
use Rattle.std.proofs.Common.{sym, ◌∙◌, subst, ltb→lt, le-ltb}
use Rattle.std.proofs.Math.Path.{ap}
use Rattle.definitions.specs.declared.Fault.TheVariants.{Crowd, Tangle}
use Rattle.definitions.specs.Faults.{answered, refuse, and_then}
use Rattle.definitions.specs.Arcs.{Arc}
use Rattle.definitions.specs.Growing.{Grown, Room, add_arc, add_element, add_both}
use Rattle.definitions.proofs.Laws.Text.Judging.{test-answered, and_then-answered}

-- one arc, or one element, more
abbrev pub with_arc : {X : Type 0} → Grown X → Arc → Grown X
with_arc net a = record { table = net.table; arcs = net.arcs ++ (a ∷ []) }

abbrev pub with_element : {X : Type 0} → Grown X → X → Grown X
with_element net x = record { table = net.table ++ (x ∷ []); arcs = net.arcs }

module _ {X : Type 0} (room : Room) (net : Grown X) where
  -- ---- no room

  no-room-element : (x : X) → room.table ≤ length net.table
      → add_element room x net ≡ refuse Crowd 0
  unfolding add_element
  no-room-element x h = rw (le-ltb (length net.table) room.table h)

  pub no-room-arc : (a : Arc) → room.arcs ≤ length net.arcs → add_arc room a net ≡ refuse Tangle 0
  unfolding add_arc
  no-room-arc a h = rw (le-ltb (length net.arcs) room.arcs h)

  -- "31 before the arc to that metastate"
  pub element-first : (x : X) (a : Arc) → room.table ≤ length net.table
      → add_both room x a net ≡ refuse Crowd 0
  unfolding add_both and_then
  element-first x a h = ap (λ o. and_then o (add_arc room a)) (no-room-element x h)

  -- ---- room

  pub arc-added : (a : Arc) (next : Grown X) → add_arc room a net ≡ answered next
      → (length net.arcs < room.arcs)
      × (with_arc net a ≡ next)
  unfolding add_arc
  arc-added a next e =
      let (fits, same) =
      test-answered (ltb (length net.arcs) room.arcs) Tangle 0 (with_arc net a) next e in
      (ltb→lt (length net.arcs) room.arcs fits, same)

  element-added : (x : X) (next : Grown X) → add_element room x net ≡ answered next
      → (length net.table < room.table)
      × (with_element net x ≡ next)
  unfolding add_element
  element-added x next e =
      let (fits, same) =
      test-answered (ltb (length net.table) room.table) Crowd 0 (with_element net x) next e in
      (ltb→lt (length net.table) room.table fits, same)

pub both-added : {X : Type 0} (room : Room) (net : Grown X) (x : X) (a : Arc) (next : Grown X)
    → add_both room x a net ≡ answered next
    → (length net.table < room.table)
    × (length net.arcs < room.arcs)
    × (with_arc (with_element net x) a ≡ next)
unfolding add_both
both-added {X = X} room net x a next e =
    let (middle, first, second) = and_then-answered (add_element room x net) (add_arc room a) next e in
    let (fits, grown) = element-added room net x middle first in
    let (arc-fits, same) = arc-added room middle a next second in (
      fits,
      subst (λ (n : Grown X). length n.arcs < room.arcs) (sym grown) arc-fits,
      ap (λ (n : Grown X). with_arc n a) grown ∙ same,
    )
