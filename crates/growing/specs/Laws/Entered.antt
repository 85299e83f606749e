-- Laws about an arc into an element of a growing table, whichever machine grows it: what is performed where the search
-- found the element, where there is no room for a new one, and where it is added.
use Rattle.std.specs.Prelude.{◌≡◌, ℕ, ◌≤◌, ◌<◌, length, Option, Some, None}
use Rattle.std.proofs.Common.{sym, ap, ◌∙◌, subst, lt-ltb}
use Rattle.std.proofs.Math.Option.{none, some}
use Rattle.definitions.specs.declared.Fault.TheVariants.{Crowd}
use Rattle.definitions.specs.Faults.{refuse, and_then}
use Rattle.definitions.specs.Growing.{Grown, Machine, enter, place_from, Room, add_arc, add_element, add_both, perform}
use Rattle.definitions.proofs.Laws.Lists.Places.{place_at}
use Rattle.definitions.proofs.Construction.Table.{place_known, place_none}
use Rattle.definitions.proofs.Laws.Lists.Tests.{Tells}
use Rattle.definitions.proofs.Laws.Text.Judging.{AllPass, judge-passing}
use Rattle.definitions.specs.Lists.{IsIn, Distinct, place_of}
use Rattle.definitions.proofs.Laws.Lists.Members.{in-at}
use Rattle.definitions.proofs.Laws.Networks.Limits.{with_element, element-first}
use Rattle.growing.specs.Chains.{Code, Found}

module _ {X E : Type 0} (code : Code X) (m : Machine X E) (tells : Tells m.same) (room : Room) (net : Grown X)
    (from : ℕ) (e : E) (passes : AllPass (m.tests e)) {found : Option ℕ}
    (f : Found code net.table (m.stored e) found) where
  abbrev x : X
  x = m.stored e

  -- ---- the search in the table answers what the search along the chain found

  place_found : Distinct net.table → {place : ℕ} → found ≡ Some place
      → place_from m.same 0 x net.table ≡ some place
  place_found once {place} n =
      let (listed, same) = f.some place n in
      let member = in-at net.table place code.nothing listed in
      place_known m.same tells x net.table (subst (λ z. IsIn z net.table) same member)
      ∙ ap some (ap (place_of m.same net.table) (sym same)
      ∙ place_at m.same tells code.nothing net.table once place listed)

  place-not-found : found ≡ None → place_from m.same 0 x net.table ≡ none
  place-not-found n = place_none m.same tells x net.table (f.none n)

  -- ---- what is performed

  -- it stands in the table
  pub entered-known : Distinct net.table → {place : ℕ} → found ≡ Some place
      → perform m room net (enter from e) ≡ add_arc room (m.arc_into from place e) net
  unfolding perform
  entered-known once n = judge-passing 0 (m.tests e) _ passes ∙ rw (place_found once n)

  performed-new : found ≡ None → perform m room net (enter from e)
      ≡ add_both room x (m.arc_into from (length net.table) e) net
  unfolding perform
  performed-new n = judge-passing 0 (m.tests e) _ passes ∙ rw (place-not-found n)

  -- there is no room for it
  pub entered-crowded : found ≡ None → room.table ≤ length net.table
      → perform m room net (enter from e) ≡ refuse Crowd 0
  entered-crowded n h = performed-new n ∙ element-first room net x (m.arc_into from (length net.table) e) h

  -- it is added, and the arc into it
  pub entered-new : found ≡ None → length net.table < room.table
      → perform m room net (enter from e)
      ≡ add_arc room (m.arc_into from (length net.table) e) (with_element net x)
  unfolding add_both add_element and_then
  entered-new n h = performed-new n ∙ rw (lt-ltb (length net.table) room.table h)
