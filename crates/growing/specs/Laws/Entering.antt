-- Laws about an arc into an element, whichever machine grows the table: what the search along the chain may rely on,
-- and what each answer leaves, by what the definition performs.
use Rattle.std.specs.Prelude.{◌≡◌, refl, List, [], ◌∷◌, ◌++◌, ℕ, ◌+◌, ◌*◌, ◌≤◌, ◌<◌, length, take, drop, Option, Some, None, Result, Err}
use Rattle.std.proofs.Common.{sym, ap, ◌∙◌, subst, arith, length-append}
use Rattle.definitions.specs.declared.Fault.{Fault}
use Rattle.definitions.specs.declared.Fault.TheVariants.{Crowd}
use Rattle.definitions.specs.Growing.{Grown, Machine, enter, Room, add_arc, perform}
use Rattle.definitions.proofs.Laws.Lists.Tests.{Tells}
use Rattle.definitions.proofs.Laws.Text.Judging.{AllPass}
use Rattle.definitions.proofs.Laws.Networks.Limits.{with_element}
use Rattle.growing.specs.declared.Sizes.{Sizes}
use Rattle.growing.specs.Chains.{Code, Coded, elements_in, Flat, heads_in, linked_to, Linked, Findable, Found}
use Rattle.growing.specs.Kept.{Kept}
use Rattle.growing.specs.Steps.{sizes_of, held_in, arc_room, Underway, StepLeft, ArcAdded}
use Rattle.growing.specs.Laws.Linking.{chained-length}
use Rattle.growing.specs.Laws.KeptBack.{used-within, used-flat, used-elements}
use Rattle.growing.specs.Laws.KeptMore.{kept-element}
use Rattle.growing.specs.Laws.Entered.{entered-known, entered-crowded, entered-new}
use Rattle.growing.specs.Laws.Steps.{held-sizes, left-refused, arc-left}

-- one element more
abbrev pub with_one : Sizes → Sizes
with_one sizes = record { table = sizes.table + 1; arcs = sizes.arcs }

module _ {X : Type 0} {code : Code X} {room : Room} {sizes : Sizes} {table arcs chains : List ℕ}
    (u : Underway code room sizes table arcs chains) where
  kept : Kept code room (held_in code sizes table arcs) table arcs chains
  kept = u.kept

  abbrev net : Grown X
  net = held_in code sizes table arcs

  same-sizes : sizes ≡ sizes_of net
  same-sizes = sym (held-sizes code sizes table arcs)

  places : sizes.table ≡ length net.table
  places = ap (λ (k : Sizes). k.table) same-sizes

  -- ---- what the calls ask

  pub enter-used : code.size * sizes.table ≤ length table
  enter-used = subst (λ (n : ℕ). code.size * n ≤ length table) (sym places) (used-within kept)

  enter-elements : 0 < code.size
      → elements_in code (take (code.size * sizes.table) table) ≡ (held_in code sizes table arcs).table
  enter-elements some =
      ap (λ (n : ℕ). elements_in code (take (code.size * n) table)) places ∙ used-elements kept some

  pub enter-searchable : 0 < code.size → Findable code (take (code.size * sizes.table) table) chains
  enter-searchable some =
      record {
        flat =
            subst (λ l. Flat code l (take (code.size * sizes.table) table)) (sym (enter-elements some))
            (subst (λ (n : ℕ). Flat code net.table (take (code.size * n) table)) (sym places) (used-flat kept));
        linked = subst (Linked code (heads_in chains) chains) (sym (enter-elements some)) kept.linked;
      }

  pub enter-few : sizes.table ≤ room.table
  enter-few = omega (arith, places, kept.table-room)

  pub enter-arcs : sizes.arcs ≤ arc_room arcs
  enter-arcs = omega (arith, ap (λ (k : Sizes). k.arcs) same-sizes, kept.arc-room, u.whole)

  -- ---- each answer

  module _ {E : Type 0} (m : Machine X E) (tells : Tells m.same) (from : ℕ) (e : E)
      (passes : AllPass (m.tests e)) (some : 0 < code.size) {found : Option ℕ}
      (f : Found code (elements_in code (take (code.size * sizes.table) table)) (m.stored e) found) where
    abbrev Left : Result Sizes Fault → (table' arcs' chains' : List ℕ) → Type 0
    Left answer table' arcs' chains' =
        StepLeft code room table arcs chains (perform m room net (enter from e)) answer table' arcs' chains'

    looked : Found code net.table (m.stored e) found
    looked = subst (λ l. Found code l (m.stored e) found) (enter-elements some) f

    pub enter-place : {place : ℕ} → found ≡ Some place → place < sizes.table
    enter-place {place} n = omega (arith, (looked.some place n).0, places)

    -- it stands in the table
    pub enter-known : {place : ℕ} → found ≡ Some place → {answer : Result Sizes Fault} {arcs' : List ℕ}
        → ArcAdded sizes (m.arc_into from place e) arcs answer arcs' → Left answer table arcs' chains
    enter-known {place} n added =
        arc-left table chains kept u.whole refl refl (m.arc_into from place e) sizes same-sizes
        (entered-known code m tells room net from e passes looked kept.once n) added

    -- there is no room for it
    pub enter-crowded : found ≡ None → room.table ≤ sizes.table → Left (Err Crowd) table arcs chains
    enter-crowded n h =
        left-refused refl refl refl Crowd
        (entered-crowded code m tells room net from e passes looked n (omega (arith, h, places))) refl

    -- it is added, and the arc into it
    pub enter-new : found ≡ None → sizes.table < room.table → Coded code (m.stored e)
        → {answer : Result Sizes Fault} {table' arcs' chains' : List ℕ}
        → table' ≡ take (code.size * sizes.table) table ++ code.words (m.stored e)
        ++ drop (code.size * sizes.table + code.size) table
        → chains' ≡ linked_to (heads_in chains) chains sizes.table (code.key (m.stored e))
        → ArcAdded (with_one sizes) (m.arc_into from sizes.table e) arcs answer arcs'
        → Left answer table' arcs' chains'
    enter-new n h told {answer} {table'} {arcs'} {chains'} put linked added =
        let x : X = m.stored e in
        let inside : length net.table < room.table = omega (arith, h, places) in
        let (size, grown) =
        kept-element kept x told (looked.none n) inside
        (put ∙ ap (λ (k : ℕ). take (code.size * k) table ++ code.words x ++ drop (code.size * k + code.size) table)
        places)
        (linked ∙ ap (λ (k : ℕ). linked_to (heads_in chains) chains k (code.key x)) places) in
        let free : length net.table + 1 < heads_in chains = omega (arith, inside, kept.link-room) in
        let as_many : length chains' ≡ length chains =
        ap length linked ∙ ap (λ (k : ℕ). length (linked_to (heads_in chains) chains k (code.key x))) places
        ∙ chained-length kept.linked x free in
        let one : sizes.table + 1 ≡ length (net.table ++ (x ∷ [])) =
        ap (λ (k : ℕ). k + 1) places ∙ sym (length-append net.table (x ∷ [])) in
        let more : with_one sizes ≡ sizes_of (with_element net x) =
        λ i. record { table = one i; arcs = (same-sizes i).arcs } in
        arc-left table chains grown u.whole size as_many (m.arc_into from sizes.table e) (with_one sizes) more
        (entered-new code m tells room net from e passes looked n inside
        ∙ ap (λ (k : ℕ). add_arc room (m.arc_into from k e) (with_element net x)) (sym places)) added
