-- What performing events leaves: the table grows at its end by what the events enter, without repetition, and
-- each event adds its arc, told by the places of the table that results. Performing one event after the other
-- composes, so a whole build is told by the list of its events (construction/Expanding.antt).
use Rattle.std.specs.Prelude.{◌≡◌, ◌⊎◌, ℕ, length}
use Rattle.std.proofs.Math.Path.{refl, sym, ap, ap₂, subst}
use Rattle.std.proofs.Common.{◌∙◌, inl, inr}
use Rattle.std.proofs.Math.Logic.{⊎_elim}
use mathlib.Core.List.{List, [], ◌∷◌, ◌++◌, map, append_assoc, append-nil, map-append}
use Rattle.std.proofs.Math.Option.{Option, none, some}
use native.Mathlib.Omega.{arith}
use Rattle.definitions.specs.Lists.{concat_map, IsIn, Distinct, place_of}
use Rattle.definitions.specs.Faults.{answered}
use Rattle.definitions.specs.Arcs.{Arc}
use Rattle.definitions.specs.Growing.{Grown, Event, plain, enter, Machine, place_from, Room, add_arc, add_both}
use Rattle.definitions.specs.Growing.{perform, perform_all}
use Rattle.definitions.proofs.Laws.Lists.Tests.{Tells}
use Rattle.definitions.proofs.Laws.Lists.Lists.{concat_map-append}
use Rattle.definitions.proofs.Laws.Lists.Members.{in_left, in_right, of-append, distinct_more}
use Rattle.definitions.proofs.Laws.Text.Judging.{judge-answered, and_then-answered}
use Rattle.definitions.proofs.Laws.Networks.Limits.{arc-added, both-added}
use Rattle.definitions.proofs.Laws.Lists.Places.{place-stays}
use Rattle.definitions.proofs.Construction.Table.{place_found, place-new}

module _ {X E : Type 0} (m : Machine X E) where
  -- the elements that an event enters, and that events enter
  unfoldable pub entered_by : Event E → List X
  entered_by (plain a) = []
  entered_by (enter from e) = m.stored e ∷ []

  abbrev pub entered_in : List (Event E) → List X
  entered_in events = concat_map entered_by events

  -- the arc that an event adds, where the table has become this one
  unfoldable pub event_arc : List X → Event E → Arc
  event_arc table (plain a) = a
  event_arc table (enter from e) = m.arc_into from (place_of m.same table (m.stored e)) e

  -- performing these events leads from one table with its arcs to the next
  pub record Performed (net : Grown X) (events : List (Event E)) (next : Grown X) : Type 0 where
    pub more : List X
    pub grown : next.table ≡ net.table ++ more
    pub once : Distinct net.table → Distinct next.table
    pub entered-in : (x : X) → IsIn x (entered_in events) → IsIn x next.table
    pub more_entered : (x : X) → IsIn x more → IsIn x (entered_in events)
    pub added : next.arcs ≡ net.arcs ++ map (event_arc next.table) events

-- ---- events compose

module _ {X E : Type 0} (m : Machine X E) (tells : Tells m.same) where
  abbrev entered : List (Event E) → List X
  entered events = entered_in m events

  -- events that enter only what is in the table keep their arcs when it grows
  arcs-stay : (table more : List X) (events : List (Event E))
      → ((x : X) → IsIn x (entered events) → IsIn x table)
      → map (event_arc m (table ++ more)) events ≡ map (event_arc m table) events
  unfolding event_arc entered_by concat_map
  arcs-stay table more [] h = refl
  arcs-stay table more (plain a ∷ events) h = ap (λ l. a ∷ l) (arcs-stay table more events h)
  arcs-stay table more (enter from e ∷ events) h =
      ap₂ (λ place l. m.arc_into from place e ∷ l)
      (place-stays m.same tells (m.stored e) table more (h (m.stored e) (inl refl)))
      (arcs-stay table more events (λ y i. h y (inr i)))

  -- without an event nothing changes
  performed-none : (net : Grown X) → Performed m net [] net
  unfolding concat_map
  performed-none net =
      record {
        more = [];
        grown = sym (append-nil net.table);
        once = λ u. u;
        entered-in = λ x h. absurd h;
        more_entered = λ x h. absurd h;
        added = sym (append-nil net.arcs);
      }

  -- events after events
  module _ (net middle next : Grown X) (events later : List (Event E))
      (p : Performed m net events middle) (q : Performed m middle later next) where
    kept_in : (x : X) → IsIn x middle.table → IsIn x next.table
    kept_in x h = subst (IsIn x) (sym q.grown) (in_left x middle.table q.more h)

    entered-either : (x : X) → IsIn x (entered (events ++ later))
        → IsIn x (entered events) ⊎ IsIn x (entered later)
    entered-either x h =
        of-append x (entered events) (entered later)
        (subst (IsIn x) (concat_map-append (entered_by m) events later) h)

    entered-after : (x : X) → IsIn x (entered (events ++ later)) → IsIn x next.table
    entered-after x h =
        ⊎_elim (λ i. kept_in x (p.entered-in x i)) (λ i. q.entered-in x i) (entered-either x h)

    more-after : (x : X) → IsIn x (p.more ++ q.more) → IsIn x (entered (events ++ later))
    more-after x h =
        subst (IsIn x) (sym (concat_map-append (entered_by m) events later))
        (⊎_elim (λ i. in_left x (entered events) (entered later) (p.more_entered x i))
        (λ i. in_right x (entered events) (entered later) (q.more_entered x i))
        (of-append x p.more q.more h))

    grown-after : next.table ≡ net.table ++ (p.more ++ q.more)
    grown-after =
        q.grown ∙ ap (λ l. l ++ q.more) p.grown ∙ append_assoc net.table p.more q.more

    kept-arcs : map (event_arc m next.table) events ≡ map (event_arc m middle.table) events
    kept-arcs =
        ap (λ table. map (event_arc m table) events) q.grown
        ∙ arcs-stay middle.table q.more events p.entered-in

    arcs-after : next.arcs ≡ net.arcs ++ map (event_arc m next.table) (events ++ later)
    arcs-after =
        let at : Event E → Arc = event_arc m next.table in
        q.added ∙ ap (λ l. l ++ map at later) (p.added ∙ ap (λ l. net.arcs ++ l) (sym kept-arcs))
        ∙ append_assoc net.arcs (map at events) (map at later)
        ∙ ap (λ l. net.arcs ++ l) (sym (map-append at events later))

    pub performed-append : Performed m net (events ++ later) next
    performed-append =
        record {
          more = p.more ++ q.more;
          grown = grown-after;
          once = λ u. q.once (p.once u);
          entered-in = entered-after;
          more_entered = more-after;
          added = arcs-after;
        }

  -- ---- one event, and all

  module _ (room : Room) where
    -- an event that enters nothing new
    known-performed : (event : Event E) (a : Arc) (net next : Grown X)
        → ((x : X) → IsIn x (entered (event ∷ [])) → IsIn x net.table)
        → a ≡ event_arc m net.table event → add_arc room a net ≡ answered next
        → Performed m net (event ∷ []) next
    known-performed event a net next h k e =
        subst (Performed m net (event ∷ [])) (arc-added room net a next e).1
        (record {
          more = [];
          grown = sym (append-nil net.table);
          once = λ u. u;
          entered-in = h;
          more_entered = λ x i. absurd i;
          added = ap (λ b. net.arcs ++ (b ∷ [])) k;
        })

    -- an event that enters a new element
    new-performed : (from : ℕ) (x : E) (net next : Grown X)
        → place_from m.same 0 (m.stored x) net.table ≡ none
        → add_both room (m.stored x) (m.arc_into from (length net.table) x) net ≡ answered next
        → Performed m net (enter from x ∷ []) next
    unfolding concat_map entered_by event_arc
    new-performed from x net next k e =
        let (new, end) = place-new m.same tells 0 (m.stored x) net.table k in
        subst (Performed m net (enter from x ∷ [])) (both-added room net (m.stored x) _ next e).2
        (record {
          more = m.stored x ∷ [];
          grown = refl;
          once = λ u. distinct_more net.table (m.stored x) u new;
          entered-in = λ y i. in_right y net.table (m.stored x ∷ []) i;
          more_entered = λ y i. i;
          added = ap (λ place. net.arcs ++ (m.arc_into from place x ∷ [])) (sym end);
        })

    -- an event that enters an element of the table
    found-performed : (from place : ℕ) (x : E) (net next : Grown X)
        → place_from m.same 0 (m.stored x) net.table ≡ some place
        → add_arc room (m.arc_into from place x) net ≡ answered next
        → Performed m net (enter from x ∷ []) next
    unfolding concat_map entered_by event_arc
    found-performed from place x net next k e =
        let (there, at) = place_found m.same tells 0 place (m.stored x) net.table k in
        let here : place ≡ place_of m.same net.table (m.stored x) = omega arith in
        known-performed (enter from x) _ net next
        (λ y i. ⊎_elim (λ f. subst (λ z. IsIn z net.table) (sym f) there) (λ f. absurd f) i)
        (ap (λ p. m.arc_into from p x) here) e

    one-performed : (net : Grown X) (event : Event E) (next : Grown X)
        → perform m room net event ≡ answered next → Performed m net (event ∷ []) next
    unfolding perform concat_map entered_by event_arc
    one-performed net (plain a) next e = known-performed (plain a) a net next (λ x i. absurd i) refl e
    one-performed net (enter from x) next e =
        go (place_from m.same 0 (m.stored x) net.table) refl (judge-answered 0 (m.tests x) _ next e).1
      where
        go : (found : Option ℕ) → place_from m.same 0 (m.stored x) net.table ≡ found
            → elim found [
              | some place ↦ add_arc room (m.arc_into from place x) net
              | none ↦ add_both room (m.stored x) (m.arc_into from (length net.table) x) net
            ] ≡ answered next → Performed m net (enter from x ∷ []) next
        go (some place) k f = found-performed from place x net next k f
        go none k f = new-performed from x net next k f

    -- what performing events leaves
    pub all-performed : (net : Grown X) (events : List (Event E)) (next : Grown X)
        → perform_all m room net events ≡ answered next → Performed m net events next
    unfolding perform_all
    all-performed net [] next e =
        let same : net ≡ next = cc in subst (Performed m net []) same (performed-none net)
    all-performed net (event ∷ events) next e =
        let (middle, first, rest) = and_then-answered (perform m room net event) _ next e in
        performed-append net middle next (event ∷ []) events
        (one-performed net event middle first) (all-performed middle events next rest)
