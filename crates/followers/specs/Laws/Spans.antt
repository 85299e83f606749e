-- Laws about spans: a span stays when the network grows; entering the followers of a metastate makes one; and
-- entering the same followers from another state only adds copies of its arcs.
use Rattle.std.specs.Prelude.{◌≡◌, ℕ, suc, ◌+◌, ◌-◌, ◌*◌, ◌≤◌, ◌<◌, length, take, drop, get_or, set, ltb, eqb}
use Rattle.std.proofs.Math.Path.{refl, ap}
use Rattle.std.proofs.Common.{sym, ap₂, ◌∙◌, subst, inl, inr, le_refl, arith, length-append, length-set, length-drop, get_or-set_same, get_or-set_other, take_all, eqb-true}
use mathlib.Core.List.{List, [], ◌∷◌, ◌++◌, map, map-id}
use Rattle.std.proofs.Math.Option.{Option, none, some}
use Rattle.std.proofs.lemmas.List.{length-map, length-replicate, get_or-replicate, take-append-le, drop-append-le}
use Rattle.std.proofs.Math.ListN.{get_or-append}
use Rattle.std.proofs.Math.Seq.{drop-append_seam}
use Rattle.std.proofs.lemmas.Bool.{eqb-false}
use Rattle.definitions.specs.Faults.{Outcome, answered, and_then, judge}
use Rattle.definitions.specs.Lists.{◌!◌, cleared, IsIn, place_of}
use Rattle.definitions.specs.Tables.{Book}
use Rattle.definitions.specs.Combinations.{Combination}
use Rattle.definitions.specs.Arcs.{Arc, last_state}
use Rattle.definitions.specs.Metastates.{Metastate, followers, same_metastate}
use Rattle.definitions.specs.Growing.{plain, enter, Room, add_arc, add_both, perform, perform_all}
use Rattle.definitions.specs.Connecting.{rules_of, arc_into, Network, no_metastate, machine_of}
use Rattle.definitions.proofs.Laws.Lists.Tests.{by-test}
use Rattle.definitions.proofs.Laws.Networks.Limits.{with_arc}
use Rattle.definitions.proofs.Laws.Lists.Members.{in_left}
use Rattle.definitions.proofs.Laws.Lists.Places.{place-stays}
use Rattle.definitions.proofs.Construction.Table.{place_known}
use Rattle.definitions.proofs.Construction.Performing.{Performed, all-performed}
use Rattle.definitions.proofs.Construction.Turning.{entered-enter}
use Rattle.definitions.proofs.Construction.Finished.{enter-arcs}
use Rattle.definitions.proofs.Laws.Networks.Metastates.{metastates-told}
use Rattle.followers.specs.Spans.{leaving_from, span_size, SlotWithin, place_in, first_in, end_in, noted_in}
use Rattle.followers.specs.Spans.{followers_at, arcs_to, IsSpan, Spanned}

module _ (book : Book) (combinations : List Combination) where
  -- ---- the arcs to metastates of a table

  -- they stay when the table grows
  arcs-to-stay : (table more : List Metastate) (from : ℕ) (xs : List Metastate)
      → ((x : Metastate) → IsIn x xs → IsIn x table)
      → arcs_to book combinations (table ++ more) from xs ≡ arcs_to book combinations table from xs
  arcs-to-stay table more from [] h = refl
  arcs-to-stay table more from (x ∷ xs) h =
      ap₂ (λ (place : ℕ) (l : List Arc). arc_into (rules_of book combinations) from place x ∷ l)
      (place-stays same_metastate metastates-told x table more (h x (inl refl)))
      (arcs-to-stay table more from xs (λ y i. h y (inr i)))

  -- another source gives the arcs from that state
  pub arcs-to-from : (table : List Metastate) (from other : ℕ) (xs : List Metastate)
      → map (leaving_from from) (arcs_to book combinations table other xs)
      ≡ arcs_to book combinations table from xs
  unfolding leaving_from arc_into
  arcs-to-from table from other [] = refl
  arcs-to-from table from other (x ∷ xs) =
      ap (λ (l : List Arc). arc_into (rules_of book combinations) from (place_of same_metastate table x) x ∷ l)
      (arcs-to-from table from other xs)

  -- ---- a span stays when the network grows

  pub span-stays : {net next : Network} (more : List Metastate) (added : List Arc) {place first end : ℕ}
      → next.table ≡ net.table ++ more → next.arcs ≡ net.arcs ++ added
      → IsSpan book combinations net place first end → IsSpan book combinations next place first end
  span-stays {net} {next} more added {place} {first} {end} grown longer s =
      let xs : List Metastate = followers_at book combinations net place in
      let there : get_or next.table place no_metastate ≡ get_or net.table place no_metastate =
      ap (λ (l : List Metastate). get_or l place no_metastate) grown
      ∙ get_or-append net.table more no_metastate place s.listed in
      let same : followers_at book combinations next place ≡ xs = ap (followers book combinations) there in
      let n : ℕ = length xs in
      let sized : length (drop first net.arcs) ≡ length net.arcs - first =
      length-drop first net.arcs in
      record {
        listed = omega (arith, s.listed, ap length grown, length-append net.table more);
        known = λ x i.
            subst (IsIn x) (sym grown)
            (in_left x net.table more (s.known x (subst (IsIn x) same i)));
        within = omega (arith, s.within, ap length longer, length-append net.arcs added);
        counted = s.counted ∙ ap (λ (l : List Metastate). first + length l) (sym same);
        arcs =
            rw (same, longer, grown)
            (ap (take n) (drop-append-le first net.arcs added (omega (arith, s.within, s.counted)))
            ∙ take-append-le n (drop first net.arcs) added
            (omega (arith, s.within, s.counted, sized))
            ∙ s.arcs ∙ sym (arcs-to-stay net.table more (last_state book.states place) xs s.known));
      }

  pub spans-stay : {net next : Network} (more : List Metastate) (added : List Arc) {spans : List ℕ}
      → next.table ≡ net.table ++ more → next.arcs ≡ net.arcs ++ added
      → Spanned book combinations net spans → Spanned book combinations next spans
  spans-stay more added grown longer s =
      record { each = λ slot place h e. span-stays more added grown longer (s.each slot place h e) }

  -- ---- no spans, and one more

  not_noted : (word place : ℕ) → word ≡ 0 → word ≡ suc place → ⊥
  not_noted word place e f = omega (arith, e, f)

  in_words : (slot size : ℕ) → span_size * slot + span_size ≤ size → span_size * slot < size
  in_words slot size h = omega (arith, h)

  no-spans : (net : Network) (size : ℕ) → Spanned book combinations net (cleared size)
  no-spans net size = record { each = λ slot place h e. absurd (none-noted slot place h e) }
    where
      none-noted : (slot place : ℕ) → SlotWithin (cleared size) slot
          → place_in (cleared size) slot ≡ suc place → ⊥
      none-noted slot place h e =
          let within : span_size * slot + span_size ≤ size =
          subst (λ (n : ℕ). span_size * slot + span_size ≤ n) (length-replicate {A = ℕ} size 0) h in
          let none : place_in (cleared size) slot ≡ 0 =
          get_or-replicate {A = ℕ} size (span_size * slot) 0 0 (in_words slot size within) in
          not_noted (place_in (cleared size) slot) place none e

  pub no-spans-in : {spans : List ℕ} (net : Network) → spans ≡ cleared (length spans)
      → Spanned book combinations net spans
  no-spans-in {spans} net e = subst (Spanned book combinations net) (sym e) (no-spans net (length spans))

  -- the words of a span put into its slot
  module _ {net : Network} {spans : List ℕ} (s : Spanned book combinations net spans)
      (slot place first end : ℕ)
      (h : SlotWithin spans slot) where
    abbrev at : ℕ
    at = span_size * slot

    abbrev noted : List ℕ
    noted = noted_in spans slot place first end

    noted-length : length noted ≡ length spans
    noted-length = simp length-set refl

    elsewhere : (i : ℕ) → (i ≡ at → ⊥) → (i ≡ at + 1 → ⊥) → (i ≡ at + 2 → ⊥) → (noted ! i) ≡ (spans ! i)
    elsewhere i e f g =
        get_or-set_other (set (set spans at (place + 1)) (at + 1) first) (at + 2) i end 0 g
        ∙ get_or-set_other (set spans at (place + 1)) (at + 1) i first 0 f
        ∙ get_or-set_other spans at i (place + 1) 0 e

    noted-place : place_in noted slot ≡ place + 1
    noted-place =
        get_or-set_other (set (set spans at (place + 1)) (at + 1) first) (at + 2) at end 0
        (λ e. omega (arith, e))
        ∙ get_or-set_other (set spans at (place + 1)) (at + 1) at first 0 (λ e. omega (arith, e))
        ∙ get_or-set_same spans at (place + 1) 0 (omega (arith, h))

    noted-first : first_in noted slot ≡ first
    noted-first =
        get_or-set_other (set (set spans at (place + 1)) (at + 1) first) (at + 2) (at + 1) end 0
        (λ e. omega (arith, e))
        ∙ get_or-set_same (set spans at (place + 1)) (at + 1) first 0 (simp length-set (omega (arith, h)))

    noted-end : end_in noted slot ≡ end
    noted-end =
        get_or-set_same (set (set spans at (place + 1)) (at + 1) first) (at + 2) end 0
        (simp length-set (omega (arith, h)))

    -- what a slot has then
    abbrev Has : ℕ → Type 0
    Has other =
        (p : ℕ) → place_in noted other ≡ suc p
        → IsSpan book combinations net p (first_in noted other) (end_in noted other)

    own-has : IsSpan book combinations net place first end → Has slot
    own-has new p e =
        let same : place ≡ p = omega (arith, e, noted-place) in
        rw (noted-first, noted-end)
        (subst (λ (j : ℕ). IsSpan book combinations net j first end) same new)

    other-has : (other : ℕ) → SlotWithin spans other → (other ≡ slot → ⊥) → Has other
    other-has other l n p e =
        let same : (j : ℕ) → j < 3 → (noted ! (span_size * other + j)) ≡ (spans ! (span_size * other + j)) =
        λ j m. elsewhere (span_size * other + j) (λ f. n (omega (arith, f, m))) (λ f. n (omega (arith, f, m)))
        (λ f. n (omega (arith, f, m))) in
        let zero_more : span_size * other ≡ span_size * other + 0 = omega arith in
        let there : place_in noted other ≡ place_in spans other =
        subst (λ (j : ℕ). (noted ! j) ≡ (spans ! j)) (sym zero_more) (same 0 (omega arith)) in
        rw (same 1 (omega arith), same 2 (omega arith)) (s.each other p l (sym there ∙ e))

    pub spans-noted : IsSpan book combinations net place first end
        → Spanned book combinations net (noted_in spans slot place first end)
    spans-noted new = record { each = λ other p l. has other l p }
      where
        has : (other : ℕ) → SlotWithin noted other → Has other
        has other l =
            let within : SlotWithin spans other = omega (arith, l, noted-length) in
            by-test (eqb other slot)
            (λ t. subst Has (sym (eqb-true other slot t)) (own-has new))
            (λ t. other-has other within (eqb-false other slot t))

  module _ (room : Room) where
    -- ---- entering the followers of a metastate makes a span

    pub span-made : (net next : Network) (place : ℕ) → place < length net.table
        → perform_all (machine_of book combinations) room net
        (map (enter (last_state book.states place)) (followers_at book combinations net place))
        ≡ answered next
        → IsSpan book combinations next place (length net.arcs) (length next.arcs)
    span-made net next place h e =
        let from : ℕ = last_state book.states place in
        let xs : List Metastate = followers_at book combinations net place in
        let p : Performed (machine_of book combinations) net (map (enter from) xs) next =
        all-performed (machine_of book combinations) metastates-told room net (map (enter from) xs) next e in
        let there : get_or next.table place no_metastate ≡ get_or net.table place no_metastate =
        ap (λ (l : List Metastate). get_or l place no_metastate) p.grown
        ∙ get_or-append net.table p.more no_metastate place h in
        let same : followers_at book combinations next place ≡ xs = ap (followers book combinations) there in
        let added : next.arcs ≡ net.arcs ++ arcs_to book combinations next.table from xs =
        p.added
        ∙ ap (λ (l : List Arc). net.arcs ++ l)
        (enter-arcs (rules_of book combinations) next.table from xs) in
        let many : length (arcs_to book combinations next.table from xs) ≡ length xs = length-map xs _ in
        record {
          listed = omega (arith, h, ap length p.grown, length-append net.table p.more);
          known = λ x i.
              p.entered-in x
              (subst (IsIn x) (sym (entered-enter (machine_of book combinations) from xs ∙ map-id xs))
              (subst (IsIn x) same i));
          within = omega arith;
          counted =
              ap length added ∙ length-append net.arcs _
              ∙ ap (λ (n : ℕ). length net.arcs + n) (many ∙ sym (ap length same));
          arcs =
              rw (same, added, drop-append_seam net.arcs (arcs_to book combinations next.table from xs))
              (ap (λ (n : ℕ). take n (arcs_to book combinations next.table from xs)) (sym many)
              ∙ take_all (length (arcs_to book combinations next.table from xs))
              (arcs_to book combinations next.table from xs) (le_refl _));
        }

    -- ---- entering metastates of the table only adds arcs

    enter-known : (net : Network) (from : ℕ) (x : Metastate) → IsIn x net.table
        → perform (machine_of book combinations) room net (enter from x)
        ≡ add_arc room (arc_into (rules_of book combinations) from (place_of same_metastate net.table x) x) net
    unfolding perform judge
    enter-known net from x h =
        ap (λ (found : Option ℕ). elim found [
          | some place ↦ add_arc room (arc_into (rules_of book combinations) from place x) net
          | none ↦ add_both room x (arc_into (rules_of book combinations) from (length net.table) x) net
        ]) (place_known same_metastate metastates-told x net.table h)

    -- what comes after an arc is asked only where it was added
    after-arc : (net : Network) (a : Arc) (f g : Network → Outcome Network)
        → f (with_arc net a) ≡ g (with_arc net a)
        → and_then (add_arc room a net) f ≡ and_then (add_arc room a net) g
    unfolding add_arc and_then
    after-arc net a f g e = by-test (ltb (length net.arcs) room.arcs) (λ t. rw t e) (λ t. rw t)

    pub enters-known : (net : Network) (from : ℕ) (xs : List Metastate)
        → ((x : Metastate) → IsIn x xs → IsIn x net.table)
        → perform_all (machine_of book combinations) room net (map (enter from) xs)
        ≡ perform_all (machine_of book combinations) room net
        (map plain (arcs_to book combinations net.table from xs))
    unfolding perform_all perform
    enters-known net from [] h = refl
    enters-known net from (x ∷ xs) h =
        let a : Arc = arc_into (rules_of book combinations) from (place_of same_metastate net.table x) x in
        let later : Network → Outcome Network = λ next.
        perform_all (machine_of book combinations) room next (map (enter from) xs) in
        ap (λ (o : Outcome Network). and_then o later) (enter-known net from x (h x (inl refl)))
        ∙ after-arc net a later
        (λ next. perform_all (machine_of book combinations) room next
        (map plain (arcs_to book combinations net.table from xs)))
        (enters-known (with_arc net a) from xs (λ y i. h y (inr i)))
