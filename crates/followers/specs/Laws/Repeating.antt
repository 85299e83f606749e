-- Laws about entering the followers of a metastate: where another with the same shifted matrix has a span,
-- the copies of its arcs are what entering them adds; else they are entered and make a span.
use Rattle.std.specs.Prelude.{◌≡◌, Bool, false, ℕ, zero, suc, ◌+◌, ◌-◌, ◌*◌, ◌/◌, ◌%◌, ◌≤◌, ◌<◌, min, T, drop, get_or, Some, is_some, Result, Ok, Err}
use Rattle.std.proofs.Math.Path.{refl, sym, ap, subst}
use Rattle.std.proofs.Common.{◌∙◌, mod-lt, arith, length-set}
use mathlib.Core.List.{List, ◌++◌, map}
use Rattle.std.proofs.Math.Bool.{true}
use Rattle.std.proofs.Math.Dec.{leb}
use Rattle.std.proofs.Math.ListN.{length, take, length-append}
use Rattle.std.proofs.lemmas.List.{length-map}
use borrow.Author.Tests.{leb-true, leb-false}
use Rattle.definitions.specs.declared.Header.{Header}
use Rattle.definitions.specs.declared.Fault.{Fault}
use Rattle.definitions.specs.declared.Fault.TheVariants.{Tangle}
use Rattle.definitions.specs.Faults.{Outcome, answered, refuse}
use Rattle.definitions.specs.Lists.{◌!◌, concat_map, padded, IsIn}
use Rattle.definitions.specs.PhoneSets.{all_phones}
use Rattle.definitions.specs.Arcs.{Arc, arcs_in, arc_words, last_state}
use Rattle.definitions.specs.Matrices.{shift}
use Rattle.definitions.specs.Tables.{Book}
use Rattle.definitions.specs.Combinations.{Combination}
use Rattle.definitions.specs.Metastates.{Metastate, metastate_size, followers_from, followers}
use Rattle.definitions.specs.Building.{room_in}
use Rattle.definitions.specs.Growing.{plain, enter, Room, perform_all}
use Rattle.definitions.specs.Connecting.{Network, no_metastate, machine_of}
use Rattle.definitions.proofs.Construction.Performing.{Performed, all-performed, event_arc}
use Rattle.definitions.proofs.Laws.Lists.Tests.{by-test}
use Rattle.definitions.proofs.Laws.Text.Judging.{refused-not-answered}
use Rattle.definitions.proofs.Laws.Networks.Metastates.{metastates-told}
use Rattle.tables.specs.Usable.{book_with}
use Rattle.matrix.specs.Shapes.{matrix_in, shifted_words}
use Rattle.matrix.specs.Words.{first_seven}
use Rattle.index.specs.Combinations.{combinations_in, nodes_book}
use Rattle.index.specs.RecordWords.{record_of, IsMetastate}
use Rattle.index.specs.declared.Follower.{Follower}
use Rattle.growing.specs.declared.Sizes.{Sizes}
use Rattle.growing.specs.Steps.{arc_room, sizes_of, step_of}
use Rattle.growing.specs.Laws.KeptMore.{with_arcs, kept-arcs}
use Rattle.growing.specs.Laws.Steps.{held-sizes, next-kept, stop-refused, left-answered, left-refused}
use Rattle.metastates.specs.Networks.{metastate_code, network_held, room_of, NumbersBelow}
use Rattle.metastates.specs.Steps.{StepLeft}
use Rattle.metastates.specs.Outcomes.{followed_from, followed_on}
use Rattle.followers.specs.Turns.{TurnLeft, BetweenTurns, Expandable, Onward}
use Rattle.followers.specs.declared.Span.{Span}
use Rattle.followers.specs.Spans.{span_of, span_in, leaving_from, copies_of, span_size, SlotWithin, place_in, first_in, end_in}
use Rattle.followers.specs.Spans.{noted_in, followers_at, arcs_to, IsSpan, Spanned}
use Rattle.followers.specs.Repeating.{Repeated, Repeats}
use Rattle.followers.specs.Laws.PerformedArcs.{performs-arcs, performs-over}
use Rattle.followers.specs.Laws.Turns.{asked, arcs-asked, inside, shifted-is}
use Rattle.followers.specs.Laws.Spans.{arcs-to-from, spans-stay, spans-noted, span-made, enters-known}

-- ---- the span in a slot

-- a remainder is a slot
pub some-slots : (size : ℕ) → span_size ≤ size → 0 < size / span_size
some-slots size h = omega (arith, h)

pub slot-within : (n size : ℕ) → span_size ≤ size → span_size * (n % (size / span_size)) + span_size ≤ size
slot-within n size h = let l = mod-lt n {m = size / span_size} (some-slots size h) in omega (arith, l)

span-fields : (word first end : ℕ) {span : Span} → span_of word first end ≡ Some span
    → (word ≡ suc span.place) × (first ≡ span.first) × (end ≡ span.end)
span-fields zero first end e = absurd (subst T (sym (ap is_some e)) tt)
span-fields (suc place) first end {span} e =
    let is : record { place = place; first = first; end = end } ≡ span = cc in
    (ap (λ (z : Span). suc z.place) is, ap (λ (z : Span). z.first) is, ap (λ (z : Span). z.end) is)

module _ {header : Header} {nodes words index metastates arcs chains spans : List ℕ} {sizes : Sizes}
    {place : ℕ} {columns : List ℕ}
    (s : Onward header nodes words index metastates arcs chains spans sizes place columns)
  where
    between : BetweenTurns header nodes words index metastates arcs chains spans sizes
    between = s.expandable.between

    abbrev book : Book
    book = nodes_book header nodes

    abbrev cs : List Combination
    cs = combinations_in header words

    abbrev net : Network
    net = network_held header.half sizes metastates arcs

    abbrev room : Room
    room = room_of header.half metastates arcs

    abbrev from : ℕ
    from = last_state header.states place

    abbrev xs : List Metastate
    xs = followers_from (matrix_in header.half columns) 0 cs

    abbrev outcome : Outcome Network
    outcome = followed_on header nodes words metastates arcs sizes place columns

    -- metastates that have the columns after the shift have the same followers
    same-followers : (other : ℕ)
        → shift header.phones (get_or net.table other no_metastate).carried
        ≡ matrix_in header.half columns
        → followers_at book cs net other ≡ xs
    unfolding followers book_with
    same-followers other e = ap (λ (m : List ℕ). followers_from m 0 cs) e

    own-followers : followers_at book cs net place ≡ xs
    own-followers = same-followers place (sym s.shifted)

    -- spans stay, whatever was entered
    abbrev SpannedAfter : (spans : List ℕ) → Type 0
    SpannedAfter l = (next : Network) → outcome ≡ answered next → Spanned book cs next l

    spans-kept : SpannedAfter spans
    spans-kept next e =
        let p : Performed (machine_of book cs) net (map (enter from) xs) next =
        all-performed (machine_of book cs) metastates-told room net (map (enter from) xs) next e in
        spans-stay book cs p.more
        (map (event_arc (machine_of book cs) next.table) (map (enter from) xs)) p.grown
        p.added between.spanned

    -- ---- entered one by one

    spans-after : (slot : ℕ) {next : Sizes} → SlotWithin spans slot → Ok next ≡ step_of outcome
        → SpannedAfter (noted_in spans slot place sizes.arcs next.arcs)
    unfolding step_of book_with
    spans-after slot {next} h a now e =
        let sized : Ok next ≡ Ok (sizes_of now) = a ∙ ap step_of e in
        let same : next ≡ sizes_of now = cc in
        let made : IsSpan book cs now place (length net.arcs) (length now.arcs) =
        span-made book cs room net now place
        (inside s.expandable)
        (subst
        (λ (l : List Metastate). perform_all (machine_of book cs) room net (map (enter from) l) ≡ answered now)
        (sym own-followers) e) in
        rw (sym (arcs-asked s.expandable), same)
        (spans-noted book cs (spans-kept now e) slot place (length net.arcs) (length now.arcs) h made)

    -- from the state that the code computed
    module _ {state : ℕ} (at : state ≡ from) {answer : Result Sizes Fault} {metastates' arcs' chains' : List ℕ}
        (left : StepLeft header words metastates arcs chains
        (followed_from header nodes words metastates arcs sizes state columns)
        answer metastates' arcs' chains')
      where
        followed-on : {same : Result Sizes Fault} → answer ≡ same
            → StepLeft header words metastates arcs chains outcome same metastates' arcs' chains'
        followed-on e =
            subst (λ (z : Result Sizes Fault). StepLeft header words metastates arcs chains outcome z
            metastates' arcs' chains') e
            (subst (λ (z : ℕ). StepLeft header words metastates arcs chains
            (followed_from header nodes words metastates arcs sizes z columns)
            answer metastates' arcs' chains') at left)

        pub followed-few : {next : Sizes} → answer ≡ Ok next → next.arcs ≤ 999999
        unfolding room_in
        followed-few {next} e =
            let sized = held-sizes (metastate_code header.half) next metastates' arcs' in
            omega (arith, (next-kept left.step e).arc-room, ap (λ (z : Sizes). z.arcs) sized)

        pub followed-noted : (slot : ℕ) {next : Sizes} {spans' : List ℕ} → SlotWithin spans slot
            → answer ≡ Ok next → spans' ≡ noted_in spans slot place sizes.arcs next.arcs
            → TurnLeft header nodes words metastates arcs chains spans outcome (Ok next)
            metastates' arcs' chains' spans'
        followed-noted slot h e is =
            record {
              left = followed-on e;
              spans_sized = ap length is ∙ simp length-set refl;
              spanned = subst SpannedAfter (sym is) (spans-after slot h (followed-on e).step.answers);
            }

        -- a refused step leaves nothing to say of spans
        pub followed-refused : {fault : Fault} → answer ≡ Err fault
            → TurnLeft header nodes words metastates arcs chains spans outcome (Err fault)
            metastates' arcs' chains' spans
        followed-refused e =
            record {
              left = followed-on e;
              spans_sized = refl;
              spanned = λ n k. absurd (stop-refused (followed-on e).step refl n k);
            }

    -- ---- copied

    module _ (slot : ℕ) {there : Span} (h : SlotWithin spans slot) (noted-there : span_in spans slot ≡ Some there)
        {answer : Bool} (repeats : Repeats header metastates there.place columns answer) (yes : answer ≡ true)
      where
        abbrev other : ℕ
        other = there.place

        abbrev first : ℕ
        first = there.first

        abbrev end : ℕ
        end = there.end

        alike : shifted_words (2 * header.half) (all_phones (min header.phones 64))
            (first_seven (drop 1 (record_of (metastate_size header.half) metastates other))) ≡ columns
        alike = repeats yes

        span : IsSpan book cs net other first end
        span =
            let (is, f, e) = span-fields (place_in spans slot) (first_in spans slot) (end_in spans slot) noted-there in
            subst (λ (z : ℕ). IsSpan book cs net other first z) e
            (subst (λ (z : ℕ). IsSpan book cs net other z (end_in spans slot)) f
            (between.spanned.each slot other h is))

        theirs : Expandable header nodes words index metastates arcs chains spans sizes other
        theirs =
            record {
              between = between;
              listed = omega (arith, span.listed, ap (λ (z : Sizes). z.table) (asked s.expandable));
            }

        -- the metastate that is noted
        noted : Follower
        noted = record {
          number = record_of (metastate_size header.half) metastates other ! 0;
          met = record { columns = first_seven (drop 1 (record_of (metastate_size header.half) metastates other)) };
        }

        followers-are : followers_at book cs net other ≡ xs
        unfolding noted
        followers-are =
            let own : IsMetastate header.half metastates other noted =
            record { number_is = refl; columns_are = refl } in
            same-followers other (sym (shifted-is theirs own refl refl (sym alike)))

        many : end - first ≡ length xs
        many = omega (arith, span.counted, ap length followers-are)

        pub span-order : first ≤ end
        span-order = omega (arith, span.counted)

        pub span-within : end ≤ sizes.arcs
        span-within = omega (arith, span.within, arcs-asked s.expandable)

        abbrev copies : List Arc
        copies = copies_of from first (end - first) (arcs_in sizes.arcs arcs)

        copies-are : copies ≡ arcs_to book cs net.table from xs
        unfolding book_with
        copies-are =
            ap (map (leaving_from from))
            (ap (λ (n : ℕ). take n (drop first net.arcs)) (many ∙ sym (ap length followers-are))
            ∙ span.arcs)
            ∙ arcs-to-from book cs net.table from (last_state header.states other)
            (followers_at book cs net other)
            ∙ ap (arcs_to book cs net.table from) followers-are

        copies-many : length copies ≡ end - first
        copies-many = ap length copies-are ∙ length-map xs _ ∙ sym many

        outcome-is : outcome ≡ perform_all (machine_of book cs) room net (map plain copies)
        outcome-is =
            enters-known book cs room net from xs
            (λ x i. span.known x (subst (IsIn x) (sym followers-are) i))
            ∙ ap (λ (l : List Arc). perform_all (machine_of book cs) room net (map plain l)) (sym copies-are)

        repeated : {answer : Result Sizes Fault} {arcs' : List ℕ} → Repeated sizes first end from arcs answer arcs'
            → StepLeft header words metastates arcs chains outcome answer metastates arcs' chains
        unfolding room_in
        repeated {answer} {arcs'} r =
            by-test (leb (sizes.arcs + (end - first)) (arc_room arcs)) goes stops
          where
            goes : leb (sizes.arcs + (end - first)) (arc_room arcs) ≡ true
                → StepLeft header words metastates arcs chains outcome answer metastates arcs' chains
            goes t =
                let few = leb-true (sizes.arcs + (end - first)) (arc_room arcs) t in
                let fits : length net.arcs + length copies ≤ arc_room arcs =
                omega (arith, few, arcs-asked s.expandable, copies-many) in
                let w : arcs' ≡ padded (length arcs) (concat_map arc_words (net.arcs ++ copies)) =
                r.words ∙ rw t in
                let done : outcome ≡ answered (with_arcs net copies) =
                outcome-is ∙ performs-arcs book cs room net copies fits in
                let sized : record { table = sizes.table; arcs = sizes.arcs + (end - first) }
                ≡ sizes_of (with_arcs net copies) =
                let more : sizes.arcs + (end - first) ≡ length (net.arcs ++ copies) =
                omega (arith, arcs-asked s.expandable, copies-many, length-append net.arcs copies) in
                λ i. record { table = (sym (asked s.expandable) i).table; arcs = more i } in
                let (size, kept) = kept-arcs between.underway.kept copies fits w in
                record {
                  step =
                      left-answered refl size refl (with_arcs net copies) done
                      (r.answers ∙ rw t (ap (λ (z : Sizes). Ok z) sized)) kept;
                  numbers = λ n e.
                      let both : answered (with_arcs net copies) ≡ answered n = sym done ∙ e in
                      let same : with_arcs net copies ≡ n = cc in
                      subst (λ (z : Network). NumbersBelow (length cs) z.table) same between.underway.numbers;
                }

            stops : leb (sizes.arcs + (end - first)) (arc_room arcs) ≡ false
                → StepLeft header words metastates arcs chains outcome answer metastates arcs' chains
            stops t =
                let many = leb-false (sizes.arcs + (end - first)) (arc_room arcs) t in
                let none : outcome ≡ refuse Tangle 0 =
                outcome-is ∙ performs-over book cs room net copies between.underway.kept.arc-room
                (omega (arith, many, arcs-asked s.expandable, copies-many)) in
                let same : arcs' ≡ arcs = r.words ∙ rw t in
                record {
                  step = left-refused refl (ap length same) refl Tangle none (r.answers ∙ rw t);
                  numbers = λ n e. absurd (refused-not-answered outcome Tangle 0 n none e);
                }

        pub repeated-on : {state : ℕ} {answer : Result Sizes Fault} {arcs' : List ℕ} → state ≡ from
            → Repeated sizes first end state arcs answer arcs'
            → TurnLeft header nodes words metastates arcs chains spans outcome answer
            metastates arcs' chains spans
        repeated-on {answer = answer} {arcs'} d r =
            record {
              left = repeated (subst (λ (z : ℕ). Repeated sizes first end z arcs answer arcs') d r);
              spans_sized = refl;
              spanned = spans-kept;
            }
