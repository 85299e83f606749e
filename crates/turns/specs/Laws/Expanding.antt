-- Laws about a turn: the own arcs of a metastate and the arc to FINAL appended, then the arcs to its followers; one law
-- for each answer.
use Rattle.definitions.specs.declared.Fault.{Fault}
use Rattle.std.specs.Prelude.{◌≡◌, refl, ℕ, ◌+◌, ◌*◌, ◌≤◌, ◌<◌, min, length, take, drop, get_or, Result, Ok, Err}
use Rattle.std.proofs.Common.{sym, ◌∙◌, subst, arith, length-append}
use Rattle.std.proofs.Math.Path.{ap}
use mathlib.Core.List.{List, [], ◌++◌, map, map-append, append-nil}
use Rattle.definitions.specs.declared.Header.{Header}
use Rattle.definitions.specs.declared.Fault.TheVariants.{Tangle}
use Rattle.definitions.specs.Faults.{Outcome, refuse, and_then}
use Rattle.definitions.specs.PhoneSets.{all_phones}
use Rattle.definitions.specs.Arcs.{Arc, arc_size, last_state}
use Rattle.definitions.specs.Matrices.{shift}
use Rattle.definitions.specs.Tables.{Book}
use Rattle.definitions.specs.Combinations.{Combination}
use Rattle.definitions.specs.Metastates.{Metastate, followers_from, followers}
use Rattle.definitions.specs.Building.{room_in}
use Rattle.definitions.specs.Growing.{Event, plain, enter, Room, perform_all, expand}
use Rattle.definitions.specs.Connecting.{rules_of, final_arcs, turn_events, Network, no_metastate, machine_of}
use Rattle.definitions.proofs.Laws.Text.Judging.{refused-not-answered}
use Rattle.definitions.proofs.Laws.Networks.Metastates.{metastates-equal}
use Rattle.tables.specs.Usable.{book_with}
use Rattle.matrix.specs.Shapes.{matrix_in, shifted_words}
use Rattle.index.specs.declared.Follower.{Follower}
use Rattle.index.specs.RecordWords.{IsMetastate}
use Rattle.index.specs.Combinations.{combinations_in, nodes_book}
use Rattle.growing.specs.declared.Sizes.{Sizes}
use Rattle.growing.specs.Kept.{Kept}
use Rattle.growing.specs.Steps.{arc_room, sizes_of, step_of}
use Rattle.growing.specs.Laws.KeptBack.{kept_back}
use Rattle.growing.specs.Laws.KeptMore.{with_arcs}
use Rattle.growing.specs.Laws.Steps.{left-refused}
use Rattle.metastates.specs.Networks.{metastate_code, network_held, room_of, Holds}
use Rattle.metastates.specs.Outcomes.{metastate_of, followed_on, expanded_at}
use Rattle.metastates.specs.Laws.HeldBack.{same-room}
use Rattle.metastates.specs.Laws.HeldRows.{held_number}
use Rattle.followers.specs.Turns.{TurnLeft, Expandable, Onward}
use Rattle.followers.specs.Spans.{Spanned}
use Rattle.followers.specs.Laws.Spans.{spans-stay}
use Rattle.growing.specs.Laws.Performing.{performed-parts}
use Rattle.followers.specs.Laws.PerformedArcs.{performs-arcs, performs-over}
use Rattle.followers.specs.Laws.Turns.{connectable, underway, thin, asked, arcs-asked, inside, number-known}
use Rattle.followers.specs.Laws.Turns.{place_few, matrix-is, shifted-is, shifted-wide}
use Rattle.turns.specs.declared.Arcs.{Arcs}
use Rattle.turns.specs.Arcs.{AreArcs, ArcsAdded, own_of, plain_of}
use Rattle.turns.specs.Laws.PlainArcs.{plain-count-few}
use Rattle.turns.specs.Laws.Appended.{added-none, added-all, appended-length, holds-appended}

module _ {header : Header} {nodes combinations index metastates arcs chains spans : List ℕ} {sizes : Sizes}
    {place : ℕ} (s : Expandable header nodes combinations index metastates arcs chains spans sizes place)
  where
    abbrev book : Book
    book = nodes_book header nodes

    abbrev cs : List Combination
    cs = combinations_in header combinations

    abbrev net : Network
    net = network_held header.half sizes metastates arcs

    abbrev x : Metastate
    x = get_or net.table place no_metastate

    -- ---- its arcs

    module _ {q : Follower} (is : IsMetastate header.half metastates place q) where
      abbrev columns : List ℕ
      columns = q.met.columns

      abbrev read : Metastate
      read = metastate_of header.half q

      module _ {new : Arcs} (n : AreArcs new (plain_of header nodes combinations place read)) where
        abbrev added : List Arc
        added = plain_of header nodes combinations place x

        are : AreArcs new added
        are =
            subst (λ (y : Metastate). AreArcs new (plain_of header nodes combinations place y))
            (metastates-equal read x (held_number (underway s) place (inside s) (thin s) is) (matrix-is s is)) n

        pub new-few : new.count ≤ 3
        new-few =
            plain-count-few x
            (record { connectable = connectable s; listed = number-known s; few = (place_few s) }) are

        -- a turn is its arcs, then the arcs to its followers
        abbrev onward : List (Event Metastate)
        onward =
            map (enter (last_state header.states place))
            (followers_from (shift header.phones x.carried) 0 cs)

        turn_is : (room : Room)
            → expand (machine_of book cs) room place net
            ≡ and_then (perform_all (machine_of book cs) room net (map plain added))
            (λ next. perform_all (machine_of book cs) room next onward)
        unfolding expand turn_events followers book_with
        turn_is room =
            ap (λ (l : List (Event Metastate)). perform_all (machine_of book cs) room net (l ++ onward))
            (sym (map-append plain (own_of header nodes combinations place x)
            (final_arcs (rules_of book cs) place x)))
            ∙ performed-parts (machine_of book cs) room net (map plain added) onward

        abbrev room : Room
        room = room_of header.half metastates arcs

        abbrev outcome : Outcome Network
        outcome = expanded_at header nodes combinations metastates arcs sizes place

        module _ {answer : Result Sizes Fault} {arcs' : List ℕ} (r : ArcsAdded sizes new arcs answer arcs') where
          -- ---- no room for all of them

          no-turn : arc_room arcs < sizes.arcs + new.count → outcome ≡ refuse Tangle 0
          unfolding room_in and_then
          no-turn over =
              turn_is room
              ∙ ap (λ (o : Outcome Network).
              and_then o (λ next. perform_all (machine_of book cs) room next onward))
              (performs-over book cs room net added (underway s).kept.arc-room
              (omega (arith, over, (arcs-asked s), are.counted)))

          pub turn-stops : {fault : Fault} → answer ≡ Err fault
              → TurnLeft header nodes combinations metastates arcs chains spans outcome (Err fault)
              metastates arcs' chains spans
          turn-stops {fault} e =
              let (over, same, tangle) = added-none r e in
              let none = no-turn over in
              record {
                left = record {
                  step = left-refused refl (ap length same) refl Tangle none (ap Err (sym tangle));
                  numbers = λ next e. absurd (refused-not-answered outcome Tangle 0 next none e);
                };
                spans_sized = refl;
                spanned = λ next e. absurd (refused-not-answered outcome Tangle 0 next none e);
              }

          -- ---- room

          module _ {next : Sizes} (t : answer ≡ Ok next) where
            fits : length net.arcs + length added ≤ arc_room arcs
            fits = omega (arith, (arcs-asked s), are.counted, (added-all r t).0)

            arcs-are : arcs'
                ≡ take (arc_size * length net.arcs) arcs ++ take (arc_size * new.count) new.words
                ++ drop (arc_size * length net.arcs + arc_size * new.count) arcs
            arcs-are = (added-all r t).1 ∙ rw (arcs-asked s)

            held_next : Holds header.half (length cs) (with_arcs net added) metastates arcs' chains
            held_next =
                subst (λ (l : List ℕ).
                Holds header.half (length cs) (with_arcs net added) metastates l chains)
                (sym arcs-are) (holds-appended (underway s) new added are fits)

            as_long : length arcs' ≡ length arcs
            as_long = ap length arcs-are ∙ appended-length (underway s) new added are fits

            sizes-are : next ≡ sizes_of (with_arcs net added)
            sizes-are =
                let more : sizes.arcs + new.count ≡ length (net.arcs ++ added) =
                omega (arith, (arcs-asked s), are.counted, length-append net.arcs added) in
                sym (added-all r t).2 ∙ (λ i. record { table = (sym (asked s) i).table; arcs = more i })

            net-is : network_held header.half next metastates arcs' ≡ with_arcs net added
            net-is =
                ap (λ (z : Sizes). network_held header.half z metastates arcs') sizes-are
                ∙ kept_back held_next.kept

            next-holds : Holds header.half (length cs)
                (network_held header.half next metastates arcs') metastates arcs' chains
            next-holds =
                subst (λ (z : Network). Holds header.half (length cs) z metastates arcs' chains)
                (sym net-is) held_next

            -- ---- the followers

            -- what they start from
            pub next-onward : {half all : ℕ} {shifted : List ℕ} → half ≡ header.half
                → all ≡ all_phones (min header.phones 64)
                → shifted ≡ shifted_words (2 * half) all columns
                → Onward header nodes combinations index metastates arcs' chains spans next place shifted
            next-onward {shifted = shifted} l a f =
                record {
                  expandable = record {
                    between = record {
                      searchable = s.between.searchable;
                      underway = next-holds;
                      slots = s.between.slots;
                      spanned =
                          subst (λ (z : Network). Spanned book cs z spans) (sym net-is)
                          (spans-stay book cs [] added (sym (append-nil net.table)) refl
                          s.between.spanned);
                    };
                    listed = subst (λ (z : Sizes). place < z.table) (added-all r t).2 s.listed;
                  };
                  shaped = shifted-wide s is l a f;
                  shifted =
                      subst (λ (z : Sizes). matrix_in header.half shifted
                      ≡ shift header.phones
                      (get_or (network_held header.half z metastates arcs').table place no_metastate).carried)
                      (added-all r t).2 (shifted-is s is l a f);
                }

            abbrev following : (shifted : List ℕ) → Outcome Network
            following shifted = followed_on header nodes combinations metastates arcs' next place shifted

            followed : (shifted : List ℕ)
                → matrix_in header.half shifted ≡ shift header.phones x.carried
                → following shifted ≡ outcome
            unfolding and_then room_in
            followed shifted is =
                rw (as_long, net-is, is)
                (sym (turn_is room
                ∙ ap (λ (o : Outcome Network).
                and_then o (λ next. perform_all (machine_of book cs) room next onward))
                (performs-arcs book cs room net added fits)))

            module _ {half all : ℕ} {shifted : List ℕ} (l : half ≡ header.half)
                (a : all ≡ all_phones (min header.phones 64))
                (f : shifted ≡ shifted_words (2 * half) all q.met.columns)
              where
                same : following shifted ≡ outcome
                same = followed shifted (shifted-is s is l a f)

                pub turn-goes : {answer : Result Sizes Fault} {metastates'' arcs'' chains'' spans'' : List ℕ}
                    → TurnLeft header nodes combinations metastates arcs' chains spans
                    (following shifted) answer metastates'' arcs'' chains'' spans''
                    → TurnLeft header nodes combinations metastates arcs chains spans outcome answer
                    metastates'' arcs'' chains'' spans''
                turn-goes {metastates'' = metastates''} {arcs''} {chains''} turn =
                    let after = turn.left.step in
                    record {
                      left = record {
                        step = record {
                          answers = after.answers ∙ ap step_of same;
                          holds = λ n k.
                              subst (λ r. Kept (metastate_code header.half) r n metastates'' arcs'' chains'')
                              (same-room header.half metastates metastates arcs' arcs refl (sym as_long))
                              (after.holds n (same ∙ k));
                          table-sized = after.table-sized;
                          arcs-sized = after.arcs-sized ∙ as_long;
                          chains_sized = after.chains_sized;
                        };
                        numbers = λ n k. turn.left.numbers n (same ∙ k);
                      };
                      spans_sized = turn.spans_sized;
                      spanned = λ n k. turn.spanned n (same ∙ k);
                    }
