-- Laws about connecting: cleared words hold no network and are words to work with; then the start and the
-- turns, or a refused start.
use Rattle.std.specs.Prelude.{◌≡◌, List, ℕ, ◌/◌, ◌≤◌, ◌<◌, length, Result, Ok, Err}
use Rattle.std.proofs.Common.{sym, ◌∙◌, subst, arith}
use Rattle.std.proofs.Math.Path.{ap}
use Rattle.std.proofs.lemmas.List.{length-replicate}
use Rattle.definitions.specs.declared.Header.{Header}
use Rattle.definitions.specs.declared.Fault.{Fault}
use Rattle.definitions.specs.declared.Refusal.{Refusal}
use Rattle.definitions.specs.Said.{result_of}
use Rattle.definitions.specs.Faults.{Outcome, answered, and_then}
use Rattle.definitions.specs.Lists.{concat_map, cleared, padded}
use Rattle.definitions.specs.Tables.{Book}
use Rattle.definitions.specs.Combinations.{Combination}
use Rattle.definitions.specs.Arcs.{arc_words}
use Rattle.definitions.specs.Metastates.{metastate_words}
use Rattle.definitions.specs.Building.{room_in, network_in}
use Rattle.definitions.specs.Growing.{Room, turns_from, grow}
use Rattle.definitions.specs.Connecting.{rules_of, start_events, Network, no_network, machine_of}
use Rattle.definitions.proofs.Laws.Text.RefusalLines.{performs-line}
use Rattle.index.specs.Combinations.{combinations_in, nodes_book}
use Rattle.index.specs.Filling.{Fillable, Filled}
use Rattle.index.specs.Laws.RecordWords.{combinations-length}
use Rattle.index.specs.Laws.Filling.{indexed}
use Rattle.growing.specs.declared.Sizes.{Sizes}
use Rattle.growing.specs.Chains.{heads_in}
use Rattle.growing.specs.Steps as growing
use Rattle.growing.specs.Laws.Steps.{step-stop, next-answered}
use Rattle.metastates.specs.Networks.{metastate_code, network_held, metastate_room, room_of, Holds}
use Rattle.metastates.specs.Outcomes.{started_in, turned_from, connected_in}
use Rattle.metastates.specs.Steps.{StepLeft}
use Rattle.metastates.specs.Laws.Steps.{left-holds}
use Rattle.metastates.specs.Laws.HeldBack.{held-empty}
use Rattle.followers.specs.Spans.{span_size}
use Rattle.followers.specs.Turns.{BetweenTurns}
use Rattle.followers.specs.Laws.Spans.{no-spans-in}
use Rattle.network.specs.declared.Build.{Build}
use Rattle.network.specs.Answers.{build_of}
use Rattle.network.specs.Workspace.{Startable, Ready, Workspace, Enough}
use Rattle.network.specs.Connected.{Connected}
use Rattle.network.specs.Laws.Refused.{refused-left}

-- so many cleared words are words to work with
pub cleared-workspace : {half : ℕ} {metastates : List ℕ} {chains spans index : ℕ}
    → Enough half metastates chains spans index
    → Workspace half metastates (cleared chains) (cleared spans) (cleared index)
cleared-workspace {half} {metastates} {chains} {spans} {index} enough =
    let sized : (size : ℕ) → length (cleared size) ≡ size = λ size. length-replicate {A = ℕ} size 0 in
    record {
      chains_clear = ap (λ (n : ℕ). cleared n) (sym (sized chains));
      heads = subst (λ (n : ℕ). metastate_room half metastates < n / 2) (sym (sized chains)) enough.heads;
      slots = subst (λ (n : ℕ). span_size ≤ n) (sym (sized spans)) enough.slots;
      spans_clear = ap (λ (n : ℕ). cleared n) (sym (sized spans));
      ends_room = omega (arith, sized index, enough.ends_room);
      index_small = omega (arith, sized index, enough.index_small);
    }

cleared-hold : {half count : ℕ} {metastates arcs chains : List ℕ} → metastates ≡ cleared (length metastates)
    → arcs ≡ cleared (length arcs) → chains ≡ cleared (length chains)
    → metastate_room half metastates < heads_in chains
    → Holds half count no_network metastates arcs chains
cleared-hold {half} {count} {metastates} {arcs} {chains} e f g h =
    let room : metastate_room half (cleared (length metastates)) < heads_in chains =
    subst (λ (l : List ℕ). metastate_room half l < heads_in chains) e h in
    subst (λ (l : List ℕ). Holds half count no_network l arcs chains) (sym e)
    (subst (λ (l : List ℕ). Holds half count no_network (cleared (length metastates)) l chains)
    (sym f) (held-empty half count (length metastates) (length arcs) g room))

-- ---- the index is filled

module _ {header : Header} {nodes combinations ends metastates arcs chains spans index : List ℕ}
    (r : Ready header nodes combinations ends metastates arcs)
    (w : Workspace header.half metastates chains spans index)
  where
    pub fillable : Fillable header combinations ends index
    fillable =
        record {
          header-known = r.connectable.usable.header-known;
          few = omega (arith, r.connectable.usable.few, combinations-length header combinations);
          ends_sized = r.ending.sized;
          room = w.ends_room;
        }

    pub startable : {index' : List ℕ} → Filled header combinations ends index index'
        → Startable header nodes combinations index' metastates arcs chains
    startable full =
        record {
          searchable = record {
            connectable = r.connectable;
            indexed = indexed r.connectable.usable r.ending w.ends_room w.index_small full;
          };
          empty = cleared-hold r.metastates_clear r.arcs_clear w.chains_clear w.heads;
        }

-- ---- the start, and what it answers and leaves

module _ {header : Header} {nodes combinations index metastates arcs chains : List ℕ}
    (s : Startable header nodes combinations index metastates arcs chains)
    {metastates' arcs' chains' : List ℕ} {answer : Result Sizes Fault}
    (after : StepLeft header combinations metastates arcs chains
    (started_in header nodes combinations metastates arcs) answer metastates' arcs' chains')
  where
    left : growing.StepLeft (metastate_code header.half) (room_of header.half metastates arcs)
        metastates arcs chains (started_in header nodes combinations metastates arcs) answer metastates' arcs' chains'
    left = after.step

    abbrev book : Book
    book = nodes_book header nodes

    abbrev cs : List Combination
    cs = combinations_in header combinations

    abbrev room : Room
    room = room_of header.half metastates arcs

    abbrev first : Outcome Network
    first = started_in header nodes combinations metastates arcs

    same-room : room_of header.half metastates' arcs' ≡ room
    unfolding room_in
    same-room = rw (left.table-sized, left.arcs-sized)

    -- ---- the start answers

    module _ {sizes : Sizes} (a : answer ≡ Ok sizes) where
      abbrev begun : Network
      begun = network_held header.half sizes metastates' arcs'

      is-begun : first ≡ answered begun
      is-begun = next-answered left a

      -- the first turn may be taken, and no spans are noted yet
      pub start_between : {index₀ spans : List ℕ} → Workspace header.half metastates chains spans index₀
          → BetweenTurns header nodes combinations index metastates' arcs' chains' spans sizes
      start_between w =
          record {
            searchable = s.searchable;
            underway = left-holds after is-begun;
            slots = w.slots;
            spanned = no-spans-in book cs begun w.spans_clear;
          }

      turns-are : (limit : ℕ)
          → turned_from header nodes combinations metastates' arcs' sizes limit
          ≡ connected_in header nodes combinations metastates arcs limit
      unfolding grow and_then
      turns-are limit =
          ap (λ (r : Room). turns_from (machine_of book cs) r limit 0 begun) same-room
          ∙ ap (λ (o : Outcome Network). and_then o (λ next. turns_from (machine_of book cs) room limit 0 next))
          (sym is-begun)

      pub connected : (limit : ℕ) {built : Result Build Refusal} {metastates'' arcs'' : List ℕ}
          → Connected header metastates' arcs'
          (turned_from header nodes combinations metastates' arcs' sizes limit) built metastates'' arcs''
          → Connected header metastates arcs
          (connected_in header nodes combinations metastates arcs limit) built metastates'' arcs''
      connected limit c =
          record {
            answers = c.answers ∙ ap (result_of (build_of header.states)) (turns-are limit);
            metastate-words = λ built k. c.metastate-words built (turns-are limit ∙ k)
                ∙ ap (λ (n : ℕ). padded n (concat_map (metastate_words header.half) (network_in built).table))
                left.table-sized;
            arc-words = λ built k. c.arc-words built (turns-are limit ∙ k)
                ∙ ap (λ (n : ℕ). padded n (concat_map arc_words (network_in built).arcs)) left.arcs-sized;
            metastates-sized = c.metastates-sized ∙ left.table-sized;
            arcs-sized = c.arcs-sized ∙ left.arcs-sized;
          }

    -- ---- the start is refused

    pub start-refused : (limit : ℕ) {fault : Fault} → answer ≡ Err fault
        → Connected header metastates arcs
        (connected_in header nodes combinations metastates arcs limit)
        (Err (record { fault = fault; line = 0 })) metastates' arcs'
    unfolding grow and_then
    start-refused limit {fault} a =
        let (r, is, same) = step-stop first fault (sym a ∙ left.answers) in
        refused-left header r
        (ap (λ (o : Outcome Network). and_then o (λ next. turns_from (machine_of book cs) room limit 0 next)) is)
        same
        (performs-line (machine_of book cs) room no_network (start_events (rules_of book cs)) r is)
        left.table-sized left.arcs-sized
