-- Laws about the turns after the start: what is left of a build after so many turns, one more turn, and each
-- answer.
use Rattle.std.specs.Prelude.{◌≡◌, List, ℕ, suc, ◌+◌, ◌-◌, ◌≤◌, ◌<◌, length, Result, Ok, Err}
use Rattle.std.proofs.Math.Path.{refl, ap}
use Rattle.std.proofs.Common.{sym, ap₂, ◌∙◌, add-one}
use Rattle.std.proofs.Math.Nat.{sub-zero}
use native.Mathlib.Omega.{arith}
use Rattle.definitions.specs.declared.Header.{Header}
use Rattle.definitions.specs.declared.Fault.{Fault}
use Rattle.definitions.specs.Faults.{Outcome, answered, and_then}
use Rattle.definitions.specs.Lists.{concat_map, padded}
use Rattle.definitions.specs.Tables.{Book}
use Rattle.definitions.specs.Combinations.{Combination}
use Rattle.definitions.specs.Arcs.{arc_words}
use Rattle.definitions.specs.Metastates.{metastate_words}
use Rattle.definitions.specs.Building.{room_in, network_in, counts_in}
use Rattle.definitions.specs.Growing.{Room, finished, stopped, grown_in, expand, turns_from}
use Rattle.definitions.specs.Connecting.{Network, Built, machine_of}
use Rattle.definitions.proofs.Laws.Text.RefusalLines.{performs-line}
use Rattle.index.specs.Combinations.{combinations_in, nodes_book, machine_in}
use Rattle.growing.specs.declared.Sizes.{Sizes}
use Rattle.growing.specs.Steps as growing
use Rattle.growing.specs.Laws.Turning.{none_left, one_left, one-turn}
use Rattle.growing.specs.Laws.Steps.{held-sizes, step-stop, next-answered}
use Rattle.metastates.specs.Networks.{metastate_code, network_held, room_of}
use Rattle.metastates.specs.Underway.{Underway}
use Rattle.metastates.specs.Outcomes.{expanded_at, turned_from}
use Rattle.metastates.specs.Laws.Steps.{left-holds}
use Rattle.followers.specs.Turns.{BetweenTurns, TurnLeft}
use Rattle.definitions.specs.Said.{result_of}
use Rattle.network.specs.declared.Totals.{Totals}
use Rattle.network.specs.declared.Build.{Build}
use Rattle.network.specs.declared.Build.TheVariants as build
use Rattle.network.specs.Answers.{totals_of, build_of}
use Rattle.network.specs.Connected.{Connected}
use Rattle.network.specs.Laws.Refused.{refused-left}

-- ---- the turns of the code

-- the answer's numbers
abbrev totals_at : (states turns : ℕ) → Sizes → Totals
totals_at states turns sizes =
    record {
      turns = turns;
      counts = record { states = states; metastates = sizes.table; arcs = sizes.arcs };
    }

-- after so many turns: what the words hold, and what is left of the build
pub record Turned (header : Header) (nodes combinations index metastates₀ arcs₀ chains₀ spans₀ : List ℕ)
    (sizes₀ : Sizes) (limit : ℕ) (metastates arcs chains spans : List ℕ) (sizes : Sizes) (turns : ℕ)
    : Type 0 where
  pub within : turns ≤ limit
  pub metastates-sized : length metastates ≡ length metastates₀
  pub arcs-sized : length arcs ≡ length arcs₀
  pub chains_sized : length chains ≡ length chains₀
  pub spans_sized : length spans ≡ length spans₀
  pub between : BetweenTurns header nodes combinations index metastates arcs chains spans sizes
  pub rest : turned_from header nodes combinations metastates₀ arcs₀ sizes₀ limit
      ≡ turns_from (machine_in header nodes combinations)
      (room_of header.half metastates₀ arcs₀) (limit - turns) turns (network_held header.half sizes metastates arcs)

pub turned_none : {header : Header} {nodes combinations index metastates arcs chains spans : List ℕ}
    {sizes : Sizes} {limit : ℕ}
    → BetweenTurns header nodes combinations index metastates arcs chains spans sizes
    → Turned header nodes combinations index metastates arcs chains spans sizes limit
    metastates arcs chains spans sizes 0
turned_none between =
    record {
      within = omega arith;
      metastates-sized = refl;
      arcs-sized = refl;
      chains_sized = refl;
      spans_sized = refl;
      between = between;
      rest = rw sub-zero;
    }

module _ {header : Header} {nodes combinations index metastates₀ arcs₀ chains₀ spans₀ : List ℕ}
    {sizes₀ : Sizes} {limit : ℕ} {metastates arcs chains spans : List ℕ} {sizes : Sizes} {turns : ℕ}
    (t : Turned header nodes combinations index metastates₀ arcs₀ chains₀ spans₀ sizes₀ limit
    metastates arcs chains spans sizes turns)
  where
    abbrev book : Book
    book = nodes_book header nodes

    abbrev cs : List Combination
    cs = combinations_in header combinations

    abbrev room : Room
    room = room_of header.half metastates₀ arcs₀

    abbrev whole : Outcome Built
    whole = turned_from header nodes combinations metastates₀ arcs₀ sizes₀ limit

    underway : Underway header combinations sizes metastates arcs chains
    underway = t.between.underway

    abbrev net : Network
    net = network_held header.half sizes metastates arcs

    metastates-are : length net.table ≡ sizes.table
    metastates-are = ap (λ (z : Sizes). z.table) (held-sizes (metastate_code header.half) sizes metastates arcs)

    arcs-are : length net.arcs ≡ sizes.arcs
    arcs-are = ap (λ (z : Sizes). z.arcs) (held-sizes (metastate_code header.half) sizes metastates arcs)

    same-room : room_of header.half metastates arcs ≡ room
    unfolding room_in
    same-room = rw (t.metastates-sized, t.arcs-sized)

    -- the counts are words
    pub metastates-word : sizes.table < 4294967296
    unfolding room_in
    metastates-word = omega (arith, metastates-are, underway.kept.table-room)

    pub arcs-word : sizes.arcs < 4294967296
    unfolding room_in
    arcs-word = omega (arith, arcs-are, underway.kept.arc-room)

    -- ---- the answers

    totals-are : {total : Totals} → total ≡ totals_at header.states turns sizes
        → total ≡ totals_of header.states turns net
    unfolding totals_of counts_in
    totals-are e =
        e ∙ ap (totals_at header.states turns) (sym (held-sizes (metastate_code header.half) sizes metastates arcs))

    answered-left : {answer : Build} (built : Built) → network_in built ≡ net → whole ≡ answered built
        → answer ≡ build_of header.states built
        → Connected header metastates₀ arcs₀ whole (Ok answer) metastates arcs
    unfolding result_of
    answered-left built is e a =
        record {
          answers = ap Ok a ∙ ap (result_of (build_of header.states)) (sym e);
          metastate-words = λ other k.
              let same : net ≡ network_in other = sym is ∙ ap network_in (the_same other k) in
              underway.kept.table-words
              ∙ ap₂ (λ (n : ℕ) (l : Network). padded n (concat_map (metastate_words header.half) l.table))
              t.metastates-sized same;
          arc-words = λ other k.
              let same : net ≡ network_in other = sym is ∙ ap network_in (the_same other k) in
              underway.kept.arc-words
              ∙ ap₂ (λ (n : ℕ) (l : Network). padded n (concat_map arc_words l.arcs)) t.arcs-sized same;
          metastates-sized = t.metastates-sized;
          arcs-sized = t.arcs-sized;
        }
      where
        the_same : (other : Built) → whole ≡ answered other → built ≡ other
        the_same other k = let both : answered built ≡ answered other = sym e ∙ k in cc

    pub turn-finished : {place done : ℕ} {total : Totals} → place ≡ done → done ≡ turns → sizes.table ≤ place
        → total ≡ totals_at header.states done sizes
        → Connected header metastates₀ arcs₀ whole (Ok (build.Finished total)) metastates arcs
    unfolding grown_in
    turn-finished e same h total =
        answered-left (finished turns net) refl
        (t.rest ∙ none_left (machine_of book cs) room (limit - turns) turns net (omega (arith, e, same, h, metastates-are)))
        (ap (λ z. build.Finished z) (totals-are (total ∙ ap (λ (n : ℕ). totals_at header.states n sizes) same)))

    pub turn_stopped : {place : ℕ} {total : Totals} → place ≡ limit → limit ≡ turns → place < sizes.table
        → total ≡ totals_at header.states limit sizes
        → Connected header metastates₀ arcs₀ whole (Ok (build.Stopped total)) metastates arcs
    unfolding grown_in
    turn_stopped e same h total =
        let none : limit - turns ≡ 0 = omega (arith, same) in
        answered-left (stopped turns net) refl
        (t.rest ∙ ap (λ (n : ℕ). turns_from (machine_of book cs) room n turns net) none
        ∙ one_left (machine_of book cs) room turns net (omega (arith, e, same, h, metastates-are)))
        (ap (λ z. build.Stopped z) (totals-are (total ∙ ap (λ (n : ℕ). totals_at header.states n sizes) same)))

    -- ---- one more turn

    module _ (h : turns < limit) {place : ℕ} (e : place ≡ turns) (g : place < sizes.table)
        {answer : Result Sizes Fault} {metastates' arcs' chains' spans' : List ℕ}
        (turn : TurnLeft header nodes combinations metastates arcs chains spans
        (expanded_at header nodes combinations metastates arcs sizes place) answer
        metastates' arcs' chains' spans')
      where
        left : growing.StepLeft (metastate_code header.half) (room_of header.half metastates arcs)
            metastates arcs chains (expanded_at header nodes combinations metastates arcs sizes place)
            answer metastates' arcs' chains'
        left = turn.left.step

        outcome-is : expanded_at header nodes combinations metastates arcs sizes place
            ≡ expand (machine_of book cs) room turns net
        outcome-is = ap₂ (λ (r : Room) (n : ℕ). expand (machine_of book cs) r n net) same-room e

        abbrev later : Network → Outcome Built
        later next = turns_from (machine_of book cs) room (limit - (turns + 1)) (suc turns) next

        goes_on : whole ≡ and_then (expand (machine_of book cs) room turns net) later
        goes_on =
            let more : limit - turns ≡ suc (limit - (turns + 1)) = omega arith in
            t.rest ∙ ap (λ (n : ℕ). turns_from (machine_of book cs) room n turns net) more
            ∙ one-turn (machine_of book cs) room (limit - (turns + 1)) turns net (omega (arith, e, g, metastates-are))

        pub turned_more : {next : Sizes} → answer ≡ Ok next
            → Turned header nodes combinations index metastates₀ arcs₀ chains₀ spans₀ sizes₀ limit
            metastates' arcs' chains' spans' next (turns + 1)
        unfolding and_then
        turned_more {next} a =
            let now : Network = network_held header.half next metastates' arcs' in
            let is : expanded_at header nodes combinations metastates arcs sizes place ≡ answered now =
            next-answered left a in
            record {
              within = omega arith;
              metastates-sized = left.table-sized ∙ t.metastates-sized;
              arcs-sized = left.arcs-sized ∙ t.arcs-sized;
              chains_sized = left.chains_sized ∙ t.chains_sized;
              spans_sized = turn.spans_sized ∙ t.spans_sized;
              between = record {
                searchable = t.between.searchable;
                underway = left-holds turn.left is;
                slots = omega (arith, t.between.slots, turn.spans_sized);
                spanned = turn.spanned now is;
              };
              rest =
                  goes_on ∙ ap (λ (o : Outcome Network). and_then o later) (sym outcome-is ∙ is)
                  ∙ ap (λ (n : ℕ). turns_from (machine_of book cs) room (limit - (turns + 1)) n now)
                  (sym (add-one turns));
            }

        pub turn-refused : {fault : Fault} → answer ≡ Err fault
            → Connected header metastates₀ arcs₀ whole
            (Err (record { fault = fault; line = 0 })) metastates' arcs'
        unfolding and_then expand
        turn-refused {fault} a =
            let (r, is, same) = step-stop _ fault (sym a ∙ left.answers) in
            refused-left header r
            (goes_on ∙ ap (λ (o : Outcome Network). and_then o later) (sym outcome-is ∙ is)) same
            (performs-line (machine_of book cs) room net _ r (sym outcome-is ∙ is))
            (left.table-sized ∙ t.metastates-sized) (left.arcs-sized ∙ t.arcs-sized)
