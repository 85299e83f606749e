-- Laws about what is lent to a join: known arcs and words, cut to what their counts say, are what the join is of; and
-- each refusal is the definition's.
use Rattle.std.specs.Prelude.{◌≡◌, true, false, ℕ, ◌*◌, ◌/◌, ◌≤◌, ◌<◌, T, leb, length, take, Result, Ok, Err}
use Rattle.std.proofs.Math.Path.{sym, ap}
use Rattle.std.proofs.Common.{ap₂, ◌∙◌, subst, arith, le→leb, length-take-le}
use mathlib.Core.List.{List, [], ◌∷◌, map}
use borrow.Author.Tests.{lt-leb}
use Rattle.definitions.specs.declared.Counts.{Counts}
use Rattle.definitions.specs.declared.Fault.{Fault}
use Rattle.definitions.specs.declared.Fault.TheVariants.{Foreign, Crowd}
use Rattle.definitions.specs.Faults.{Outcome, refuse, judge}
use Rattle.definitions.specs.Forms.{form_w, form_a}
use Rattle.definitions.specs.Lists.{every, records}
use Rattle.definitions.specs.Arcs.{Arc, arc_size, arcs_in}
use Rattle.definitions.specs.NetworkText.{arc_known, never_descending, network_known}
use Rattle.definitions.specs.WordBooks.{word_size, word_in, words_in, word_known, words_known}
use Rattle.definitions.specs.Said.{result_of}
use Rattle.definitions.specs.Growing.{Grown}
use Rattle.definitions.specs.Joining.{Joined, join, join_in, join_room}
use Rattle.definitions.proofs.Laws.Lists.Members.{every-weaker}
use Rattle.definitions.proofs.Laws.Lists.Records.{records-taken}
use Rattle.definitions.proofs.Laws.Text.Judging.{refused-not-answered}
use Rattle.definitions.proofs.Laws.Text.Ranges.{ranges-at}
use Rattle.definitions.proofs.Laws.Text.RefusalLines.{join-line}
use Rattle.definitions.proofs.Laws.Networks.KnownNetworks.{known-parts}
use Rattle.definitions.proofs.Laws.Networks.NetworkLines.{known-ranged}
use Rattle.definitions.proofs.Laws.Words.WordTables as words
use Rattle.arcs.specs.Whole.{all_arcs}
use Rattle.arcs.specs.Laws.KnownArcs.{known-length, known-arcs}
use Rattle.growing.specs.declared.Sizes.{Sizes}
use Rattle.growing.specs.Laws.Steps.{step-next, step-stop}
use Rattle.marks.specs.Lexicon.{spelled, Lexicon}
use Rattle.joined.specs.States.{room_of}
use Rattle.joined.specs.Laws.Entering.{state_room}
use Rattle.joining.specs.Turns.{Followed}
use Rattle.joining.specs.Beginning.{Cleared, Startable, JoinLeft}
use Rattle.joining.specs.Answers.{space_of, counts_of, JoinHeld}

-- ---- arcs

module _ (counts : Counts) (arcs : List ℕ) {count : ℕ} (e : count ≡ counts.arcs) (h : network_known counts arcs ≡ true)
  where
    abbrev used : List ℕ
    used = take (arc_size * count) arcs

    pub arcs-held : arc_size * count ≤ length arcs
    arcs-held = known-length counts arcs e h

    used-length : length used ≡ arc_size * count
    used-length = length-take-le (arc_size * count) arcs arcs-held

    phone-few : (a : Arc) → T (arc_known counts a) → T (leb a.phone 64)
    phone-few a k =
        le→leb a.phone 64
        (ranges-at form_a.fields (a.from ∷ a.to ∷ a.model ∷ a.phone ∷ []) (known-ranged counts a k) 3
        (omega arith)).high

    arcs-followed : Followed (take (arc_size * count) arcs)
    arcs-followed =
        let (ranged, held, known, order) = (known-parts counts arcs).0 (subst T (sym h) tt) in
        let most = (ranges-at form_w.fields (counts.states ∷ counts.metastates ∷ counts.arcs ∷ []) ranged 2
        (omega arith)).high in
        record {
          few = omega (arith, most, used-length, e);
          ordered = subst (λ l. T (never_descending l)) (sym (known-arcs counts arcs e h)) order;
          phones =
              subst (λ l. T (every (λ a. leb a.phone 64) l)) (sym (known-arcs counts arcs e h))
              (every-weaker (arc_known counts) (λ a. leb a.phone 64) phone-few (arcs_in counts.arcs arcs) known);
        }

-- ---- words

module _ (count : ℕ) (table : List ℕ) (h : words_known count table ≡ true) where
  abbrev whole : List ℕ
  whole = take (word_size * count) table

  pub words-held : word_size * count ≤ length table
  words-held = words.held-room count table (subst T (sym h) tt)

  sized : length whole ≡ word_size * count
  sized = length-take-le (word_size * count) table words-held

  counted : length whole / word_size ≡ count
  counted = omega (arith, sized)

  same_rows : records word_size (length whole / word_size) whole ≡ records word_size count table
  same_rows =
      ap (λ (n : ℕ). records word_size n whole) counted ∙ records-taken word_size count table words-held

  words-spelled : spelled (take (word_size * count) table) ≡ words_in count table
  unfolding words_in
  words-spelled = ap (map word_in) same_rows

  words-lexicon : Lexicon (take (word_size * count) table)
  words-lexicon =
      let ((some, most), held, known) = (words.known-parts count table).0 (subst T (sym h) tt) in
      record {
        whole = omega (arith, sized);
        few = omega (arith, counted, most);
        known = subst (λ l. T (every word_known l)) (sym same_rows) known;
      }

-- ---- the join of both

module _ (counts : Counts) (arcs : List ℕ) (count : ℕ) (words states joined : List ℕ) where
  abbrev outcome : Outcome (Grown Joined)
  outcome = join counts arcs count words (space_of states joined)

  -- a refusal leaves nothing to say of the space
  pub refusal-held : {fault : Fault} → outcome ≡ refuse fault 0 → {states' joined' : List ℕ}
      → length states' ≡ length states → length joined' ≡ length joined
      → JoinHeld counts arcs count words states joined states' joined'
  refusal-held {fault} e s j =
      record {
        states_sized = s;
        joined_sized = j;
        holds = λ net f. absurd (refused-not-answered outcome fault 0 net e f);
      }

  pub refusal-answer : {fault : Fault} → join counts arcs count words (space_of states joined) ≡ refuse fault 0
      → Err (record { fault = fault; line = 0 })
      ≡ result_of counts_of (join counts arcs count words (space_of states joined))
  unfolding result_of
  refusal-answer e = ap (result_of counts_of) (sym e)

  pub foreign-arcs : network_known counts arcs ≡ false
      → join counts arcs count words (space_of states joined) ≡ refuse Foreign 0
  unfolding join judge
  foreign-arcs h = rw h

  module _ (h : network_known counts arcs ≡ true) where
    pub foreign-words : words_known count words ≡ false
        → join counts arcs count words (space_of states joined) ≡ refuse Foreign 0
    unfolding join judge
    foreign-words k = rw (h, k)

    module _ (k : words_known count words ≡ true) where
      pub too_few : state_room states < 2 → join counts arcs count words (space_of states joined) ≡ refuse Crowd 0
      unfolding join judge join_in join_room
      too_few l = rw (h, k, lt-leb 2 (state_room states) l)

      module _ {n : ℕ} (e : n ≡ counts.arcs) where
        abbrev cut : List ℕ
        cut = take (arc_size * n) arcs

        abbrev table : List ℕ
        table = take (word_size * count) words

        pub startable : Cleared states → Cleared joined → 2 ≤ state_room states
            → Startable (take (arc_size * n) arcs) (take (word_size * count) words) states joined
        unfolding join_room
        startable s j two =
            record {
              followed = arcs-followed counts arcs e h;
              lexicon = words-lexicon count words k;
              states_cleared = s;
              joined_cleared = j;
              two = two;
            }

        joins : join_in (all_arcs cut) (spelled table) (room_of states joined) ≡ outcome
        unfolding join judge
        joins =
            rw (h, k)
            (ap₂ (λ (l : List Arc) (w : List (List ℕ)). join_in l w (room_of states joined))
            (known-arcs counts arcs e h) (words-spelled count words k))

        module _ {r : Result Sizes Fault} {states' joined' : List ℕ}
            (left : JoinLeft (take (arc_size * n) arcs) (take (word_size * count) words) states joined r states' joined')
          where
            pub join-held : JoinHeld counts arcs count words states joined states' joined'
            join-held =
                record {
                  states_sized = left.states_sized;
                  joined_sized = left.joined_sized;
                  holds = λ net f. left.holds net (joins ∙ f);
                }

            pub join-answered : {sizes : Sizes} → r ≡ Ok sizes
                → Ok (record { states = sizes.table; arcs = sizes.arcs })
                ≡ result_of counts_of (join counts arcs count words (space_of states joined))
            unfolding result_of
            join-answered {sizes} a =
                let (net, is, same) = step-next _ sizes (sym a ∙ left.answers) in
                ap (λ (s : Sizes). Ok (record { states = s.table; arcs = s.arcs })) (sym same)
                ∙ ap (result_of counts_of) (sym (sym joins ∙ is))

            pub join-refused : {fault : Fault} → r ≡ Err fault
                → Err (record { fault = fault; line = 0 })
                ≡ result_of counts_of (join counts arcs count words (space_of states joined))
            unfolding result_of
            join-refused {fault} a =
                let (refusal, is, same) = step-stop _ fault (sym a ∙ left.answers) in
                let none : refusal.line ≡ 0 =
                join-line (all_arcs cut) (spelled table) (room_of states joined) refusal is in
                sym (λ i. Err (record { fault = same i; line = none i }))
                ∙ ap (result_of counts_of) (sym (sym joins ∙ is))
