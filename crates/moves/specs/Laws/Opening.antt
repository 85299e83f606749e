-- Laws about the words that begin on an arc, taken one by one along their index.
use Rattle.std.specs.Prelude.{if◌then◌else◌, ◌≡◌, List, [], ◌∷◌, ◌++◌, map, ℕ, suc, ◌+◌, ◌-◌, ◌/◌, ◌≤◌, ◌<◌, eqb, leb, length, Result, Ok, Err}
use Rattle.std.proofs.Math.Path.{sym, ap}
use Rattle.std.proofs.Common.{◌∙◌, subst, arith, ne_eqb}
use Rattle.std.proofs.lemmas.List.{map-append}
use Rattle.std.proofs.Math.Dec.{T, le→leb}
use Rattle.std.proofs.lemmas.Bool.{eqb-false}
use Rattle.definitions.specs.declared.Fault.{Fault}
use Rattle.definitions.specs.Faults.{Outcome, and_then}
use Rattle.definitions.specs.Lists.{◌!◌, select}
use Rattle.definitions.specs.Growing.{Grown, Room, enter, perform_all}
use Rattle.definitions.specs.Joining.{Mark, step, is_word, spoken_to, Joined, Move, move_by, may_enter}
use Rattle.definitions.proofs.Laws.Lists.Tests.{T_and, by-test}
use Rattle.growing.specs.declared.Sizes.{Sizes}
use Rattle.growing.specs.Laws.Performing.{performed-parts}
use Rattle.growing.specs.Laws.Going.{going_done, going_more, going-stop}
use Rattle.marks.specs.Lexicon.{spelled}
use Rattle.marks.specs.Openings.{opening_from}
use Rattle.marks.specs.Wanting.{IsWord}
use Rattle.marks.specs.Laws.Lexicon.{spelled-length}
use Rattle.marks.specs.Laws.Walking.{opening-end, opening-next}
use Rattle.joined.specs.States.{room_of, entering, held, StepLeft}
use Rattle.joined.specs.Laws.Going.{Going, step_in}
use Rattle.moves.specs.declared.Hop.{Hop}
use Rattle.moves.specs.Moving.{hop_arc, moved_all, allowed, openings, Openable}

-- several moves from what has grown
abbrev pub moved_in : Room → (from : ℕ) → List Move → Grown Joined → Outcome (Grown Joined)
moved_in room from moves net = perform_all entering room net (map (enter from) moves)

-- in two parts
pub moved-parts : (room : Room) (from : ℕ) (net : Grown Joined) (first rest : List Move)
    → moved_in room from (first ++ rest) net ≡ and_then (moved_in room from first net) (moved_in room from rest)
moved-parts room from net first rest =
    ap (perform_all entering room net) (map-append (enter from) first rest)
    ∙ performed-parts entering room net (map (enter from) first) (map (enter from) rest)

-- those allowed of one and more
pub allowed-more : (m : Move) (l : List Move) → allowed (m ∷ l) ≡ allowed (m ∷ []) ++ allowed l
unfolding select
allowed-more m l = by-test (may_enter m.target) (λ e. rw e) (λ e. rw e)

-- the moves by the words from one on
abbrev pub opened : (words : List ℕ) → Hop → (word : ℕ) → List Move
opened words hop word = allowed (map (move_by (hop_arc hop)) (openings (spelled words) hop.arc.phone word))

-- the words before a word are entered, and it is the next
pub record Opening (words : List ℕ) (hop : Hop) (states₀ joined₀ chains₀ : List ℕ) (sizes : Sizes)
    (states joined chains : List ℕ) (now : Sizes) (word : ℕ) : Type 0 where
  pub from : ℕ
  pub low : 1 ≤ from
  pub first : opening_from (spelled words) hop.arc.phone from ≡ word
  pub going : Going states₀ joined₀ chains₀
      (moved_all states₀ joined₀ sizes hop.from (opened words hop 1))
      (moved_in (room_of states₀ joined₀) hop.from (opened words hop from)) now states joined chains

-- how many words may still come
abbrev pub words_left : (words : List ℕ) → (word : ℕ) → ℕ
words_left words word = if eqb word 0 then 0 else suc (length words / 65) - word

module _ {hop : Hop} {words index : List ℕ} {sizes : Sizes} {states₀ joined₀ chains₀ : List ℕ}
    (o : Openable hop words index sizes states₀ joined₀ chains₀) where
  count : length (spelled words) ≡ length words / 65
  count = spelled-length words

  module _ {states joined chains : List ℕ} {now : Sizes} {word : ℕ}
      (p : Opening words hop states₀ joined₀ chains₀ sizes states joined chains now word) where
    pub opening-done : word ≡ 0
        → StepLeft states₀ joined₀ chains₀ (moved_all states₀ joined₀ sizes hop.from (opened words hop 1))
        (Ok now) states joined chains
    unfolding perform_all select
    opening-done e =
        let none = opening-end (spelled words) hop.arc.phone p.from p.low (p.first ∙ e) in
        going_done p.going
        (ap (λ steps. moved_in (room_of states₀ joined₀) hop.from (allowed (map (move_by (hop_arc hop)) steps))
        (held now states joined)) none)

    module _ (n : word ≡ 0 → ⊥) where
      abbrev move : Move
      move = move_by (hop_arc hop) (step word (spoken_to (spelled words) word 1))

      pub opening-word : IsWord words word
      opening-word =
          let (up, within, begins, those) = opening-next (spelled words) hop.arc.phone p.from word p.first n in
          record { low = omega (arith, up, p.low); high = omega (arith, within, count) }

      -- the place of its link
      pub opening-link : 64 + word - 1 < length index
      opening-link = omega (arith, o.followable.opened.sized, opening-word.high, count)

      parts : opened words hop p.from ≡ allowed (move ∷ []) ++ opened words hop (suc word)
      parts =
          let (up, within, begins, those) = opening-next (spelled words) hop.arc.phone p.from word p.first n in
          ap (λ steps. allowed (map (move_by (hop_arc hop)) steps)) those
          ∙ allowed-more move (map (move_by (hop_arc hop)) (openings (spelled words) hop.arc.phone (suc word)))

      following : {next : ℕ} → next ≡ index ! (64 + word - 1)
          → opening_from (spelled words) hop.arc.phone (suc word) ≡ next
      unfolding is_word
      following e =
          let (up, within, begins, those) = opening-next (spelled words) hop.arc.phone p.from word p.first n in
          let is : T (is_word (spelled words) word) =
          (T_and (leb 1 word) (leb word (length (spelled words)))).1
          (le→leb 1 word opening-word.low, le→leb word (length (spelled words)) within) in
          ap (λ (f : ℕ). opening_from (spelled words) f (suc word)) (sym begins)
          ∙ sym (e ∙ o.followable.opened.nexts word is)

      pub opening-less : {next : ℕ} → next ≡ index ! (64 + word - 1) → words_left words next < words_left words word
      opening-less {next} e =
          let own : words_left words word ≡ suc (length words / 65) - word = rw (ne_eqb word 0 n) in
          by-test (eqb next 0)
          (λ t. rw (t, ne_eqb word 0 n) (omega (arith, opening-word.high)))
          (λ t.
          let other : (next ≡ 0 → ⊥) = eqb-false next 0 t in
          let (up, within, begins, those) =
          opening-next (spelled words) hop.arc.phone (suc word) next (following e) other in
          rw (t, ne_eqb word 0 n) (omega (arith, up, within, count)))

      module _ {mark : Mark} (f : mark ≡ spoken_to (spelled words) word 1) {r : Result Sizes Fault}
          {states' joined' chains' : List ℕ}
          (left : StepLeft states joined chains
          (moved_all states joined now hop.from (allowed (move_by (hop_arc hop) (step word mark) ∷ []))) r
          states' joined' chains') where
        here : StepLeft states joined chains (moved_all states joined now hop.from (allowed (move ∷ []))) r
            states' joined' chains'
        here =
            subst (λ (q : Mark). StepLeft states joined chains
            (moved_all states joined now hop.from (allowed (move_by (hop_arc hop) (step word q) ∷ []))) r
            states' joined' chains') f left

        both : moved_in (room_of states₀ joined₀) hop.from (opened words hop p.from) (held now states joined)
            ≡ and_then
            (moved_in (room_of states₀ joined₀) hop.from (allowed (move ∷ [])) (held now states joined))
            (moved_in (room_of states₀ joined₀) hop.from (opened words hop (suc word)))
        both =
            ap (λ moves. moved_in (room_of states₀ joined₀) hop.from moves (held now states joined)) parts
            ∙ moved-parts (room_of states₀ joined₀) hop.from (held now states joined) (allowed (move ∷ []))
            (opened words hop (suc word))

        pub opening-more : {next : Sizes} → r ≡ Ok next → {link : ℕ} → link ≡ index ! (64 + word - 1)
            → Opening words hop states₀ joined₀ chains₀ sizes states' joined' chains' next link
        opening-more a e = record {
          from = suc word;
          low = omega arith;
          first = following e;
          going =
              going_more p.going (moved_in (room_of states₀ joined₀) hop.from (opened words hop (suc word)))
              (step_in p.going (λ room. moved_in room hop.from (allowed (move ∷ [])) (held now states joined))
              here) both a;
        }

        pub opening-stop : {fault : Fault} → r ≡ Err fault
            → StepLeft states₀ joined₀ chains₀ (moved_all states₀ joined₀ sizes hop.from (opened words hop 1))
            (Err fault) states' joined' chains'
        opening-stop a =
            going-stop p.going (moved_in (room_of states₀ joined₀) hop.from (opened words hop (suc word)))
            (step_in p.going (λ room. moved_in room hop.from (allowed (move ∷ [])) (held now states joined)) here)
            both a
