-- Laws about a whole join: from the first two states all turns are taken, and what the words hold then is what the
-- definition leaves.
use Rattle.std.specs.Prelude.{◌≡◌, List, ℕ, ◌+◌, ◌/◌, ◌≤◌, ◌<◌, Result}
use Rattle.std.proofs.Common.{sym, ap₂, ◌∙◌, arith, le-leb, subst}
use Rattle.std.proofs.Math.Path.{ap}
use Rattle.std.proofs.Math.ListN.{length}
use Rattle.std.proofs.lemmas.List.{length-replicate}
use Rattle.definitions.specs.Faults.{judge, and_then}
use Rattle.definitions.specs.Lists.{cleared, concat_map, padded}
use Rattle.definitions.specs.Arcs.{arc_words}
use Rattle.definitions.specs.Growing.{begun, perform_all, grow}
use Rattle.definitions.specs.Joining.{joined_words, joining, join_in, join_room, join_left}
use Rattle.definitions.specs.declared.Fault.{Fault}
use Rattle.growing.specs.declared.Sizes.{Sizes}
use Rattle.growing.specs.Steps.{step_of}
use Rattle.arcs.specs.Whole.{all_arcs}
use Rattle.marks.specs.Lexicon.{spelled}
use Rattle.marks.specs.Laws.Lexicon.{spelled-length}
use Rattle.joined.specs.States.{room_of, entering, StepLeft}
use Rattle.joining.specs.Turns.{join_machine, all_turns, turned_all}
use Rattle.joining.specs.Beginning.{Startable, Chainable, Begun, JoinLeft}

-- cleared chains of a size are enough where there are more heads than room
pub cleared-chains : {arcs words states joined : List ℕ} → Startable arcs words states joined → (size : ℕ)
    → (room_of states joined).table < size / 2 → Chainable states (cleared size)
unfolding join_room
cleared-chains s size h =
    let many : length (cleared size) ≡ size = length-replicate {A = ℕ} size 0 in
    record {
      states_cleared = s.states_cleared;
      chains_cleared = ap cleared (sym many);
      heads = omega (arith, h, many);
      two = s.two;
    }

-- an index has a place for each phone and each word
pub index-room : {arcs words states joined : List ℕ} → Startable arcs words states joined
    → 64 + length (spelled words) ≤ 10063
index-room {arcs} {words} s = omega (arith, spelled-length words, s.lexicon.few)

module _ {arcs words states joined chains states₁ chains₁ : List ℕ} (s : Startable arcs words states joined)
    (b : Begun states chains states₁ chains₁) where
  abbrev two : Sizes
  two = record { table = 2; arcs = 0 }

  same-room : room_of states joined ≡ room_of states₁ joined
  same-room = ap (λ (n : ℕ). join_room (record { states = n; arcs = length joined })) (sym b.states_sized)

  -- the join is the turns from the first two states
  all-turns : join_in (all_arcs arcs) (spelled words) (room_of states joined)
      ≡ all_turns (join_machine arcs words) (room_of states joined) (room_of states joined).table 0 (begun entering)
  unfolding join_in judge grow perform_all and_then joining
  all-turns = rw (le-leb 2 (room_of states joined).table s.two)

  outcome : join_in (all_arcs arcs) (spelled words) (room_of states joined) ≡ turned_all arcs words states₁ joined two
  outcome =
      all-turns
      ∙ ap₂ (λ room net. all_turns (join_machine arcs words) room room.table 0 net) same-room
      (sym (b.first joined s.joined_cleared))

  pub join-left : {r : Result Sizes Fault} {states' joined' chains' : List ℕ}
      → StepLeft states₁ joined chains₁
      (turned_all arcs words states₁ joined (record { table = 2; arcs = 0 })) r states' joined' chains'
      → JoinLeft arcs words states joined r states' joined'
  unfolding join_left
  join-left {r} {states'} {joined'} left =
      let sized : length states' ≡ length states = left.table-sized ∙ b.states_sized in
      record {
        answers = left.answers ∙ ap step_of (sym outcome);
        holds = λ net e.
            let kept = left.holds net (sym outcome ∙ e) in (
              kept.table-words ∙ ap (λ (n : ℕ). padded n (concat_map joined_words net.table)) sized,
              kept.arc-words ∙ ap (λ (n : ℕ). padded n (concat_map arc_words net.arcs)) left.arcs-sized,
            );
        states_sized = sized;
        joined_sized = left.arcs-sized;
      }

-- the same of the words as the lender finds them, and of an answer that is the same
pub join-found : {arcs words states joined states' joined' found also : List ℕ} {r answer : Result Sizes Fault}
    → JoinLeft arcs words states joined r states' joined' → r ≡ answer → states' ≡ found
    → joined' ≡ also → JoinLeft arcs words states joined answer found also
join-found {arcs} {words} {states} {joined} {states'} {joined'} {found} {also} {r} left e s j =
    subst (λ answer. JoinLeft arcs words states joined answer found also) e
    (subst (λ k. JoinLeft arcs words states joined r found k) j
    (subst (λ k. JoinLeft arcs words states joined r k joined') s left))
