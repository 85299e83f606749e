-- Laws about the turns of a join: each takes the oldest state that is not expanded, and when none is left all is done.
-- There is a turn for each state that has room, so the turns suffice.
use Rattle.std.specs.Prelude.{◌≡◌, List, ℕ, suc, ◌+◌, ◌-◌, ◌≤◌, ◌<◌, length, Result, Ok, Err}
use Rattle.std.proofs.Math.Path.{refl, ap}
use Rattle.std.proofs.Common.{sym, ◌∙◌, add-one, arith}
use Rattle.definitions.specs.declared.Fault.{Fault}
use Rattle.definitions.specs.Faults.{Outcome, answered, refused, and_then}
use Rattle.definitions.specs.Growing.{Grown, Machine, Room, Done, grown_in, expand, turns_from}
use Rattle.definitions.specs.Joining.{Joined, Move}
use Rattle.growing.specs.declared.Sizes.{Sizes}
use Rattle.growing.specs.Laws.Going.{going_start, going_done, going_more, going-stop}
use Rattle.growing.specs.Laws.Steps.{held-sizes}
use Rattle.growing.specs.Laws.Turning.{none_left, one-turn}
use Rattle.joined.specs.States.{joined_code, room_of, held, StepLeft}
use Rattle.joined.specs.Laws.Going.{Going, going_on, step_in}
use Rattle.joining.specs.Turns.{join_machine, Turnable, Expandable, expanded_at, all_turns, turned_all}

-- ---- the definition's turns

module _ (m : Machine Joined Move) (room : Room) where
  last_turn : (limit turns : ℕ) (net : Grown Joined) → length net.table ≤ turns
      → all_turns m room limit turns net ≡ answered net
  unfolding and_then grown_in
  last_turn limit turns net h =
      ap (λ o. and_then o (λ done. answered (grown_in done))) (none_left m room limit turns net h)

  then-again : (outcome : Outcome (Grown Joined)) (f : Grown Joined → Outcome (Done Joined))
      → and_then (and_then outcome f) (λ done. answered (grown_in done))
      ≡ and_then outcome (λ net. and_then (f net) (λ done. answered (grown_in done)))
  unfolding and_then
  then-again (answered net) f = refl
  then-again (refused r) f = refl

  next-turn : (limit turns : ℕ) (net : Grown Joined) → turns < length net.table
      → all_turns m room (suc limit) turns net ≡ and_then (expand m room turns net) (all_turns m room limit (suc turns))
  next-turn limit turns net h =
      ap (λ o. and_then o (λ done. answered (grown_in done))) (one-turn m room limit turns net h)
      ∙ then-again (expand m room turns net) (turns_from m room limit (suc turns))

-- ---- the loop

-- the states before some are expanded
pub record Turning (arcs words : List ℕ) (sizes : Sizes) (states₀ joined₀ chains₀ states joined chains : List ℕ)
    (now : Sizes) (turns : ℕ) : Type 0 where
  pub within : turns ≤ (room_of states₀ joined₀).table
  pub going : Going states₀ joined₀ chains₀ (turned_all arcs words states₀ joined₀ sizes)
      (all_turns (join_machine arcs words) (room_of states₀ joined₀) ((room_of states₀ joined₀).table - turns) turns) now
      states joined chains

module _ {arcs starts words index : List ℕ} {sizes : Sizes} {states₀ joined₀ chains₀ : List ℕ}
    (t : Turnable arcs starts words index sizes states₀ joined₀ chains₀) where
  abbrev machine : Machine Joined Move
  machine = join_machine arcs words

  abbrev room : Room
  room = room_of states₀ joined₀

  pub turning-start : Turning arcs words sizes states₀ joined₀ chains₀ states₀ joined₀ chains₀ sizes 0
  turning-start =
      let all : room.table - 0 ≡ room.table = omega arith in
      record {
        within = omega arith;
        going =
            going_start (turned_all arcs words states₀ joined₀ sizes) _ t.underway
            (ap (λ (n : ℕ). all_turns machine room n 0 (held sizes states₀ joined₀)) (sym all));
      }

  module _ {states joined chains : List ℕ} {now : Sizes} {turns : ℕ}
      (p : Turning arcs words sizes states₀ joined₀ chains₀ states joined chains now turns) where
    counted : length (held now states joined).table ≡ now.table
    counted = ap (λ (s : Sizes). s.table) (held-sizes joined_code now states joined)

    pub turning-done : now.table ≤ turns
        → StepLeft states₀ joined₀ chains₀ (turned_all arcs words states₀ joined₀ sizes) (Ok now)
        states joined chains
    turning-done h =
        going_done p.going
        (last_turn machine room (room.table - turns) turns (held now states joined) (omega (arith, h, counted)))

    module _ (l : turns < now.table) where
      pub turning-asks : Expandable arcs starts words index now states joined chains turns
      turning-asks =
          record {
            turnable =
                record {
                  followed = t.followed;
                  started = t.started;
                  lexicon = t.lexicon;
                  opened = t.opened;
                  underway = going_on p.going;
                };
            listed = l;
          }

      pub turning-within : turns < (room_of states₀ joined₀).table
      turning-within = omega (arith, l, counted, p.going.underway.kept.table-room)

      module _ {r : Result Sizes Fault} {states' joined' chains' : List ℕ}
          (left : StepLeft states joined chains (expanded_at arcs words states joined now turns) r
          states' joined' chains') where
        parts : all_turns machine room (room.table - turns) turns (held now states joined)
            ≡ and_then (expand machine room turns (held now states joined))
            (all_turns machine room (room.table - (turns + 1)) (suc turns))
        parts =
            let more : room.table - turns ≡ suc (room.table - (turns + 1)) = omega (arith, turning-within) in
            ap (λ (n : ℕ). all_turns machine room n turns (held now states joined)) more
            ∙ next-turn machine room (room.table - (turns + 1)) turns (held now states joined)
            (omega (arith, l, counted))

        pub turning-more : {next : Sizes} → r ≡ Ok next
            → Turning arcs words sizes states₀ joined₀ chains₀ states' joined' chains' next (turns + 1)
        turning-more a =
            record {
              within = omega (arith, turning-within);
              going =
                  going_more p.going (all_turns machine room (room.table - (turns + 1)) (turns + 1))
                  (step_in p.going (λ place. expand machine place turns (held now states joined)) left)
                  (parts
                  ∙ ap (λ (n : ℕ). and_then (expand machine room turns (held now states joined))
                  (all_turns machine room (room.table - (turns + 1)) n)) (sym (add-one turns))) a;
            }

        pub turning-stop : {fault : Fault} → r ≡ Err fault
            → StepLeft states₀ joined₀ chains₀ (turned_all arcs words states₀ joined₀ sizes) (Err fault)
            states' joined' chains'
        turning-stop a =
            going-stop p.going (all_turns machine room (room.table - (turns + 1)) (suc turns))
            (step_in p.going (λ place. expand machine place turns (held now states joined)) left) parts a
