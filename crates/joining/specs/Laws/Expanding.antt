-- Laws about one turn: the moves from a joined state are those along the arcs of its network state, and each arc that
-- is followed takes its part of them.
use Rattle.std.specs.Prelude.{◌≡◌, refl, List, [], ◌∷◌, map, ℕ, ◌+◌, ◌*◌, ◌/◌, ◌≤◌, ◌<◌, T, leb, length, Result, Ok, Err, None, Some}
use Rattle.std.proofs.Math.Path.{sym, ap}
use Rattle.std.proofs.Common.{◌∙◌, subst, arith, leb→le}
use Rattle.std.proofs.Math.ListN.{get_or}
use Rattle.definitions.specs.declared.Fault.{Fault}
use Rattle.definitions.specs.Faults.{Outcome, and_then}
use Rattle.definitions.specs.Lists.{concat_map}
use Rattle.definitions.specs.Arcs.{Arc, arc_size, arc_of}
use Rattle.definitions.specs.Growing.{Grown, enter, Room, perform, perform_all, expand}
use Rattle.definitions.specs.Joining.{◌⊚◌, Joined, joined, joined_size, Move, moves_along, moves, joining}
use Rattle.definitions.proofs.Laws.Lists.Members.{in-at, in-every}
use Rattle.definitions.proofs.Laws.Lists.Records.{read_at}
use Rattle.definitions.proofs.Laws.Networks.KnownNetworks.{arcs-length}
use Rattle.arcs.specs.Whole.{all_arcs, arc_at}
use Rattle.arcs.specs.Laws.KnownArcs.{arc-at}
use Rattle.arcs.specs.Below.{below}
use Rattle.arcs.specs.Laws.Leaving.{below-within, own-after}
use Rattle.growing.specs.declared.Sizes.{Sizes}
use Rattle.growing.specs.Laws.Going.{going_start, going_done, going_more, going-stop}
use Rattle.marks.specs.Lexicon.{spelled}
use Rattle.marks.specs.Wanting.{Leads}
use Rattle.marks.specs.declared.Wanted.{Wanted}
use Rattle.joined.specs.States.{joined_in, row_at, room_of, entering, held, StepLeft}
use Rattle.joined.specs.Laws.Entering.{joined-used}
use Rattle.joined.specs.Laws.Going.{Going, going_on, step_in}
use Rattle.moves.specs.declared.Hop.{Hop}
use Rattle.moves.specs.Moving.{hop_arc, moved_all, Followable}
use Rattle.moves.specs.Skipping.{moves_from, AfterSources, NextFound}
use Rattle.moves.specs.Laws.Opening.{moved_in, moved-parts}
use Rattle.moves.specs.Laws.Between.{left_by}
use Rattle.moves.specs.Laws.Skipping.{moves-here, moves-end}
use Rattle.joining.specs.Turns.{join_machine, Expandable, expanded_at}

-- ---- the definition's turn

-- entering does not ask which network and words are joined
entering-any : (arcs : List Arc) (words : List (List ℕ)) (room : Room) (from : ℕ) (l : List Move)
    (net : Grown Joined) → perform_all (joining arcs words) room net (map (enter from) l) ≡ moved_in room from l net
unfolding perform_all perform joining
entering-any arcs words room from [] net = refl
entering-any arcs words room from (m ∷ l) net =
    ap (and_then (perform entering room net (enter from m))) (λ i next. entering-any arcs words room from l next i)

-- the moves along the arcs before one are made
pub record Expanding (arcs words : List ℕ) (sizes : Sizes) (states₀ joined₀ chains₀ : List ℕ)
    (place state word mark : ℕ) (states joined chains : List ℕ) (now : Sizes) (at : ℕ) : Type 0 where
  pub after : AfterSources arcs state at
  pub going : Going states₀ joined₀ chains₀ (expanded_at arcs words states₀ joined₀ sizes place)
      (moved_in (room_of states₀ joined₀) place (moves_from (spelled words) (word ⊚ mark) arcs state at)) now
      states joined chains

module _ {arcs starts words index : List ℕ} {sizes : Sizes} {states₀ joined₀ chains₀ : List ℕ} {place : ℕ}
    (e : Expandable arcs starts words index sizes states₀ joined₀ chains₀ place) where
  abbrev count : ℕ
  count = length arcs / arc_size

  pub expand-row : joined_size * place + joined_size ≤ length states₀
  expand-row = omega (arith, joined-used e.turnable.underway, e.listed)

  module _ {state word mark : ℕ} (is : joined state word mark ≡ joined_in (row_at states₀ place)) where
    abbrev whole : Outcome (Grown Joined)
    whole = expanded_at arcs words states₀ joined₀ sizes place

    -- the moves of the turn, from an arc on
    abbrev rest : (at : ℕ) → List Move
    rest at = moves_from (spelled words) (word ⊚ mark) arcs state at

    turn : whole
        ≡ moved_in (room_of states₀ joined₀) place (rest (below state (all_arcs arcs))) (held sizes states₀ joined₀)
    unfolding expand joining moves
    turn =
        let there : get_or (held sizes states₀ joined₀).table place (joined 0 0 0) ≡ joined state word mark =
        read_at joined_size joined_in sizes.table states₀ (joined 0 0 0) place e.listed ∙ sym is in
        ap (λ x. perform_all (join_machine arcs words) (room_of states₀ joined₀) (held sizes states₀ joined₀)
        (map (enter place) (moves (all_arcs arcs) (spelled words) x))) there
        ∙ entering-any (all_arcs arcs) (spelled words) (room_of states₀ joined₀) place
        (moves (all_arcs arcs) (spelled words) (joined state word mark)) (held sizes states₀ joined₀)
        ∙ ap (λ l. moved_in (room_of states₀ joined₀) place (concat_map (moves_along (spelled words) (word ⊚ mark)) l)
        (held sizes states₀ joined₀)) (sym (own-after state (all_arcs arcs) e.turnable.followed.ordered))

    -- the loop begins after the arcs of smaller sources
    pub expanding-start : {from : ℕ} → from ≡ below state (all_arcs arcs)
        → Expanding arcs words sizes states₀ joined₀ chains₀ place state word mark states₀ joined₀ chains₀ sizes from
    expanding-start {from} f = record {
      after = record {
        ordered = e.turnable.followed.ordered;
        after = omega (arith, f);
        within = omega (arith, f, below-within state (all_arcs arcs), arcs-length count arcs);
      };
      going =
          going_start whole _ e.turnable.underway
          (turn ∙ ap (λ l. moved_in (room_of states₀ joined₀) place l (held sizes states₀ joined₀)) (ap rest (sym f)));
    }

    -- ---- the loop over arcs

    module _ {wanted : Wanted} (leads : Leads (spelled words) word mark wanted) where
      module _ {states joined chains : List ℕ} {now : Sizes} {from : ℕ}
          (p : Expanding arcs words sizes states₀ joined₀ chains₀ place state word mark states joined chains now from)
        where
          pub expanding-done : NextFound arcs state wanted from None
              → StepLeft states₀ joined₀ chains₀ (expanded_at arcs words states₀ joined₀ sizes place) (Ok now)
              states joined chains
          unfolding perform_all
          expanding-done none =
              going_done p.going
              (ap (λ l. moved_in (room_of states₀ joined₀) place l (held now states joined))
              (none.skipped.same (spelled words) word mark leads
              ∙ moves-end (spelled words) (word ⊚ mark) arcs state {at = count} (omega arith)))

          module _ {at : ℕ} (found : NextFound arcs state wanted from (Some at)) where
            l : at < length arcs / arc_size
            l = found.inside

            few-phones : (arc_at arcs at).phone ≤ 64
            few-phones =
                let there : at < length (all_arcs arcs) = omega (arith, arcs-length count arcs) in
                let small : T (leb (get_or (all_arcs arcs) at (arc_of [])).phone 64) =
                in-every (λ a. leb a.phone 64) (all_arcs arcs) e.turnable.followed.phones
                (get_or (all_arcs arcs) at (arc_of [])) (in-at (all_arcs arcs) at (arc_of []) there) in
                leb→le _ 64 (subst (λ a. T (leb a.phone 64)) (arc-at count arcs at l) small)

            module _ (hop : Hop) (f : hop.from ≡ place) (h : hop_arc hop ≡ arc_at arcs at) where
              pub expanding-asks : Followable hop words index now states joined chains
              expanding-asks =
                  record {
                    lexicon = e.turnable.lexicon;
                    opened = e.turnable.opened;
                    underway = going_on p.going;
                    phone = omega (arith, ap (λ (a : Arc). a.phone) h, few-phones);
                  }

              module _ {r : Result Sizes Fault} {states' joined' chains' : List ℕ}
                  (left : StepLeft states joined chains
                  (moved_all states joined now hop.from (moves_along (spelled words) (word ⊚ mark) (hop_arc hop))) r
                  states' joined' chains') where
                abbrev along : List Move
                along = moves_along (spelled words) (word ⊚ mark) (arc_at arcs at)

                here : StepLeft states joined chains (moved_all states joined now place along) r states' joined' chains'
                here =
                    left_by now place (ap (moves_along (spelled words) (word ⊚ mark)) h)
                    (subst (λ (n : ℕ). StepLeft states joined chains
                    (moved_all states joined now n (moves_along (spelled words) (word ⊚ mark) (hop_arc hop))) r
                    states' joined' chains') f left)

                both : moved_in (room_of states₀ joined₀) place (rest from) (held now states joined)
                    ≡ and_then (moved_in (room_of states₀ joined₀) place along (held now states joined))
                    (moved_in (room_of states₀ joined₀) place (rest (at + 1)))
                both =
                    ap (λ l. moved_in (room_of states₀ joined₀) place l (held now states joined))
                    (found.skipped.same (spelled words) word mark leads
                    ∙ moves-here arcs at l (spelled words) (word ⊚ mark) (found.skipped.own l))
                    ∙ moved-parts (room_of states₀ joined₀) place (held now states joined) along (rest (at + 1))

                pub expanding-more : {next : Sizes} → r ≡ Ok next
                    → Expanding arcs words sizes states₀ joined₀ chains₀ place state word mark states' joined' chains'
                    next (at + 1)
                expanding-more {next} a = record {
                  after = record {
                    ordered = p.after.ordered;
                    after = omega (arith, p.after.after, found.skipped.up);
                    within = omega (arith, l);
                  };
                  going =
                      going_more p.going (moved_in (room_of states₀ joined₀) place (rest (at + 1)))
                      (step_in p.going (λ room. moved_in room place along (held now states joined)) here) both a;
                }

                pub expanding-stop : {fault : Fault} → r ≡ Err fault
                    → StepLeft states₀ joined₀ chains₀ (expanded_at arcs words states₀ joined₀ sizes place)
                    (Err fault) states' joined' chains'
                expanding-stop a =
                    going-stop p.going (moved_in (room_of states₀ joined₀) place (rest (at + 1)))
                    (step_in p.going (λ room. moved_in room place along (held now states joined)) here) both a
