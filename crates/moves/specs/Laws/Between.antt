-- Laws about all moves along an arc from between words: an arc without phone keeps the mark, on silence the lesson may
-- close first, and then words begin.
use Rattle.std.specs.Prelude.{◌≡◌, ℕ, suc, ◌-◌, length, Result, Ok, Err}
use Rattle.std.proofs.Common.{sym, ap, ◌∙◌, subst, arith}
use mathlib.Core.List.{List, [], ◌∷◌, ◌++◌, map}
use borrow.Author.Tests.{eq-eqb, ne_eqb}
use Rattle.definitions.specs.declared.Fault.{Fault}
use Rattle.definitions.specs.Faults.{Outcome}
use Rattle.definitions.specs.Lists.{up_from, concat_map}
use Rattle.definitions.specs.Growing.{Grown}
use Rattle.definitions.specs.Joining.{◌⊚◌, step, opening, between, outside, steps, Joined, Move, move_by}
use Rattle.definitions.specs.Joining.{moves_along}
use Rattle.growing.specs.declared.Sizes.{Sizes}
use Rattle.growing.specs.Laws.Going.{going_start, going-last, going_more, going-stop}
use Rattle.marks.specs.Lexicon.{spelled}
use Rattle.joined.specs.States.{room_of, held, StepLeft}
use Rattle.joined.specs.Laws.Going.{Going, going_on, step_in}
use Rattle.moves.specs.declared.Hop.{Hop}
use Rattle.moves.specs.Moving.{hop_arc, moved_all, allowed, openings, Followable, Openable}
use Rattle.moves.specs.Laws.Opening.{moved_in, moved-parts, allowed-more, opened}

module _ (words : List ℕ) (hop : Hop) where
  abbrev all : List Move
  all = moves_along (spelled words) (0 ⊚ 1) (hop_arc hop)

  -- the move that closes the lesson
  abbrev pub closing : Move
  closing = move_by (hop_arc hop) (step 0 (0 ⊚ 2))

  every-word : concat_map (opening (spelled words) hop.arc.phone) (up_from 1 (length (spelled words)))
      ≡ openings (spelled words) hop.arc.phone 1
  every-word =
      let many : length (spelled words) ≡ suc (length (spelled words)) - 1 = omega arith in
      ap (λ (n : ℕ). concat_map (opening (spelled words) hop.arc.phone) (up_from 1 n)) many

  pub keeps-between : hop.arc.phone ≡ 0
      → allowed (move_by (hop_arc hop) (step 0 (0 ⊚ 1)) ∷ []) ≡ moves_along (spelled words) (0 ⊚ 1) (hop_arc hop)
  unfolding moves_along steps
  keeps-between e = rw (eq-eqb hop.arc.phone 0 e)

  pub opens-only : (hop.arc.phone ≡ 0 → ⊥) → (hop.arc.phone ≡ 1 → ⊥)
      → opened words hop 1 ≡ moves_along (spelled words) (0 ⊚ 1) (hop_arc hop)
  unfolding moves_along steps outside between
  opens-only n m =
      rw (ne_eqb hop.arc.phone 0 n, ne_eqb hop.arc.phone 1 m)
      (ap (λ l. allowed (map (move_by (hop_arc hop)) l)) (sym every-word))

  closes-and-opens : (hop.arc.phone ≡ 0 → ⊥) → hop.arc.phone ≡ 1
      → moves_along (spelled words) (0 ⊚ 1) (hop_arc hop) ≡ allowed (closing ∷ []) ++ opened words hop 1
  unfolding moves_along steps outside between
  closes-and-opens n e =
      rw (ne_eqb hop.arc.phone 0 n, eq-eqb hop.arc.phone 1 e)
      (ap (λ l. allowed (closing ∷ map (move_by (hop_arc hop)) l)) every-word
      ∙ allowed-more closing (map (move_by (hop_arc hop)) (openings (spelled words) hop.arc.phone 1)))

-- the same outcome by other words for its moves
pub left_by : {states joined chains states' joined' chains' : List ℕ} {answer : Result Sizes Fault} (sizes : Sizes) (from : ℕ)
    {k l : List Move} → k ≡ l
    → StepLeft states joined chains (moved_all states joined sizes from k) answer states' joined' chains'
    → StepLeft states joined chains (moved_all states joined sizes from l) answer states' joined' chains'
left_by {states} {joined} {chains} {states'} {joined'} {chains'} {answer} sizes from e left =
    subst (λ l. StepLeft states joined chains (moved_all states joined sizes from l) answer states' joined' chains') e
    left

module _ {hop : Hop} {words index : List ℕ} {sizes : Sizes} {states joined chains : List ℕ}
    (f : Followable hop words index sizes states joined chains) where
  pub openable : (hop.arc.phone ≡ 0 → ⊥) → Openable hop words index sizes states joined chains
  openable n = record { followable = f; some = omega (arith, n) }

  -- the closing silence is entered, then the words
  module _ (n : hop.arc.phone ≡ 0 → ⊥) (e : hop.arc.phone ≡ 1) {r : Result Sizes Fault} {states' joined' chains' : List ℕ}
      (left : StepLeft states joined chains
      (moved_all states joined sizes hop.from (allowed (closing words hop ∷ []))) r states' joined' chains') where
    abbrev whole : Outcome (Grown Joined)
    whole = moved_all states joined sizes hop.from (moves_along (spelled words) (0 ⊚ 1) (hop_arc hop))

    begun : Going states joined chains whole
        (moved_in (room_of states joined) hop.from (allowed (closing words hop ∷ []) ++ opened words hop 1))
        sizes states joined chains
    begun =
        going_start whole _ f.underway
        (ap (moved_all states joined sizes hop.from) (closes-and-opens words hop n e))

    pub closed : {next : Sizes} → r ≡ Ok next
        → Going states joined chains
        (moved_all states joined sizes hop.from (moves_along (spelled words) (0 ⊚ 1) (hop_arc hop)))
        (moved_in (room_of states joined) hop.from (opened words hop 1)) next states' joined' chains'
    closed a =
        going_more begun (moved_in (room_of states joined) hop.from (opened words hop 1)) left
        (moved-parts (room_of states joined) hop.from (held sizes states joined) (allowed (closing words hop ∷ []))
        (opened words hop 1)) a

    pub closed-openable : {next : Sizes} → r ≡ Ok next
        → Openable hop words index next states' joined' chains'
    closed-openable a =
        record {
          followable =
              record {
                lexicon = f.lexicon;
                opened = f.opened;
                underway = going_on (closed a);
                phone = f.phone;
              };
          some = omega (arith, e);
        }

    pub closed-then : {next : Sizes} → r ≡ Ok next → {s : Result Sizes Fault} {states'' joined'' chains'' : List ℕ}
        → StepLeft states' joined' chains' (moved_all states' joined' next hop.from (opened words hop 1)) s
        states'' joined'' chains''
        → StepLeft states joined chains
        (moved_all states joined sizes hop.from (moves_along (spelled words) (0 ⊚ 1) (hop_arc hop))) s
        states'' joined'' chains''
    closed-then {next} a last =
        going-last (closed a)
        (step_in (closed a) (λ room. moved_in room hop.from (opened words hop 1) (held next states' joined')) last)

    pub closed-stop : {fault : Fault} → r ≡ Err fault
        → StepLeft states joined chains
        (moved_all states joined sizes hop.from (moves_along (spelled words) (0 ⊚ 1) (hop_arc hop)))
        (Err fault) states' joined' chains'
    closed-stop a =
        going-stop begun (moved_in (room_of states joined) hop.from (opened words hop 1)) left
        (moved-parts (room_of states joined) hop.from (held sizes states joined) (allowed (closing words hop ∷ []))
        (opened words hop 1)) a
