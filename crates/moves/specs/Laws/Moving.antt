-- Laws about moves: whether one is allowed, one alone, and none.
use Rattle.std.specs.Prelude.{◌≡◌, refl, List, [], ◌∷◌, Bool, true, false, not, ◌&&◌, ℕ, eqb, Result, Ok}
use Rattle.std.proofs.Common.{sym, ap, ◌∙◌}
use Rattle.std.proofs.Math.Path.{subst}
use borrow.Author.Tests.{ne_eqb, eq-eqb}
use Rattle.std.proofs.Math.Bool.{not-not}
use Rattle.definitions.specs.declared.Fault.{Fault}
use Rattle.definitions.specs.Faults.{Outcome, answered}
use Rattle.definitions.specs.Lists.{select}
use Rattle.definitions.specs.Growing.{Grown, enter, perform, perform_all}
use Rattle.definitions.specs.Joining.{Joined, joined, Move, may_enter}
use Rattle.growing.specs.declared.Sizes.{Sizes}
use Rattle.growing.specs.Laws.Performing.{once_more}
use Rattle.growing.specs.Laws.Steps.{held-sizes, left-answered}
use Rattle.joined.specs.States.{joined_code, room_of, entering, held, Underway, StepLeft, entered}
use Rattle.moves.specs.Moving.{moved_all, allowed}

-- ---- FINAL

module _ (state word mark : ℕ) where
  pub free-elsewhere : (state ≡ 1 → ⊥) → not false ≡ may_enter (joined state word mark)
  unfolding may_enter
  free-elsewhere n = rw (ne_eqb _ _ n)

  -- FINAL is barred but for 0, 2
  pub by-closing : (other : Bool) → state ≡ 1 → other ≡ not (eqb word 0 && eqb mark 2)
      → not other ≡ may_enter (joined state word mark)
  unfolding may_enter
  by-closing other e f = rw (f, eq-eqb _ _ e, not-not (eqb word 0 && eqb mark 2))

-- a move that is allowed, and one that is not
module _ (m : Move) where
  pub allowed-one : may_enter m.target ≡ true → allowed (m ∷ []) ≡ m ∷ []
  unfolding select
  allowed-one e = rw e

  pub allowed-none : may_enter m.target ≡ false → allowed (m ∷ []) ≡ []
  unfolding select
  allowed-none e = rw e

-- ---- what the words hold

module _ {sizes : Sizes} {states joined chains : List ℕ} (u : Underway sizes states joined chains) where
  -- nothing is moved
  nothing-moved : {outcome : Outcome (Grown Joined)} → outcome ≡ answered (held sizes states joined)
      → StepLeft states joined chains outcome (Ok sizes) states joined chains
  nothing-moved e =
      left-answered refl refl refl (held sizes states joined) e
      (ap Ok (sym (held-sizes joined_code sizes states joined))) u.kept

  pub none-moved : (from : ℕ) {moves : List Move} → moves ≡ []
      → StepLeft states joined chains (moved_all states joined sizes from moves) (Ok sizes) states joined chains
  unfolding perform_all
  none-moved from e = nothing-moved (ap (moved_all states joined sizes from) e)

-- one move is entered
module _ {states joined chains states' joined' chains' : List ℕ} {answer : Result Sizes Fault} (sizes : Sizes) (from : ℕ) (m : Move)
  where
    pub one-moved : {moves : List Move} → moves ≡ m ∷ []
        → StepLeft states joined chains (entered states joined sizes from m) answer states' joined' chains'
        → StepLeft states joined chains (moved_all states joined sizes from moves) answer states' joined' chains'
    unfolding perform_all
    one-moved e left =
        subst (λ o. StepLeft states joined chains o answer states' joined' chains')
        (sym (ap (moved_all states joined sizes from) e
        ∙ once_more (perform entering (room_of states joined) (held sizes states joined) (enter from m)))) left
