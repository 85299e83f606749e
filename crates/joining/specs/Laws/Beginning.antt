-- Laws about the first two joined states: put one after the other into cleared words, they are what a join begins with.
use Rattle.std.specs.Prelude.{◌≡◌, refl, ℕ}
use Rattle.std.proofs.Common.{sym, ◌∙◌, inl, ⊎_elim, arith}
use Rattle.std.proofs.Math.Path.{ap, subst}
use mathlib.Core.List.{List, []}
use Rattle.std.proofs.Math.ListN.{length, length-set}
use Rattle.definitions.specs.Lists.{cleared}
use Rattle.definitions.specs.Growing.{Grown, Room}
use Rattle.definitions.specs.Joining.{Joined, joined, joined_words, joining, join_room}
use Rattle.definitions.proofs.Laws.Networks.Limits.{with_element}
use Rattle.definitions.proofs.Joined.States.{first-Distinct}
use Rattle.lines.specs.Putting.{put_at}
use Rattle.growing.specs.declared.Sizes.{Sizes}
use Rattle.growing.specs.Kept.{Kept}
use Rattle.growing.specs.Steps.{held_in}
use Rattle.growing.specs.Laws.KeptBack.{kept-none, kept_back}
use Rattle.growing.specs.Laws.KeptMore.{kept-element}
use Rattle.joined.specs.States.{joined_code, room_of, held, HasPlace, JoinedAdded}
use Rattle.joined.specs.Laws.Rows.{joined-coded}
use Rattle.joining.specs.Beginning.{Cleared, Chainable, Begun}

abbrev initial : Joined
initial = joined 0 0 0

abbrev final : Joined
final = joined 1 0 2

abbrev two : Sizes
two = record { table = 2; arcs = 0 }

-- what has grown before anything, with one state and with both
abbrev none : Grown Joined
none = record { table = []; arcs = [] }

module _ {states chains : List ℕ} (c : Chainable states chains) where
  -- cleared words hold nothing
  module _ (arcs : List ℕ) (e : Cleared arcs) where
    abbrev room : Room
    room = room_of states arcs

    kept₀ : Kept joined_code room none states arcs chains
    unfolding join_room
    kept₀ =
        subst (λ (a : List ℕ). Kept joined_code room none states a chains) (sym e)
        (subst (λ (s : List ℕ). Kept joined_code room none s (cleared (length arcs)) chains) (sym c.states_cleared)
        (kept-none joined_code room (length states) (length arcs) c.chains_cleared c.heads
        (omega arith) (omega arith)))

  pub first-place : HasPlace states chains 0
  unfolding join_room
  first-place =
      record {
        within = omega (arith, c.two);
        link = omega (arith, c.two, c.heads);
        few = omega arith;
      }

  module _ {states₁ chains₁ : List ℕ} (a : JoinedAdded (joined 0 0 0) 0 states chains states₁ chains₁) where
    kept₁ : (arcs : List ℕ) (e : Cleared arcs) → (length states₁ ≡ length states)
        × Kept joined_code (room_of states arcs) (with_element none initial) states₁ arcs chains₁
    unfolding join_room put_at joined_words
    kept₁ arcs e =
        kept-element (kept₀ arcs e) initial (joined-coded initial) (λ i. i) (omega (arith, c.two)) a.put a.linked

    states₁-sized : length states₁ ≡ length states
    states₁-sized = (kept₁ [] refl).0

    chains₁-sized : length chains₁ ≡ length chains
    chains₁-sized = ap length a.linked ∙ simp length-set refl

    pub second-place : HasPlace states₁ chains₁ 1
    unfolding join_room
    second-place =
        record {
          within = omega (arith, c.two, states₁-sized);
          link = omega (arith, c.two, c.heads, chains₁-sized);
          few = omega arith;
        }

    module _ {states₂ chains₂ : List ℕ} (b : JoinedAdded (joined 1 0 2) 1 states₁ chains₁ states₂ chains₂) where
      kept₂ : (arcs : List ℕ) (e : Cleared arcs) → (length states₂ ≡ length states₁)
          × Kept joined_code (room_of states arcs) (with_element (with_element none initial) final) states₂ arcs chains₂
      unfolding join_room put_at joined_words
      kept₂ arcs e =
          kept-element (kept₁ arcs e).1 final (joined-coded final)
          (⊎_elim (λ f. first-Distinct.0 (inl (sym f))) (λ i. i)) (omega (arith, c.two)) b.put b.linked

      sized : length states₂ ≡ length states
      sized = (kept₂ [] refl).0 ∙ states₁-sized

      back : (arcs : List ℕ) → Cleared arcs → held two states₂ arcs ≡ with_element (with_element none initial) final
      back arcs e = kept_back (kept₂ arcs e).1

      same-room : (arcs : List ℕ) → room_of states arcs ≡ room_of states₂ arcs
      same-room arcs = ap (λ (n : ℕ). join_room (record { states = n; arcs = length arcs })) (sym sized)

      pub both-begun : Begun states chains states₂ chains₂
      unfolding joining join_room
      both-begun =
          record {
            states_sized = sized;
            chains_sized = ap length b.linked ∙ (simp length-set refl) ∙ chains₁-sized;
            underway = λ arcs e. record {
              kept =
                  subst (λ room. Kept joined_code room (held_in joined_code two states₂ arcs) states₂ arcs chains₂)
                  (same-room arcs)
                  (subst (λ net. Kept joined_code (room_of states arcs) net states₂ arcs chains₂) (sym (back arcs e))
                  (kept₂ arcs e).1);
              whole = refl;
            };
            first = back;
          }
