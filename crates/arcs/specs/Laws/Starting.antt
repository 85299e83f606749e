-- Laws about a table of where the arcs of each state begin: it is filled in the order of states.
use Rattle.std.specs.Prelude.{◌≡◌, List, ℕ, ◌+◌, ◌≤◌, ◌<◌, length, set}
use Rattle.std.proofs.Common.{◌∙◌, arith, length-set, get_or-set_same, get_or-set_other}
use Rattle.std.proofs.Math.Decide.{ℕ_discrete}
use Rattle.definitions.specs.Lists.{◌!◌}
use Rattle.arcs.specs.Whole.{all_arcs}
use Rattle.arcs.specs.Below.{below}
use Rattle.arcs.specs.Laws.Leaving.{below_up}

-- the places of the states before one are filled; its arcs do not begin before `at`
pub record Filling (words : List ℕ) (size : ℕ) (starts : List ℕ) (state at : ℕ) : Type 0 where
  pub sized : length starts ≡ size
  pub within : state ≤ size
  pub filled : (i : ℕ) → i < state → starts ! i ≡ below i (all_arcs words)
  pub low_at : at ≤ below state (all_arcs words)

module _ {words starts : List ℕ} {size state at : ℕ} (f : Filling words size starts state at) where
  pub filling-more : state < size → {next : ℕ} → next ≡ below state (all_arcs words)
      → Filling words size (set starts state next) (state + 1) next
  filling-more l {next} e =
      record {
        sized = length-set starts state next ∙ f.sized;
        within = omega (arith, f.sized);
        filled = λ i h. at_each i h (ℕ_discrete i state);
        low_at = omega (arith, e, below_up (all_arcs words) state (state + 1) (omega arith));
      }
    where
      at_each : (i : ℕ) → i < state + 1 → Dec (i ≡ state) → set starts state next ! i ≡ below i (all_arcs words)
      at_each i h (yes same) = rw (same, get_or-set_same starts state next 0 (omega (arith, l, f.sized))) e
      at_each i h (no other) = get_or-set_other starts state i next 0 other ∙ f.filled i (omega arith)
