-- What the trail of a way carries: the models of its elements one after the other, and their phones.
-- Models and phones of elements are never 0 and all else on a trail is, so without the 0s just these stay.
-- graph/Theorem.antt reads paths by it.
use Rattle.std.specs.Prelude.{◌≡◌, Bool, not, ℕ, suc, ◌≤◌, T, eqb, length, drop}
use Rattle.std.proofs.Math.Path.{refl, ap}
use Rattle.std.proofs.Common.{sym, ◌∙◌, subst, inl, inr, arith}
use mathlib.Core.List.{List, [], ◌∷◌, ◌++◌, map}
use Rattle.definitions.specs.Lists.{◌!◌, every, select, concat_map, IsIn}
use Rattle.definitions.specs.Arcs.{Arc}
use Rattle.definitions.specs.Connecting.{own_arcs}
use Rattle.definitions.specs.Paths.{without_zeros}
use Rattle.definitions.proofs.Laws.Lists.Tests.{if-true}
use Rattle.definitions.proofs.Laws.Lists.Lists.{every-cons}
use Rattle.definitions.proofs.Graph.Graph.{Graph, Proper, entry_of, exit_of, arc_to, inner_arcs, Onward, Way}
use Rattle.definitions.proofs.Graph.ArcPaths.{models_on, phones_on}
use Rattle.definitions.proofs.Graph.Ways.{trail}

-- ---- leaving out the 0s

abbrev not_zero : ℕ → Bool
not_zero n = not (eqb n 0)

-- numbers that are not 0 stay
kept : (n : ℕ) (l : List ℕ) → T (not_zero n) → without_zeros (n ∷ l) ≡ n ∷ without_zeros l
unfolding without_zeros select
kept n l h = if-true (not_zero n) (n ∷ select not_zero l) (select not_zero l) h

all-kept : (k l : List ℕ) → T (every not_zero k) → without_zeros (k ++ l) ≡ k ++ without_zeros l
all-kept [] l h = refl
all-kept (n ∷ k) l h =
    let parts = (every-cons not_zero n k).0 h in
    kept n (k ++ l) parts.0 ∙ ap (λ (m : List ℕ). n ∷ m) (all-kept k l parts.1)

-- ---- own arcs

abbrev arc_model : Arc → ℕ
arc_model a = a.model

own-models : (s : ℕ) (models : List ℕ) (l : List Arc)
    → map arc_model (own_arcs s models ++ l) ≡ models ++ map arc_model l
unfolding own_arcs
own-models s [] l = refl
own-models s (m ∷ models) l = ap (λ (k : List ℕ). m ∷ k) (own-models (suc s) models l)

own-phones : (s : ℕ) (models : List ℕ) (l : List Arc) → phones_on (own_arcs s models ++ l) ≡ phones_on l
unfolding own_arcs without_zeros select
own-phones s [] l = refl
own-phones s (m ∷ models) l = own-phones (suc s) models l

first-and-later : (models : List ℕ) → 1 ≤ length models → models ! 0 ∷ drop 1 models ≡ models
first-and-later [] h = absurd (omega arith)
first-and-later (m ∷ models) h = refl

module _ {X : Type 0} (g : Graph X) (proper : Proper g) where
  -- ---- an element's arcs, and what comes after them

  element-models : (s : ℕ) (x : X) (l : List Arc) → IsIn x g.table
      → models_on (arc_to g s x ∷ (inner_arcs g x ++ l)) ≡ g.models x ++ models_on l
  element-models s x l h =
      let some : 1 ≤ length (g.models x) = omega (arith, proper.models_length x h, proper.some_state) in
      ap (λ (k : List ℕ). without_zeros (g.models x ! 0 ∷ k)) (own-models _ (drop 1 (g.models x)) l)
      ∙ ap (λ (k : List ℕ). without_zeros (k ++ map arc_model l)) (first-and-later (g.models x) some)
      ∙ all-kept (g.models x) (map arc_model l) (proper.models_positive x h)

  element-phones : (s : ℕ) (x : X) (l : List Arc) → IsIn x g.table
      → phones_on (arc_to g s x ∷ (inner_arcs g x ++ l)) ≡ g.phone x ∷ phones_on l
  element-phones s x l h =
      kept (g.phone x) _ (proper.phone_positive x h)
      ∙ ap (λ (k : List ℕ). g.phone x ∷ k) (own-phones (entry_of g x) (drop 1 (g.models x)) l)

  -- ---- the trail of elements of the table

  trail-models : (s : ℕ) (ws : List X) → ((x : X) → IsIn x ws → IsIn x g.table)
      → models_on (trail g s ws) ≡ concat_map g.models ws
  unfolding without_zeros select concat_map
  trail-models s [] there = refl
  trail-models s (x ∷ ws) there =
      element-models s x (trail g (exit_of g x) ws) (there x (inl refl))
      ∙ ap (λ (k : List ℕ). g.models x ++ k) (trail-models (exit_of g x) ws (λ y i. there y (inr i)))

  trail-phones : (s : ℕ) (ws : List X) → ((x : X) → IsIn x ws → IsIn x g.table)
      → phones_on (trail g s ws) ≡ map g.phone ws
  unfolding without_zeros select
  trail-phones s [] there = refl
  trail-phones s (x ∷ ws) there =
      element-phones s x (trail g (exit_of g x) ws) (there x (inl refl))
      ∙ ap (λ (k : List ℕ). g.phone x ∷ k) (trail-phones (exit_of g x) ws (λ y i. there y (inr i)))

  -- the elements of a way are in the table
  onward-in : (x : X) (ws : List X) → IsIn x g.table → Onward g x ws
      → (y : X) → IsIn y ws → IsIn y g.table
  onward-in x [] h on y i = absurd i
  onward-in x (z ∷ ws) h (j, on) y (inl e) =
      subst (λ (w : X). IsIn w g.table) (sym e) (proper.followers_in x z h j)
  onward-in x (z ∷ ws) h (j, on) y (inr i) = onward-in z ws (proper.followers_in x z h j) on y i

  way_in : (ws : List X) → Way g ws → (y : X) → IsIn y ws → IsIn y g.table
  way_in [] h y i = absurd h
  way_in (x ∷ ws) (j, on) y (inl e) = subst (λ (w : X). IsIn w g.table) (sym e) (proper.starts_in x j)
  way_in (x ∷ ws) (j, on) y (inr i) = onward-in x ws (proper.starts_in x j) on y i

  pub way-models : (s : ℕ) (ws : List X) → Way g ws → models_on (trail g s ws) ≡ concat_map g.models ws
  way-models s ws h = trail-models s ws (way_in ws h)

  pub way-phones : (s : ℕ) (ws : List X) → Way g ws → phones_on (trail g s ws) ≡ map g.phone ws
  way-phones s ws h = trail-phones s ws (way_in ws h)
