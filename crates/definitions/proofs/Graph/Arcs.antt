-- Which arcs a graph has: those into the elements where a sentence may start, and each element's block.
-- States tell elements apart, so an arc that leaves a state of an element is of its block, and nothing leaves
-- FINAL. A path is decoded by these facts (graph/Ways.antt).
use Rattle.std.specs.Prelude.{◌≡◌, ◌⊎◌, List, [], ◌∷◌, ◌++◌, map, ℕ, suc, ◌+◌, ◌-◌, ◌*◌, ◌/◌, ◌≤◌, ◌<◌, T, length, drop}
use Rattle.std.proofs.Common.{sym, ◌∙◌, inl, inr, length-drop}
use Rattle.std.proofs.Math.Path.{ap, subst}
use native.Mathlib.Omega.{arith}
use Rattle.std.proofs.Math.Arith.{digits_div}
use Rattle.definitions.specs.Lists.{◌!◌, concat_map, IsIn}
use Rattle.definitions.specs.Arcs.{Arc, arc, INITIAL, FINAL, first_state, last_state}
use Rattle.definitions.specs.Connecting.{own_arcs}
use Rattle.definitions.proofs.Laws.Lists.Members.{of-append, of_map, of-concat_map, of_one}
use Rattle.definitions.proofs.Graph.Graph.{Graph, Proper, entry_of, exit_of, arc_to, inner_arcs, end_arcs}
use Rattle.definitions.proofs.Graph.Graph.{follow_arcs, block, arcs_of}
use Rattle.definitions.proofs.Graph.ArcPaths.{same_from}

-- an own arc leaves the state some i after the first
pub own-form : (state : ℕ) (models : List ℕ) (a : Arc) → IsIn a (own_arcs state models)
    → (i : ℕ) × (i < length models) × (a ≡ arc (state + i) (suc (state + i)) (models ! i) 0)
unfolding own_arcs
own-form state [] a h = absurd h
own-form state (m ∷ models) a (inl e) =
    let same : state ≡ state + 0 = omega arith in
    (0, omega arith, e ∙ ap (λ (s : ℕ). arc s (suc s) m 0) same)
own-form state (m ∷ models) a (inr h) =
    let (i, k, e) = own-form (suc state) models a h in
    let same : suc state + i ≡ state + suc i = omega arith in
    (suc i, omega arith, e ∙ ap (λ (s : ℕ). arc s (suc s) (models ! i) 0) same)

-- an arc of the graph leads into a start, or is of the block of an element
pub data OfGraph {X : Type 0} (g : Graph X) (a : Arc) : Type 0 where
  starting : (y : X) → IsIn y g.starts → a ≡ arc_to g INITIAL y → OfGraph g a
  leaving : (x : X) → IsIn x g.table → IsIn a (block g x) → OfGraph g a

-- an arc of an element's block is between its own states, to FINAL, or into a follower
pub data OfBlock {X : Type 0} (g : Graph X) (x : X) (a : Arc) : Type 0 where
  inner : IsIn a (inner_arcs g x) → OfBlock g x a
  ending : T (g.ends x) → a ≡ arc (exit_of g x) FINAL 0 0 → OfBlock g x a
  following : (y : X) → IsIn y (g.followers x) → a ≡ arc_to g (exit_of g x) y → OfBlock g x a

module _ {X : Type 0} (g : Graph X) where
  pub of-graph : (a : Arc) → IsIn a (arcs_of g) → OfGraph g a
  unfolding arcs_of
  of-graph a h = go (of-append a (map (arc_to g INITIAL) g.starts) (concat_map (block g) g.table) h)
    where
      go : IsIn a (map (arc_to g INITIAL) g.starts) ⊎ IsIn a (concat_map (block g) g.table) → OfGraph g a
      go (inl i) = let (y, j, e) = of_map (arc_to g INITIAL) a g.starts i in starting y j e
      go (inr i) = let (x, j, k) = of-concat_map (block g) a g.table i in leaving x j k

  pub of_end : (x : X) (a : Arc) → IsIn a (end_arcs g x) → T (g.ends x) × (a ≡ arc (exit_of g x) FINAL 0 0)
  of_end x a h = of_one (arc (exit_of g x) FINAL 0 0) (g.ends x) a h

  pub of-block : (x : X) (a : Arc) → IsIn a (block g x) → OfBlock g x a
  of-block x a h = go (of-append a (inner_arcs g x ++ end_arcs g x) (follow_arcs g x) h)
    where
      stays : IsIn a (inner_arcs g x) ⊎ IsIn a (end_arcs g x) → OfBlock g x a
      stays (inl i) = inner i
      stays (inr i) = let (t, e) = of_end x a i in ending t e

      go : IsIn a (inner_arcs g x ++ end_arcs g x) ⊎ IsIn a (follow_arcs g x) → OfBlock g x a
      go (inl i) = stays (of-append a (inner_arcs g x) (end_arcs g x) i)
      go (inr i) = let (y, j, e) = of_map (arc_to g (exit_of g x)) a (g.followers x) i in following y j e

  -- the models of an element's states after the first
  abbrev pub later_models : X → List ℕ
  later_models x = drop 1 (g.models x)

module _ {X : Type 0} (g : Graph X) (proper : Proper g) where
  pub later_models-length : (x : X) → IsIn x g.table → length (later_models g x) ≡ g.states - 1
  later_models-length x h = length-drop 1 (g.models x) ∙ ap (λ (n : ℕ). n - 1) (proper.models_length x h)

  -- ---- states tell elements apart

  pub same-state : (x y : X) (i j : ℕ) → IsIn x g.table → IsIn y g.table → i < g.states → j < g.states
      → entry_of g x + i ≡ entry_of g y + j → x ≡ y
  unfolding first_state
  same-state x y i j h k m n e =
      let sums : g.place x * g.states + i ≡ g.place y * g.states + j = omega arith in
      let quotients = ap (λ (s : ℕ). s / g.states) sums in
      proper.place_injective x y h k (sym (digits_div (g.place x) m) ∙ quotients ∙ digits_div (g.place y) n)

  -- an arc of an element's block leaves one of its states
  pub block-from : (x : X) (a : Arc) → IsIn x g.table → IsIn a (block g x)
      → (i : ℕ) × (i < g.states) × (a.from ≡ entry_of g x + i)
  unfolding last_state
  block-from x a h i = go (of-block g x a i)
    where
      last : a.from ≡ exit_of g x → (n : ℕ) × (n < g.states) × (a.from ≡ entry_of g x + n)
      last e = (g.states - 1, omega (arith, proper.some_state), e)

      go : OfBlock g x a → (n : ℕ) × (n < g.states) × (a.from ≡ entry_of g x + n)
      go (inner j) =
          let (n, k, e) = own-form (entry_of g x) (later_models g x) a j in
          (n, omega (arith, later_models-length x h), same_from e)
      go (ending t e) = last (same_from e)
      go (following y j e) = last (same_from e)

  pub block-beyond-final : (x : X) (a : Arc) → IsIn x g.table → IsIn a (block g x) → 2 ≤ a.from
  unfolding first_state
  block-beyond-final x a h i = let (n, k, e) = block-from x a h i in omega arith

  -- ---- which arcs leave a state

  pub from-element : (x : X) (i : ℕ) (a : Arc) → IsIn x g.table → i < g.states → IsIn a (arcs_of g)
      → a.from ≡ entry_of g x + i → IsIn a (block g x)
  unfolding first_state
  from-element x i a h k m e = go (of-graph g a m)
    where
      go : OfGraph g a → IsIn a (block g x)
      go (starting y j f) = absurd (omega (arith, same_from f))
      go (leaving z j l) =
          let (n, p, f) = block-from z a j l in
          subst (λ (w : X). IsIn a (block g w)) (same-state z x n i j h p k (sym f ∙ e)) l

  pub from-initial : (a : Arc) → IsIn a (arcs_of g) → a.from ≡ INITIAL
      → (y : X) × IsIn y g.starts × (a ≡ arc_to g INITIAL y)
  from-initial a m e = go (of-graph g a m)
    where
      go : OfGraph g a → (y : X) × IsIn y g.starts × (a ≡ arc_to g INITIAL y)
      go (starting y j f) = (y, j, f)
      go (leaving z j l) = absurd (omega (arith, block-beyond-final z a j l))

  pub none-from-final : (a : Arc) → IsIn a (arcs_of g) → a.from ≡ FINAL → ⊥
  none-from-final a m e = go (of-graph g a m)
    where
      go : OfGraph g a → ⊥
      go (starting y j f) = omega (arith, same_from f)
      go (leaving z j l) = omega (arith, block-beyond-final z a j l)
