-- Paths and ways: the trail of a way is a path from INITIAL to FINAL, and each such path is a way's trail.
-- A path is decoded arc by arc: its state tells the element, and the arcs that leave the state are known.
-- So the theorem about paths becomes one about ways.
use Rattle.std.specs.Prelude.{◌≡◌, T, drop}
use Rattle.std.proofs.Math.Path.{refl, sym, ap, ap₂, subst}
use Rattle.std.proofs.Common.{◌∙◌, inl, inr, drop_of_length-le, drop-cons}
use mathlib.Core.List.{List, [], ◌∷◌, ◌++◌, map}
use Prim.Native.Nat.{ℕ, suc, ◌+◌, ◌≤◌, ◌<◌}
use native.Mathlib.Omega.{arith}
use Rattle.std.proofs.Math.ListN.{length}
use Rattle.definitions.specs.Lists.{◌!◌, IsIn}
use Rattle.definitions.specs.Arcs.{Arc, arc, INITIAL, FINAL, first_state, last_state}
use Rattle.definitions.specs.Connecting.{own_arcs}
use Rattle.definitions.proofs.Laws.Lists.Members.{in_left, in_right, in_map, in-concat_map, in_kept}
use Rattle.definitions.proofs.Graph.Graph.{Graph, Proper, entry_of, exit_of, arc_to, inner_arcs, end_arcs}
use Rattle.definitions.proofs.Graph.Graph.{follow_arcs, block, arcs_of, Onward, Way}
use Rattle.definitions.proofs.Graph.ArcPaths.{Linked, same_from}
use Rattle.definitions.proofs.Graph.Arcs.{OfBlock, inner, ending, following, of-block, own-form}
use Rattle.definitions.proofs.Graph.Arcs.{later_models, later_models-length, from-element, from-initial}
use Rattle.definitions.proofs.Graph.Arcs.{none-from-final}

module _ {X : Type 0} (g : Graph X) where
  -- the arcs that a way runs inner-linked
  abbrev pub trail : (from : ℕ) → List X → List Arc
  trail from [] = arc from FINAL 0 0 ∷ []
  trail from (x ∷ ws) = arc_to g from x ∷ (inner_arcs g x ++ trail (exit_of g x) ws)

  -- arcs of the graph that lead from a state to FINAL
  abbrev pub Finishing : (from : ℕ) → List Arc → Type 0
  Finishing from l = Linked (arcs_of g) from l FINAL

  -- ---- the arcs of a trail are arcs of the graph

  start-in : (y : X) → IsIn y g.starts → IsIn (arc_to g INITIAL y) (arcs_of g)
  unfolding arcs_of
  start-in y h = in_left _ (map (arc_to g INITIAL) g.starts) _ (in_map (arc_to g INITIAL) y g.starts h)

  block_in : (x : X) (a : Arc) → IsIn x g.table → IsIn a (block g x) → IsIn a (arcs_of g)
  unfolding arcs_of
  block_in x a h i =
      in_right a (map (arc_to g INITIAL) g.starts) _ (in-concat_map (block g) x a g.table h i)

  inner-in : (x : X) (a : Arc) → IsIn x g.table → IsIn a (inner_arcs g x) → IsIn a (arcs_of g)
  inner-in x a h i =
      let stays : IsIn a (inner_arcs g x ++ end_arcs g x) = in_left a (inner_arcs g x) (end_arcs g x) i in
      block_in x a h (in_left a (inner_arcs g x ++ end_arcs g x) (follow_arcs g x) stays)

  end-in : (x : X) → IsIn x g.table → T (g.ends x) → IsIn (arc (exit_of g x) FINAL 0 0) (arcs_of g)
  end-in x h t =
      let a : Arc = arc (exit_of g x) FINAL 0 0 in
      let there : IsIn a (end_arcs g x) = in_kept a [] (g.ends x) a t refl in
      let stays : IsIn a (inner_arcs g x ++ end_arcs g x) = in_right a (inner_arcs g x) (end_arcs g x) there in
      block_in x a h (in_left a (inner_arcs g x ++ end_arcs g x) (follow_arcs g x) stays)

  follower-in : (x y : X) → IsIn x g.table → IsIn y (g.followers x)
      → IsIn (arc_to g (exit_of g x) y) (arcs_of g)
  follower-in x y h i =
      let goes = in_map (arc_to g (exit_of g x)) y (g.followers x) i in
      block_in x _ h (in_right _ (inner_arcs g x ++ end_arcs g x) (follow_arcs g x) goes)

  -- own arcs, one after the other
  own-linked : (s : ℕ) (models : List ℕ) (l : List Arc)
      → ((a : Arc) → IsIn a (own_arcs s models) → IsIn a (arcs_of g))
      → Finishing (s + length models) l → Finishing s (own_arcs s models ++ l)
  unfolding own_arcs
  own-linked s [] l there h = subst (λ (n : ℕ). Finishing n l) {x = s + 0} {y = s} (omega arith) h
  own-linked s (m ∷ models) l there h =
      let same : s + suc (length models) ≡ suc s + length models = omega arith in
      let onward = subst (λ (n : ℕ). Finishing n l) same h in
      (there _ (inl refl), refl, own-linked (suc s) models l (λ a i. there a (inr i)) onward)

module _ {X : Type 0} (g : Graph X) (proper : Proper g) where
  -- ---- the trail of a way is a path

  inner-linked : (x : X) (l : List Arc) → IsIn x g.table
      → Finishing g (exit_of g x) l → Finishing g (entry_of g x) (inner_arcs g x ++ l)
  unfolding last_state
  inner-linked x l h m =
      own-linked g (entry_of g x) (later_models g x) l (λ a i. inner-in g x a h i)
      (subst (λ (n : ℕ). Finishing g (entry_of g x + n) l) (sym (later_models-length g proper x h)) m)

  onward-linked : (x : X) (ws : List X) → IsIn x g.table → Onward g x ws
      → Finishing g (exit_of g x) (trail g (exit_of g x) ws)
  onward-linked x [] h t = (end-in g x h t, refl, refl)
  onward-linked x (y ∷ ws) h (i, on) =
      let there : IsIn y g.table = proper.followers_in x y h i in
      (follower-in g x y h i, refl, inner-linked y _ there (onward-linked y ws there on))

  pub way-linked : (ws : List X) → Way g ws → Finishing g INITIAL (trail g INITIAL ws)
  way-linked [] h = absurd h
  way-linked (x ∷ ws) (i, on) =
      let there : IsIn x g.table = proper.starts_in x i in
      (start-in g x i, refl, inner-linked x _ there (onward-linked x ws there on))

  -- ---- a path is the trail of a way

  final-stays : (l : List Arc) → Finishing g FINAL l → l ≡ []
  final-stays [] h = refl
  final-stays (a ∷ l) (i, e, rest) = absurd (none-from-final g proper a i e)

  -- what is left of a path at a state of an element, i states after its first
  abbrev RestOf : X → (s i : ℕ) → List Arc → Type 0
  RestOf x s i l =
      (ws : List X) × Onward g x ws × (l ≡ own_arcs s (drop i (later_models g x)) ++ trail g (exit_of g x) ws)

  abbrev Decoded : List Arc → Type 0
  Decoded l =
      (x : X) (s i : ℕ) → IsIn x g.table → i < g.states → s ≡ entry_of g x + i
      → Finishing g s l → RestOf x s i l

  -- an own arc leads to the next state
  own-next : (x : X) (s i : ℕ) (a : Arc) → s ≡ entry_of g x + i → a.from ≡ s → IsIn a (inner_arcs g x)
      → (i < length (later_models g x)) × (a ≡ arc s (suc s) (later_models g x ! i) 0)
  own-next x s i a e f m =
      let (j, k, form) = own-form (entry_of g x) (later_models g x) a m in
      let from : a.from ≡ entry_of g x + j = same_from form in
      let same : j ≡ i = omega arith in (
        subst (λ (n : ℕ). n < length (later_models g x)) same k,
        form ∙ ap₂ (λ (t n : ℕ). arc t (suc t) (later_models g x ! n) 0) (sym from ∙ f) same,
      )

  after-own : (x : X) (s i : ℕ) (a : Arc) (l : List Arc) → i < length (later_models g x)
      → a ≡ arc s (suc s) (later_models g x ! i) 0 → RestOf x (suc s) (suc i) l → RestOf x s i (a ∷ l)
  unfolding own_arcs
  after-own x s i a l k form (ws, on, same) =
      let models = sym (drop-cons (later_models g x) i 0 k) in
      (ws, on, ap₂ ◌∷◌ form same ∙ ap (λ (r : List ℕ). own_arcs s r ++ trail g (exit_of g x) ws) models)

  -- at the last state no own arc is left
  at_last : (x : X) (s i : ℕ) → IsIn x g.table → s ≡ entry_of g x + i → s ≡ exit_of g x
      → own_arcs s (drop i (later_models g x)) ≡ []
  unfolding last_state own_arcs
  at_last x s i h e f =
      let fewer : length (later_models g x) ≤ i = omega (arith, later_models-length g proper x h) in
      ap (own_arcs s) (drop_of_length-le (later_models g x) {i = i} fewer)

  after_last : (x : X) (s i : ℕ) (l : List Arc) (ws : List X) → own_arcs s (drop i (later_models g x)) ≡ []
      → Onward g x ws → l ≡ trail g (exit_of g x) ws → RestOf x s i l
  after_last x s i l ws none on same =
      (ws, on, same ∙ ap (λ (k : List Arc). k ++ trail g (exit_of g x) ws) (sym none))

  -- what follows an arc follows an equal one
  same-onward : (a b : Arc) (l : List Arc) → a ≡ b → Finishing g a.to l → Finishing g b.to l
  same-onward a b l e h = subst (λ (c : Arc). Finishing g c.to l) e h

  decode-cons : (a : Arc) (l : List Arc) → Decoded l → Decoded (a ∷ l)
  decode-cons a l more x s i h k e (m, f, rest) =
      go (of-block g x a (from-element g proper x i a h k m (f ∙ e)))
    where
      last : (b : Arc) → a ≡ b → b.from ≡ exit_of g x → own_arcs s (drop i (later_models g x)) ≡ []
      last b form from = at_last x s i h e (sym f ∙ same_from form ∙ from)

      go : OfBlock g x a → RestOf x s i (a ∷ l)
      go (inner j) =
          let (n, form) = own-next x s i a e f j in
          let inside : suc i < g.states = omega (arith, later_models-length g proper x h) in
          let onward = same-onward a _ l form rest in
          after-own x s i a l n form (more x (suc s) (suc i) h inside (omega arith) onward)
      go (ending t form) =
          let nothing : l ≡ [] = final-stays l (same-onward a _ l form rest) in
          after_last x s i (a ∷ l) [] (last _ form refl) t (ap₂ ◌∷◌ form nothing)
      go (following y j form) =
          let there : IsIn y g.table = proper.followers_in x y h j in
          let onward = same-onward a _ l form rest in
          let (ws, on, same) = more y (entry_of g y) 0 there proper.some_state (omega arith) onward in
          after_last x s i (a ∷ l) (y ∷ ws) (last _ form refl) (j, on) (ap₂ ◌∷◌ form same)

  decode : (l : List Arc) → Decoded l
  unfolding first_state
  decode [] x s i h k e m = absurd (omega arith)
  decode (a ∷ l) x s i h k e m = decode-cons a l (decode l) x s i h k e m

  pub way_of : (l : List Arc) → Finishing g INITIAL l → (ws : List X) × Way g ws × (l ≡ trail g INITIAL ws)
  way_of [] h = absurd (omega arith)
  way_of (a ∷ l) (i, e, rest) =
      let (y, j, form) = from-initial g proper a i e in
      let onward = same-onward a _ l form rest in
      let there : IsIn y g.table = proper.starts_in y j in
      let (ws, on, same) = decode l y (entry_of g y) 0 there proper.some_state (omega arith) onward in
      (y ∷ ws, (j, on), ap₂ ◌∷◌ form same)
