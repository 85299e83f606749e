-- No arc of a graph occurs twice: arcs into different elements enter different states, arcs of different
-- blocks leave different states, and the arcs of a block differ by kind in phone or in the state they enter.
-- So the arcs of a path tell their places.
use Rattle.std.specs.Prelude.{◌≡◌, ◌⊎◌, List, [], ◌∷◌, ◌++◌, map, not, T, eqb}
use Rattle.std.proofs.Common.{sym, ◌∙◌, subst, inl, inr}
use Rattle.std.proofs.Math.Path.{ap}
use Prim.Native.Nat.{ℕ, suc, ◌+◌, ◌<◌}
use native.Mathlib.Omega.{arith}
use Rattle.definitions.specs.Lists.{concat_map, IsIn, Distinct}
use Rattle.definitions.specs.Arcs.{Arc, arc, INITIAL, FINAL, first_state}
use Rattle.definitions.specs.Connecting.{own_arcs}
use Rattle.definitions.proofs.Laws.Lists.Members.{of-append, of_map, of-concat_map, distinct_append}
use Rattle.definitions.proofs.Laws.Lists.Members.{Distinct-map, Distinct-concat_map, Distinct-kept}
use Rattle.definitions.proofs.Graph.Graph.{Graph, Proper, entry_of, exit_of, arc_to, inner_arcs, end_arcs}
use Rattle.definitions.proofs.Graph.Graph.{block, arcs_of}
use Rattle.definitions.proofs.Graph.ArcPaths.{same_from}
use Rattle.definitions.proofs.Graph.Arcs.{own-form, of_end, later_models, same-state, block-from}
use Rattle.definitions.proofs.Graph.Arcs.{block-beyond-final}

own-once : (state : ℕ) (models : List ℕ) → Distinct (own_arcs state models)
unfolding own_arcs
own-once state [] = tt
own-once state (m ∷ models) = (again, own-once (suc state) models)
  where
    again : IsIn (arc state (suc state) m 0) (own_arcs (suc state) models) → ⊥
    again h = let (i, k, e) = own-form (suc state) models _ h in omega (arith, same_from e)

module _ {X : Type 0} (g : Graph X) where
  end-once : (x : X) → Distinct (end_arcs g x)
  end-once x = Distinct-kept (arc (exit_of g x) FINAL 0 0) [] (g.ends x) tt (λ h. h)

  inner-not-end : (x : X) (a : Arc) → IsIn a (inner_arcs g x) → IsIn a (end_arcs g x) → ⊥
  unfolding first_state
  inner-not-end x a h k =
      let (i, l, e) = own-form (entry_of g x) (later_models g x) a h in
      let enters : a.to ≡ suc (entry_of g x + i) = ap (λ (b : Arc). b.to) e in
      let ends : a.to ≡ FINAL = ap (λ (b : Arc). b.to) (of_end g x a k).1 in
      omega arith

  -- own arcs and the arc to FINAL carry no phone
  no-phone : (x : X) (a : Arc) → IsIn a (inner_arcs g x ++ end_arcs g x) → a.phone ≡ 0
  no-phone x a h = go (of-append a (inner_arcs g x) (end_arcs g x) h)
    where
      phones : {b c : Arc} → b ≡ c → b.phone ≡ c.phone
      phones e = ap (λ (b : Arc). b.phone) e

      go : IsIn a (inner_arcs g x) ⊎ IsIn a (end_arcs g x) → a.phone ≡ 0
      go (inl i) = let (j, k, e) = own-form (entry_of g x) (later_models g x) a i in phones e
      go (inr i) = phones (of_end g x a i).1

module _ {X : Type 0} (g : Graph X) (proper : Proper g) where
  -- arcs into followers do
  some_phone : (x : X) (s : ℕ) (a : Arc) → IsIn x g.table → IsIn a (map (arc_to g s) (g.followers x))
      → a.phone ≡ 0 → ⊥
  some_phone x s a h i e =
      let (y, j, f) = of_map (arc_to g s) a (g.followers x) i in
      let none : g.phone y ≡ 0 = sym (ap (λ (b : Arc). b.phone) f) ∙ e in
      subst (λ (n : ℕ). T (not (eqb n 0))) none (proper.phone_positive y (proper.followers_in x y h j))

  arc_to-injective : (s : ℕ) (y z : X) → IsIn y g.table → IsIn z g.table
      → arc_to g s y ≡ arc_to g s z → y ≡ z
  arc_to-injective s y z h k e =
      let firsts : entry_of g y ≡ entry_of g z = ap (λ (a : Arc). a.to) e in
      let some : 0 < g.states = proper.some_state in
      same-state g proper y z 0 0 h k some some (ap (λ (n : ℕ). n + 0) firsts)

  block-once : (x : X) → IsIn x g.table → Distinct (block g x)
  block-once x h =
      let there : (y : X) → IsIn y (g.followers x) → IsIn y g.table = λ y. proper.followers_in x y h in
      distinct_append (inner_arcs g x ++ end_arcs g x) (map (arc_to g (exit_of g x)) (g.followers x))
      (distinct_append (inner_arcs g x) (end_arcs g x) (own-once _ _) (end-once g x) (inner-not-end g x))
      (Distinct-map (arc_to g (exit_of g x)) (g.followers x) (proper.followers_once x h)
      (λ y z i j. arc_to-injective _ y z (there y i) (there z j)))
      (λ a i j. some_phone x _ a h j (no-phone g x a i))

  blocks-apart : (x y : X) (a : Arc) → IsIn x g.table → IsIn y g.table
      → IsIn a (block g x) → IsIn a (block g y) → x ≡ y
  blocks-apart x y a h k i j =
      let (m, s, e) = block-from g proper x a h i in
      let (n, t, f) = block-from g proper y a k j in
      same-state g proper x y m n h k s t (sym e ∙ f)

  starts_apart : (a : Arc) → IsIn a (map (arc_to g INITIAL) g.starts)
      → IsIn a (concat_map (block g) g.table) → ⊥
  starts_apart a h k =
      let (y, i, e) = of_map (arc_to g INITIAL) a g.starts h in
      let (x, j, l) = of-concat_map (block g) a g.table k in
      omega (arith, same_from e, block-beyond-final g proper x a j l)

  pub arcs-once : Distinct (arcs_of g)
  unfolding arcs_of
  arcs-once =
      distinct_append (map (arc_to g INITIAL) g.starts) (concat_map (block g) g.table)
      (Distinct-map (arc_to g INITIAL) g.starts proper.starts_once
      (λ y z i j. arc_to-injective _ y z (proper.starts_in y i) (proper.starts_in z j)))
      (Distinct-concat_map (block g) g.table proper.table_once block-once blocks-apart)
      starts_apart
