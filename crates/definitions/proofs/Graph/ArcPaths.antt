-- A path as the list of its arcs instead of their places: each an arc of the network that leaves the state
-- that the one before it enters. Where no arc occurs twice the arcs tell the places. The theorem about graphs
-- works on arcs and speaks of places only through this file.
use Rattle.std.specs.Prelude.{◌≡◌, refl, ◌↔◌, ℕ, ◌<◌, length}
use Rattle.std.proofs.Common.{sym, ◌∙◌, inl, inr, ltb→lt, lt→ltb}
use Rattle.std.proofs.Math.Path.{ap, ap₂, subst}
use mathlib.Core.List.{List, [], ◌∷◌, map, map-map, nil≢cons, cons≢nil, head-eq_of_cons-eq, tail-eq_of_cons-eq}
use Rattle.std.proofs.Math.Bool.{Bool}
use Rattle.std.proofs.Math.Dec.{T, ltb, eqb, eqb→eq}
use Rattle.definitions.specs.Lists.{at_least_one, IsIn, Distinct}
use Rattle.definitions.specs.Arcs.{Arc, arc}
use Rattle.definitions.specs.Paths.{arc_at, leads, without_zeros, models_carried, phones_carried}
use Rattle.definitions.proofs.Laws.Lists.Tests.{T-three, T-or, eq→eqb}
use Rattle.definitions.proofs.Laws.Lists.Members.{in-at, place_of, same_place}

-- what a list of arcs carries
abbrev pub models_on : List Arc → List ℕ
models_on l = without_zeros (map (λ (a : Arc). a.model) l)

abbrev pub phones_on : List Arc → List ℕ
phones_on l = without_zeros (map (λ (a : Arc). a.phone) l)

-- equal arcs leave one state
pub same_from : {a b : Arc} → a ≡ b → a.from ≡ b.from
same_from e = ap (λ (a : Arc). a.from) e

module _ (arcs : List Arc) where
  -- the arcs lead from a state to a state
  abbrev pub Linked : (from : ℕ) → List Arc → (to : ℕ) → Type 0
  Linked from [] to = from ≡ to
  Linked from (a ∷ l) to = IsIn a arcs × (a.from ≡ from) × Linked a.to l to

  abbrev pub arcs_at : (places : List ℕ) → List Arc
  arcs_at places = map (arc_at arcs) places

  pub models-on : (places : List ℕ) → models_carried arcs places ≡ models_on (arcs_at places)
  unfolding models_carried
  models-on places = ap without_zeros (sym (map-map (λ (a : Arc). a.model) (arc_at arcs) places))

  pub phones-on : (places : List ℕ) → phones_carried arcs places ≡ phones_on (arcs_at places)
  unfolding phones_carried
  phones-on places = ap without_zeros (sym (map-map (λ (a : Arc). a.phone) (arc_at arcs) places))

  -- ---- from places to arcs and back

  -- the first place of a path, and the rest
  leads-cons : (from place : ℕ) (places : List ℕ) (to : ℕ) → T (leads arcs from (place ∷ places) to)
      ↔ ((place < length arcs) × ((arc_at arcs place).from ≡ from)
      × T (leads arcs (arc_at arcs place).to places to))
  unfolding leads
  leads-cons from place places to =
      let inside : Bool = ltb place (length arcs) in
      let leaves : Bool = eqb (arc_at arcs place).from from in
      let three = T-three inside leaves (leads arcs (arc_at arcs place).to places to) in (
        λ h. let (k, e, rest) = three.0 h in (ltb→lt _ _ k, eqb→eq _ _ e, rest),
        λ h. three.1 (lt→ltb _ _ h.0, eq→eqb _ _ h.1, h.2),
      )

  pub linked-at : (from : ℕ) (places : List ℕ) (to : ℕ) → T (leads arcs from places to)
      → Linked from (arcs_at places) to
  unfolding leads
  linked-at from [] to h = eqb→eq from to h
  linked-at from (place ∷ places) to h =
      let (k, e, rest) = (leads-cons from place places to).0 h in
      (in-at arcs place _ k, e, linked-at (arc_at arcs place).to places to rest)

  pub places_of : (from : ℕ) (l : List Arc) (to : ℕ) → Linked from l to
      → (places : List ℕ) × T (leads arcs from places to) × (arcs_at places ≡ l)
  unfolding leads
  places_of from [] to h = ([], eq→eqb from to h, refl)
  places_of from (a ∷ l) to (i, e, rest) =
      let (place, k, at) = place_of a arcs (arc 0 0 0 0) i in
      let (places, onward, same) = places_of a.to l to rest in
      let leading = subst (λ (b : Arc). T (leads arcs b.to places to)) (sym at) onward in
      (place ∷ places, (leads-cons from place places to).1 (k, same_from at ∙ e, leading), ap₂ ◌∷◌ at same)

  -- ---- where no arc occurs twice

  -- two paths with the same arcs have the same places
  pub same-places : Distinct arcs → (s t : ℕ) (p q : List ℕ) (u v : ℕ)
      → T (leads arcs s p u) → T (leads arcs t q v) → arcs_at p ≡ arcs_at q → p ≡ q
  same-places once s t [] [] u v h k e = refl
  same-places once s t [] (j ∷ q) u v h k e = absurd (nil≢cons e)
  same-places once s t (i ∷ p) [] u v h k e = absurd (cons≢nil e)
  same-places once s t (i ∷ p) (j ∷ q) u v h k e =
      let (m, _, h') = (leads-cons s i p u).0 h in
      let (n, _, k') = (leads-cons t j q v).0 k in
      let one : i ≡ j = same_place arcs (arc 0 0 0 0) once i j m n (head-eq_of_cons-eq e) in
      ap₂ ◌∷◌ one (same-places once (arc_at arcs i).to (arc_at arcs j).to p q u v h' k' (tail-eq_of_cons-eq e))

  -- a place is on a path when its arc is
  pub place-on : Distinct arcs → (place : ℕ) → place < length arcs → (s : ℕ) (p : List ℕ) (u : ℕ)
      → T (leads arcs s p u) → IsIn (arc_at arcs place) (arcs_at p) → T (at_least_one (eqb place) p)
  unfolding at_least_one
  place-on once place k s [] u h i = absurd i
  place-on once place k s (j ∷ p) u h (inl e) =
      let (m, _, _) = (leads-cons s j p u).0 h in
      let here = eq→eqb place j (same_place arcs (arc 0 0 0 0) once place j k m e) in
      (T-or (eqb place j) (at_least_one (eqb place) p)).1 (inl here)
  place-on once place k s (j ∷ p) u h (inr i) =
      let (_, _, rest) = (leads-cons s j p u).0 h in
      (T-or (eqb place j) (at_least_one (eqb place) p)).1 (inr (place-on once place k (arc_at arcs j).to p u rest i))
