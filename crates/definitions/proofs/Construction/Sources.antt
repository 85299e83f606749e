-- The sources of a build's arcs never descend, finished or stopped: the arcs from INITIAL come first, then
-- those of the expanded metastates in the order of the table, each from its first state to its last. Network
-- text asks for that order (demand/BuiltKnown.antt).
use Rattle.std.specs.Prelude.{◌≡◌, refl, T, leb, get_or}
use Rattle.std.proofs.Math.Path.{subst}
use Rattle.std.proofs.Common.{inl, inr, le→leb, length-drop}
use mathlib.Core.List.{List, [], ◌∷◌, ◌++◌, map}
use Prim.Native.Nat.{ℕ, suc, ◌+◌, ◌-◌, ◌≤◌, ◌<◌}
use Rattle.std.proofs.Math.Nat.{suc-mul}
use native.Mathlib.Omega.{arith}
use Rattle.std.proofs.Math.ListN.{length, drop}
use Rattle.definitions.specs.Lists.{concat_map, IsIn, place_of}
use Rattle.definitions.specs.Arcs.{Arc, INITIAL, first_state, last_state}
use Rattle.definitions.specs.Metastates.{Metastate, same_metastate}
use Rattle.definitions.specs.Connecting.{Rules, own_arcs, final_arcs, arc_into, Network, no_metastate, arc_to}
use Rattle.definitions.specs.NetworkText.{never_descending}
use Rattle.definitions.proofs.Laws.Lists.Tests.{T_and, by-test}
use Rattle.definitions.proofs.Construction.Finished.{turn_arcs, Expansion}

-- ---- rising

-- the sources of arcs never descend, from a lowest to a highest
abbrev Rises : (low : ℕ) → List Arc → (high : ℕ) → Type 0
Rises low [] high = low ≤ high
Rises low (a ∷ arcs) high = (low ≤ a.from) × Rises a.from arcs high

rises-lower : (lower low high : ℕ) (arcs : List Arc) → lower ≤ low → Rises low arcs high
    → Rises lower arcs high
rises-lower lower low high [] l r = omega arith
rises-lower lower low high (a ∷ arcs) l r = (omega (arith, r.0), r.1)

rises-append : (low middle high : ℕ) (k l : List Arc) → Rises low k middle → Rises middle l high
    → Rises low (k ++ l) high
rises-append low middle high [] l r s = rises-lower low middle high l r s
rises-append low middle high (a ∷ k) l r s = (r.0, rises-append a.from middle high k l r.1 s)

rises-never : (low high : ℕ) (arcs : List Arc) → Rises low arcs high → T (never_descending arcs)
unfolding never_descending
rises-never low high [] r = tt
rises-never low high (a ∷ []) r = tt
rises-never low high (a ∷ b ∷ arcs) r =
    (T_and (leb a.from b.from) (never_descending (b ∷ arcs))).1
    (le→leb a.from b.from r.1.0, rises-never a.from high (b ∷ arcs) r.1)

-- ---- the arcs of a build

-- a metastate's own arcs rise from state to state
rises-own : (state high : ℕ) (models : List ℕ) → state + length models ≤ high
    → Rises state (own_arcs state models) high
unfolding own_arcs
rises-own state high [] l = omega arith
rises-own state high (model ∷ models) l = (
  omega arith,
  rises-lower state (suc state) high (own_arcs (suc state) models) (omega arith)
      (rises-own (suc state) high models (omega arith)),
)

module _ (rules : Rules) where
  -- those from one state stay there
  rises_into : (from : ℕ) (table xs : List Metastate) → Rises from (map (arc_to rules table from) xs) from
  unfolding arc_into
  rises_into from table [] = omega arith
  rises_into from table (x ∷ xs) = (omega arith, rises_into from table xs)

  rises-final : (place : ℕ) (q : Metastate)
      → Rises (last_state rules.states place) (final_arcs rules place q)
      (last_state rules.states place)
  unfolding final_arcs
  rises-final place q =
      by-test (rules.ending q) (λ e. rw e (omega arith, omega arith)) (λ e. rw e (omega arith))

  module _ (some_state : 1 ≤ rules.states) (table : List Metastate) where
    -- the arcs of one metastate rise from its first state to its last
    rises-turn : (q : Metastate) → length (rules.models q) ≡ rules.states
        → Rises (first_state rules.states (place_of same_metastate table q)) (turn_arcs rules table q)
        (last_state rules.states (place_of same_metastate table q))
    unfolding turn_arcs last_state
    rises-turn q count =
        let place : ℕ = place_of same_metastate table q in
        let first : ℕ = first_state rules.states place in
        let last : ℕ = first + (rules.states - 1) in
        let models : List ℕ = drop 1 (rules.models q) in
        let own : List Arc = own_arcs first models in
        let final : List Arc = final_arcs rules place q in
        let all : first + length models ≤ last = rw (length-drop, count) (omega arith) in
        rises-append first last last (own ++ final) _
        (rises-append first last last own final (rises-own first last models all) (rises-final place q))
        (rises_into last table (rules.followers q))

    -- those of one after the other rise on
    rises-turns : (at : ℕ) (done : List Metastate)
        → ((x : Metastate) → IsIn x done → length (rules.models x) ≡ rules.states)
        → ((i : ℕ) → i < length done → place_of same_metastate table (get_or done i no_metastate) ≡ at + i)
        → Rises (first_state rules.states at) (concat_map (turn_arcs rules table) done)
        (first_state rules.states (at + length done))
    unfolding concat_map first_state last_state
    rises-turns at [] counts places = omega arith
    rises-turns at (q ∷ done) counts places =
        let k : ℕ = rules.states in
        let own : List Arc = turn_arcs rules table q in
        let later : List Arc = concat_map (turn_arcs rules table) done in
        let head : place_of same_metastate table q ≡ at + 0 = places 0 (omega arith) in
        let here : place_of same_metastate table q ≡ at = omega arith in
        let end : suc at + length done ≡ at + suc (length done) = omega arith in
        let high : ℕ = first_state k (at + suc (length done)) in
        let turn : Rises (first_state k at) own (last_state k at) =
        subst (λ p. Rises (first_state k p) own (last_state k p)) here (rises-turn q (counts q (inl refl))) in
        let rest : Rises (first_state k (suc at)) later high =
        subst (λ n. Rises (first_state k (suc at)) later (first_state k n)) end
        (rises-turns (suc at) done (λ x h. counts x (inr h))
        (λ i h. let e = places (suc i) (omega arith) in omega arith)) in
        rises-append (first_state k at) (last_state k at) high own later turn
        (rises-lower (last_state k at) (first_state k (suc at)) high later (omega (arith, suc-mul at k)) rest)

  -- the arcs of a network whose metastates have a model for each state
  pub sources-rise : (done : List Metastate) (net : Network) → Expansion rules done net
      → 1 ≤ rules.states
      → ((x : Metastate) → IsIn x net.table → length (rules.models x) ≡ rules.states)
      → T (never_descending net.arcs)
  sources-rise done net left some_state counts =
      let k : ℕ = rules.states in
      let table : List Metastate = net.table in
      let first : List Arc = map (arc_to rules table INITIAL) rules.starts in
      let later : List Arc = concat_map (turn_arcs rules table) done in
      let high : ℕ = first_state k (0 + length done) in
      let turns : Rises (first_state k 0) later high =
      rises-turns some_state table 0 done (λ x h. counts x (left.listed x h))
      (λ i h. let e = left.places i h in omega arith) in
      rw left.arcs
      (rises-never INITIAL high (first ++ later)
      (rises-append INITIAL INITIAL high first later
      (rises_into INITIAL table rules.starts)
      (rises-lower INITIAL (first_state k 0) high later (omega arith) turns)))
