-- The arcs of a build are in range, finished or stopped: their sources and targets are states of the network,
-- as every metastate that an arc leaves or enters has a place in the table, and their models and phones are
-- those of metastates. Network text asks for these ranges (demand/BuiltKnown.antt).
use Rattle.std.specs.Prelude.{◌≡◌, refl, T, drop}
use Rattle.std.proofs.Common.{sym, inl, suc-mul, mul_comm, mul-le-mul, arith, length-drop, lt-ltb}
use Rattle.std.proofs.Math.Path.{subst}
use Rattle.std.proofs.Math.Logic.{inr, ⊎_elim}
use mathlib.Core.List.{List, [], ◌∷◌, ◌++◌, map}
use Prim.Native.Nat.{ℕ, suc, ◌+◌, ◌-◌, ◌*◌, ◌≤◌, ◌<◌}
use Rattle.std.proofs.Math.ListN.{length}
use Rattle.definitions.specs.declared.Counts.{Counts}
use Rattle.definitions.specs.Lists.{concat_map, IsIn, place_of}
use Rattle.definitions.specs.Forms.{◌‥◌}
use Rattle.definitions.specs.Lines.{in_ranges}
use Rattle.definitions.specs.Arcs.{Arc, INITIAL, first_state, last_state}
use Rattle.definitions.specs.Metastates.{Metastate, same_metastate}
use Rattle.definitions.specs.Connecting.{Rules, own_arcs, final_arcs, arc_into, Network, no_metastate, arc_to}
use Rattle.definitions.specs.NetworkText.{is_state, arc_known}
use Rattle.definitions.proofs.Laws.Lists.Members.{in_left, of-append, in_map, of_map, of-concat_map, of_one}
use Rattle.definitions.proofs.Laws.Lists.Members.{in-at}
use Rattle.definitions.proofs.Laws.Books.AcceptedKnown.{within-passes}
use Rattle.definitions.proofs.Laws.Networks.Metastates.{metastates-told}
use Rattle.definitions.proofs.Laws.Lists.Places.{placed}
use Rattle.definitions.proofs.Construction.Finished.{turn_arcs, Expansion}

-- ---- in range

-- the states of a metastate with a place in the table are states of the network
state-listed : (k metastates place i : ℕ) → place < metastates → i < k
    → first_state k place + i < 2 + k * metastates
unfolding first_state
state-listed k metastates place i l h =
    let many : suc place * k ≤ metastates * k = mul-le-mul l (omega arith) in
    omega (arith, suc-mul place k, mul_comm metastates k)

-- an arc that a network of so many states may have
pub record ArcFits (states : ℕ) (a : Arc) : Type 0 where
  pub from_state : a.from < states
  pub to_state : a.to < states
  pub model_most : a.model ≤ 65535
  pub phone_most : a.phone ≤ 64

pub fits-known : (counts : Counts) (a : Arc) → counts.states ≤ 3 → counts.metastates ≤ 65535
    → ArcFits (2 + counts.states * counts.metastates) a → T (arc_known counts a)
unfolding arc_known is_state in_ranges
fits-known counts a few crowd f =
    let most : counts.states * counts.metastates ≤ 3 * 65535 = mul-le-mul few crowd in
    let states : ℕ = 2 + counts.states * counts.metastates in
    rw (
      within-passes (0 ‥ 196606) a.from record { low = omega arith; high = omega (arith, f.from_state) },
      within-passes (0 ‥ 196606) a.to record { low = omega arith; high = omega (arith, f.to_state) },
      within-passes (0 ‥ 65535) a.model record { low = omega arith; high = f.model_most },
      within-passes (0 ‥ 64) a.phone record { low = omega arith; high = f.phone_most },
      lt-ltb a.from states f.from_state,
      lt-ltb a.to states f.to_state,
    ) tt

-- ---- the arcs of metastates

some_in : {A : Type 0} (x : A) (l : List A) → IsIn x l → 1 ≤ length l
some_in x [] h = absurd h
some_in x (y ∷ l) h = omega arith

-- a metastate's own arcs lead on from state to state
own-fit : (states state : ℕ) (models : List ℕ) → state + length models < states
    → ((m : ℕ) → IsIn m models → m ≤ 65535)
    → (a : Arc) → IsIn a (own_arcs state models) → ArcFits states a
unfolding own_arcs
own-fit states state [] l most a h = absurd h
own-fit states state (model ∷ models) l most a (inl e) =
    subst (ArcFits states) (sym e) record {
      from_state = omega arith;
      to_state = omega arith;
      model_most = most model (inl refl);
      phone_most = omega arith;
    }
own-fit states state (model ∷ models) l most a (inr h) =
    own-fit states (suc state) models (omega arith) (λ m i. most m (inr i)) a h

module _ (rules : Rules) where
  -- what network text asks of a metastate's models and phone
  pub record MetastateFits (x : Metastate) : Type 0 where
    pub count : length (rules.models x) ≡ rules.states
    pub models : (m : ℕ) → IsIn m (rules.models x) → m ≤ 65535
    pub phone : rules.phone x ≤ 64

  module _ (some_state : 1 ≤ rules.states) (table : List Metastate)
      (fit : (x : Metastate) → IsIn x table → MetastateFits x)
    where
      abbrev states : ℕ
      states = 2 + rules.states * length table

      -- the states of a metastate of the table
      own-state : (x : Metastate) (i : ℕ) → IsIn x table → i < rules.states
          → first_state rules.states (place_of same_metastate table x) + i < states
      own-state x i h l =
          let (inside, here) = placed same_metastate metastates-told no_metastate x table h in
          state-listed rules.states (length table) (place_of same_metastate table x) i inside l

      into-fits : (from : ℕ) (x : Metastate) → from < states → IsIn x table
          → ArcFits states (arc_into rules from (place_of same_metastate table x) x)
      unfolding arc_into
      into-fits from x l h =
          let first = own-state x 0 h (omega arith) in
          let r = fit x h in
          let most = in-at (rules.models x) 0 0 (omega (arith, r.count)) in
          record {
            from_state = l;
            to_state = omega arith;
            model_most = r.models _ most;
            phone_most = r.phone;
          }

      all-into : (from : ℕ) (xs : List Metastate) → from < states
          → ((x : Metastate) → IsIn x xs → IsIn (rules.kept x) table)
          → (a : Arc) → IsIn a (map (arc_to rules table from) xs) → ArcFits states a
      all-into from xs l h a i =
          let (x, there, e) = of_map (arc_to rules table from) a xs i in
          subst (ArcFits states) (sym e) (into-fits from (rules.kept x) l (h x there))

      final-fits : (x : Metastate) → IsIn x table → (a : Arc)
          → IsIn a (final_arcs rules (place_of same_metastate table x) x) → ArcFits states a
      unfolding final_arcs last_state
      final-fits x h a i =
          let last = own-state x (rules.states - 1) h (omega arith) in
          subst (ArcFits states) (sym (of_one _ (rules.ending x) a i).1) record {
            from_state = last;
            to_state = omega arith;
            model_most = omega arith;
            phone_most = omega arith;
          }

      turn-fits : (q : Metastate) → IsIn q table
          → ((x : Metastate) → IsIn x (rules.followers q) → IsIn (rules.kept x) table)
          → (a : Arc) → IsIn a (turn_arcs rules table q) → ArcFits states a
      unfolding turn_arcs last_state
      turn-fits q h follow a i =
          let place : ℕ = place_of same_metastate table q in
          let first : ℕ = first_state rules.states place in
          let last : ℕ = first + (rules.states - 1) in
          let models : List ℕ = rules.models q in
          let own : List Arc = own_arcs first (drop 1 models) in
          let final : List Arc = final_arcs rules place q in
          let listed : last < states = own-state q (rules.states - 1) h (omega arith) in
          let r = fit q h in
          let through : first + length (drop 1 models) < states =
          rw (length-drop, r.count) listed in
          ⊎_elim
          (λ j. ⊎_elim
          (own-fit states first (drop 1 models) through (λ m k. r.models m (in_rest m models k)) a)
          (final-fits q h a) (of-append a own final j))
          (all-into last (rules.followers q) listed follow a)
          (of-append a (own ++ final) _ i)
        where
          in_rest : (m : ℕ) (l : List ℕ) → IsIn m (drop 1 l) → IsIn m l
          in_rest m [] k = k
          in_rest m (x ∷ l) k = inr k

  -- ---- the arcs of a network of whose table some are expanded

  module _ (done : List Metastate) (net : Network) (left : Expansion rules done net) where
    abbrev into_start : Metastate → Arc
    into_start x = arc_to rules net.table INITIAL x

    abbrev start_arcs : List Arc
    start_arcs = map into_start rules.starts

    pub arcs-fit : 1 ≤ rules.states → ((x : Metastate) → IsIn x net.table → MetastateFits x)
        → (a : Arc) → IsIn a net.arcs → ArcFits (2 + rules.states * length net.table) a
    arcs-fit some_state fit a h =
        let table : List Metastate = net.table in
        ⊎_elim
        (all-into some_state table fit INITIAL rules.starts (omega arith) left.starts_in a)
        (λ i.
        let (q, there, own) = of-concat_map (turn_arcs rules table) a done i in
        turn-fits some_state table fit q (left.listed q there) (λ x. left.followers_in q x there) a own)
        (of-append a start_arcs (concat_map (turn_arcs rules table) done)
        (subst (IsIn a) left.arcs h))

    -- where some metastate starts, there is a metastate and an arc
    pub some-there : (x : Metastate) → IsIn x rules.starts
        → (1 ≤ length net.table) × (1 ≤ length net.arcs)
    some-there x h =
        let first : IsIn (into_start x) net.arcs =
        rw left.arcs
        (in_left (into_start x) start_arcs _ (in_map into_start x rules.starts h)) in
        (some_in (rules.kept x) net.table (left.starts_in x h), some_in (into_start x) net.arcs first)
