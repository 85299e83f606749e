-- Document 01, "Connecting": paths among the counted arcs, and what they carry.
use Rattle.std.specs.Prelude.{◌≡◌, List, [], ◌∷◌, map, Bool, ◌&&◌, not, ℕ, T, ltb, eqb, length, get_or}
use Rattle.definitions.specs.Lists.{every, select}
use Rattle.definitions.specs.Arcs.{Arc, arc, INITIAL, FINAL}

abbrev pub arc_at : List Arc → (place : ℕ) → Arc
arc_at arcs place = get_or arcs place (arc 0 0 0 0)

-- "A path is a list of places among the counted arcs, each arc leaving the state that the one before it
-- enters": whether these places lead from a state to a state
unfoldable pub leads : List Arc → (from : ℕ) → (places : List ℕ) → (to : ℕ) → Bool
leads arcs from [] to = eqb from to
leads arcs from (place ∷ places) to =
    ltb place (length arcs) && eqb (arc_at arcs place).from from && leads arcs (arc_at arcs place).to places to

-- "An accepting path runs from INITIAL to FINAL"
unfoldable pub accepting : List Arc → (places : List ℕ) → Bool
accepting arcs places = leads arcs INITIAL places FINAL

-- "it carries the models and the phones of its arcs in order, without the 0s"
unfoldable pub without_zeros : List ℕ → List ℕ
without_zeros numbers = select (λ n. not (eqb n 0)) numbers

unfoldable pub models_carried : List Arc → (places : List ℕ) → List ℕ
models_carried arcs places = without_zeros (map (λ place. (arc_at arcs place).model) places)

unfoldable pub phones_carried : List Arc → (places : List ℕ) → List ℕ
phones_carried arcs places = without_zeros (map (λ place. (arc_at arcs place).phone) places)

-- an accepting path that carries the models M and the phones S
pub record Carries (arcs : List Arc) (places M S : List ℕ) : Type 0 where
  pub accepts : T (accepting arcs places)
  pub models : models_carried arcs places ≡ M
  pub phones : phones_carried arcs places ≡ S

-- no arc leaves FINAL, so a path that enters it ends there
unfoldable pub final_last : List Arc → Bool
final_last arcs = every (λ a. not (eqb a.from FINAL)) arcs
