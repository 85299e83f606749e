-- Steps through the metastates of a book, as lists of combination numbers: the number and what was carried
-- before determine each metastate. So going onward in the book's graph is a passage of numbered steps; which
-- numbers make one is said in Sentences.
use Rattle.std.specs.Prelude.{◌≡◌, refl, T, length}
use Rattle.std.proofs.Math.Path.{ap, ap₂, subst}
use Rattle.std.proofs.Common.{◌∙◌}
use mathlib.Core.List.{List, [], ◌∷◌, map}
use Prim.Native.Nat.{ℕ, ◌<◌}
use Rattle.definitions.specs.Tables.{Book}
use Rattle.definitions.specs.Combinations.{combinations}
use Rattle.definitions.specs.Metastates.{Metastate, followers, may_end}
use Rattle.definitions.specs.Lists.{IsIn}
use Rattle.definitions.proofs.Laws.Networks.Metastates.{metastates-equal, FollowerOf, follower-is}
use Rattle.definitions.proofs.Graph.Graph.{Onward}
use Rattle.definitions.proofs.Demand.Carrier.{Carrier, holds_some}
use Rattle.definitions.proofs.Demand.Chains.{step_to, Steps}
use Rattle.definitions.proofs.Demand.Chosen.{combination_at}
use Rattle.definitions.proofs.Demand.Network.{graph_of}

-- the numbers of metastates
abbrev pub numbers_along : List Metastate → List ℕ
numbers_along ws = map (λ x. x.number) ws

module _ (book : Book) where
  -- the combinations with these numbers: whether there are such, what they carry, their phones
  abbrev pub Listed : List ℕ → Type 0
  Listed [] = Unit {0}
  Listed (j ∷ js) = (j < length (combinations book)) × Listed js

  abbrev pub carriers_of : List ℕ → List Carrier
  carriers_of js = map (λ j. (combination_at book j).carried) js

  abbrev pub phones_of : List ℕ → List ℕ
  phones_of js = map (λ j. (combination_at book j).phone) js

  -- the metastate that a step leads to
  abbrev pub step_of : Metastate → (j : ℕ) → Metastate
  step_of x j = record { number = j; carried = step_to book x.carried (combination_at book j).carried }

  -- the metastates that steps lead through, and the last
  unfoldable pub along : Metastate → List ℕ → List Metastate
  along x [] = []
  along x (j ∷ js) = step_of x j ∷ along (step_of x j) js

  unfoldable pub last_along : Metastate → List ℕ → Metastate
  last_along x [] = x
  last_along x (j ∷ js) = last_along (step_of x j) js

  -- steps from a metastate that leave some window each, and end where a sentence may end
  pub record Passage (x : Metastate) (js : List ℕ) : Type 0 where
    pub listed : Listed js
    pub steps : Steps book x.carried (carriers_of js)
    pub ends : T (may_end book (combinations book) (last_along x js))

  -- a follower is what the step to its combination gives
  pub follower-step : (x y : Metastate) → FollowerOf book (combinations book) x y → y ≡ step_of x y.number
  follower-step x y f = metastates-equal y (step_of x y.number) refl f.met

  step-follower : (x : Metastate) (j : ℕ) → j < length (combinations book) → T (holds_some (step_of x j).carried)
      → IsIn (step_of x j) (followers book (combinations book) x)
  step-follower x j l v =
      (follower-is book (combinations book) x (step_of x j)).1 record { listed = l; met = refl; holds = v }

  module _ (table : List Metastate) where
    -- onward from a metastate is a passage, each step named by its number
    pub onward-passage : (x : Metastate) (us : List Metastate) → Onward (graph_of book table) x us
        → (us ≡ along x (numbers_along us)) × Passage x (numbers_along us)
    unfolding along last_along
    onward-passage x [] h = (refl, record { listed = tt; steps = tt; ends = h })
    onward-passage x (y ∷ us) (next, h) =
        let js : List ℕ = numbers_along us in
        let f = (follower-is book (combinations book) x y).0 next in
        let e = follower-step x y f in
        let (same, later) = onward-passage y us h in
        let passage : Passage (step_of x y.number) js = subst (λ z. Passage z js) e later in (
          ap₂ ◌∷◌ e (same ∙ ap (λ z. along z js) e),
          record {
            listed = (f.listed, passage.listed);
            steps = (f.holds, passage.steps);
            ends = passage.ends;
          },
        )

    pub passage-onward : (x : Metastate) (js : List ℕ) → Passage x js
        → Onward (graph_of book table) x (along x js)
    unfolding along last_along
    passage-onward x [] p = p.ends
    passage-onward x (j ∷ js) p =
        let later : Passage (step_of x j) js =
        record { listed = p.listed.1; steps = p.steps.1; ends = p.ends } in
        (step-follower x j p.listed.0 p.steps.0, passage-onward (step_of x j) js later)
