-- The paths of joined arcs that are laid as they should be: one carries the models M and the words W exactly when W are
-- words and the network has a path that carries M and what is spoken.
use Rattle.std.specs.Prelude.{◌≡◌, ◌↔◌, List, map, ℕ, T}
use Rattle.std.proofs.Common.{sym, ap, ◌∙◌, subst}
use mathlib.Core.Logic.Iff
use Rattle.definitions.specs.Lists.{every, select}
use Rattle.definitions.specs.Arcs.{Arc, INITIAL, FINAL}
use Rattle.definitions.specs.Paths.{accepting, without_zeros, Carries, final_last}
use Rattle.definitions.specs.Joining.{◌⊚◌, spoken, Joined}
use Rattle.definitions.proofs.Laws.Lists.Members.{every_in}
use Rattle.definitions.proofs.Laws.Lists.Selected.{of-select}
use Rattle.definitions.proofs.Graph.ArcPaths.{models_on, phones_on, Linked, arcs_at, models-on, phones-on}
use Rattle.definitions.proofs.Graph.ArcPaths.{linked-at, places_of}
use Rattle.definitions.proofs.Joined.States.{start, end}
use Rattle.definitions.proofs.Joined.Automaton.{positive, Speakable, Speaks, Words}
use Rattle.definitions.proofs.Joined.Spelling.{from_start}
use Rattle.definitions.proofs.Joined.Speaking.{to_start}
use Rattle.definitions.proofs.Joined.Product.{Laid, decode, encode}

-- what is carried has no 0
no-zeros : (l : List ℕ) → T (every positive (without_zeros l))
unfolding without_zeros
no-zeros l = every_in positive (select positive l) (λ x i. (of-select positive x l i).1)

-- some path of these arcs carries these models and phones, or words
abbrev pub Path : List Arc → (M S : List ℕ) → Type 0
Path arcs M S = (places : List ℕ) × Carries arcs places M S

-- a path by its arcs, and back
path-arcs : (arcs : List Arc) (M S : List ℕ) → Path arcs M S
    → (l : List Arc) × Linked arcs INITIAL l FINAL × (models_on l ≡ M) × (phones_on l ≡ S)
unfolding accepting
path-arcs arcs M S (places, c) = (
  arcs_at arcs places,
  linked-at arcs INITIAL places FINAL c.accepts,
  sym (models-on arcs places) ∙ c.models,
  sym (phones-on arcs places) ∙ c.phones,
)

arcs-path : (arcs : List Arc) (M S : List ℕ) (l : List Arc) → Linked arcs INITIAL l FINAL → models_on l ≡ M
    → phones_on l ≡ S → Path arcs M S
unfolding accepting
arcs-path arcs M S l linked models phones =
    let (places, leads, same) = places_of arcs INITIAL l FINAL linked in (
      places,
      record {
        accepts = leads;
        models = models-on arcs places ∙ ap models_on same ∙ models;
        phones = phones-on arcs places ∙ ap phones_on same ∙ phones;
      },
    )

module _ (words : List (List ℕ)) (good : Speakable words) (arcs : List Arc) (last : T (final_last arcs))
    (table : List Joined) (place : Joined → ℕ) (joins : List Arc) (laid : Laid arcs words table place joins) where
  ends-placed : (l : List Arc) → Linked joins (place start) l (place end) ↔ Linked joins INITIAL l FINAL
  ends-placed l = rw (laid.starts.1, laid.ends.1) Iff.rfl

  decoded : (M W : List ℕ) → Path joins M W → Words words W × Path arcs M (spoken words W)
  decoded M W path =
      let (l, linked, models, labels) = path-arcs joins M W path in
      let (k, onward, same, says) =
      decode arcs words table place joins laid start end l laid.starts.0 laid.ends.0
      ((ends-placed l).1 linked) in
      let (all, phones) =
      from_start words good (phones_on k) W (no-zeros (map (λ (a : Arc). a.phone) k))
      (subst (λ z. Speaks words (0 ⊚ 0) (phones_on k) z (0 ⊚ 2)) labels says) in
      (all, arcs-path arcs M (spoken words W) k onward (same ∙ models) phones)

  encoded : (M W : List ℕ) → Words words W × Path arcs M (spoken words W) → Path joins M W
  encoded M W (all, path) =
      let (k, linked, models, phones) = path-arcs arcs M (spoken words W) path in
      let says = subst (λ z. Speaks words (0 ⊚ 0) z W (0 ⊚ 2)) (sym phones) (to_start words good W all) in
      let (l, onward, same, labels) =
      encode arcs words table place joins laid last k start W laid.starts.0 linked says in
      arcs-path joins M W l ((ends-placed l).0 onward) (same ∙ models) labels

  pub laid-exactly : (M W : List ℕ) → Path joins M W ↔ (Words words W × Path arcs M (spoken words W))
  laid-exactly M W = (decoded M W, encoded M W)
