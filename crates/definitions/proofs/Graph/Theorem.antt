-- The theorem about graphs: the accepting paths carry exactly what the ways give; where phones tell ways
-- apart no two paths carry the same; and where every element is on a way every arc is on an accepting path.
-- The demand on networks is this theorem at the graph of a book's metastates.
use Rattle.std.specs.Prelude.{◌≡◌, ◌↔◌, List, [], ◌∷◌, ◌++◌, map, ℕ, ◌<◌, T, eqb, length}
use Rattle.std.proofs.Math.Path.{sym, ap, subst}
use Rattle.std.proofs.Common.{◌∙◌, inl, inr}
use Rattle.definitions.specs.Lists.{concat_map, at_least_one, IsIn}
use Rattle.definitions.specs.Arcs.{Arc, INITIAL, FINAL}
use Rattle.definitions.specs.Paths.{Carries, arc_at, accepting, models_carried, phones_carried}
use Rattle.definitions.proofs.Laws.Lists.Members.{in-at, in_left, in_right}
use Rattle.definitions.proofs.Graph.Graph.{Graph, Proper, exit_of, inner_arcs, arcs_of, Onward, Way}
use Rattle.definitions.proofs.Graph.Graph.{Reachable, Alive}
use Rattle.definitions.proofs.Graph.ArcPaths.{models_on, phones_on, arcs_at, models-on, phones-on, linked-at}
use Rattle.definitions.proofs.Graph.ArcPaths.{places_of, same-places, place-on}
use Rattle.definitions.proofs.Graph.Arcs.{OfGraph, starting, leaving, of-graph, OfBlock, inner, ending}
use Rattle.definitions.proofs.Graph.Arcs.{following, of-block}
use Rattle.definitions.proofs.Graph.Once.{arcs-once}
use Rattle.definitions.proofs.Graph.Ways.{trail, way-linked, way_of}
use Rattle.definitions.proofs.Graph.Carried.{way-models, way-phones}

module _ {X : Type 0} (g : Graph X) (proper : Proper g) where
  -- the places lead through the arcs of the way
  abbrev RunsAlong : (places : List ℕ) → List X → Type 0
  RunsAlong places ws = arcs_at (arcs_of g) places ≡ trail g INITIAL ws

  way-of-path : (places : List ℕ) → T (accepting (arcs_of g) places)
      → (ws : List X) × Way g ws × RunsAlong places ws
  unfolding accepting
  way-of-path places h = way_of g proper _ (linked-at (arcs_of g) INITIAL places FINAL h)

  path-of-way : (ws : List X) → Way g ws
      → (places : List ℕ) × T (accepting (arcs_of g) places) × RunsAlong places ws
  unfolding accepting
  path-of-way ws h = places_of (arcs_of g) INITIAL (trail g INITIAL ws) FINAL (way-linked g proper ws h)

  models-of : (places : List ℕ) (ws : List X) → Way g ws → RunsAlong places ws
      → models_carried (arcs_of g) places ≡ concat_map g.models ws
  models-of places ws h e = models-on (arcs_of g) places ∙ ap models_on e ∙ way-models g proper INITIAL ws h

  phones-of : (places : List ℕ) (ws : List X) → Way g ws → RunsAlong places ws
      → phones_carried (arcs_of g) places ≡ map g.phone ws
  phones-of places ws h e = phones-on (arcs_of g) places ∙ ap phones_on e ∙ way-phones g proper INITIAL ws h

  -- ---- what is carried

  pub exactly : (M S : List ℕ) → ((places : List ℕ) × Carries (arcs_of g) places M S)
      ↔ ((ws : List X) × Way g ws × (concat_map g.models ws ≡ M) × (map g.phone ws ≡ S))
  exactly M S = (λ p. given p.0 p.1, λ w. carried w.0 w.1 w.2 w.3)
    where
      given : (places : List ℕ) → Carries (arcs_of g) places M S
          → (ws : List X) × Way g ws × (concat_map g.models ws ≡ M) × (map g.phone ws ≡ S)
      given places c =
          let (ws, h, e) = way-of-path places c.accepts in
          (ws, h, sym (models-of places ws h e) ∙ c.models, sym (phones-of places ws h e) ∙ c.phones)

      carried : (ws : List X) → Way g ws → concat_map g.models ws ≡ M → map g.phone ws ≡ S
          → (places : List ℕ) × Carries (arcs_of g) places M S
      carried ws h m s =
          let (places, t, e) = path-of-way ws h in
          let ms = models-of places ws h e ∙ m in
          (places, record { accepts = t; models = ms; phones = phones-of places ws h e ∙ s })

  -- ---- no two paths carry the same

  pub one_path : ((ws us : List X) → Way g ws → Way g us → map g.phone ws ≡ map g.phone us → ws ≡ us)
      → (M S p q : List ℕ) → Carries (arcs_of g) p M S → Carries (arcs_of g) q M S → p ≡ q
  unfolding accepting
  one_path told M S p q c d =
      let (ws, h, e) = way-of-path p c.accepts in
      let (us, k, f) = way-of-path q d.accepts in
      let phones = sym (phones-of p ws h e) ∙ c.phones ∙ sym d.phones ∙ phones-of q us k f in
      let arcs = e ∙ ap (trail g INITIAL) (told ws us h k phones) ∙ sym f in
      let once = arcs-once g proper in
      same-places (arcs_of g) once INITIAL INITIAL p q FINAL FINAL c.accepts d.accepts arcs

  -- ---- every arc is on a path

  -- past an element a trail runs through its own arcs and on
  past : (s : ℕ) (ws us : List X) (x : X) (a : Arc) → IsIn a (inner_arcs g x ++ trail g (exit_of g x) us)
      → IsIn a (trail g s (ws ++ (x ∷ us)))
  past s [] us x a h = inr h
  past s (w ∷ ws) us x a h = inr (in_right a (inner_arcs g w) _ (past (exit_of g w) ws us x a h))

  abbrev OnWay : Arc → Type 0
  OnWay a = (ws : List X) × Way g ws × IsIn a (trail g INITIAL ws)

  -- an arc after a reached element, on some way on from it
  on-from : (x : X) (a : Arc) (us : List X) → Reachable g x → Onward g x us
      → IsIn a (inner_arcs g x ++ trail g (exit_of g x) us) → OnWay a
  on-from x a us (ws, reach) on h = (ws ++ (x ∷ us), reach us on, past INITIAL ws us x a h)

  module _ (live : (x : X) → IsIn x g.table → Reachable g x × Alive g x) where
    block_on : (x : X) (a : Arc) → IsIn x g.table → OfBlock g x a → OnWay a
    block_on x a h (inner i) =
        let (us, on) = (live x h).1 in on-from x a us (live x h).0 on (in_left a (inner_arcs g x) _ i)
    block_on x a h (ending t e) = on-from x a [] (live x h).0 t (in_right a (inner_arcs g x) _ (inl e))
    block_on x a h (following y i e) =
        let (us, on) = (live y (proper.followers_in x y h i)).1 in
        on-from x a (y ∷ us) (live x h).0 (i, on) (in_right a (inner_arcs g x) _ (inl e))

    arc-on : (a : Arc) → IsIn a (arcs_of g) → OnWay a
    arc-on a h = go (of-graph g a h)
      where
        go : OfGraph g a → OnWay a
        go (starting y i e) = let (us, on) = (live y (proper.starts_in y i)).1 in (y ∷ us, (i, on), inl e)
        go (leaving x i j) = block_on x a i (of-block g x a j)

    pub every_arc : (place : ℕ) → place < length (arcs_of g)
        → (places : List ℕ) × T (accepting (arcs_of g) places) × T (at_least_one (eqb place) places)
    unfolding accepting
    every_arc place k =
        let (ws, h, i) = arc-on (arc_at (arcs_of g) place) (in-at (arcs_of g) place _ k) in
        let (places, t, e) = path-of-way ws h in
        let there = subst (IsIn (arc_at (arcs_of g) place)) (sym e) i in
        (places, t, place-on (arcs_of g) (arcs-once g proper) place k INITIAL places FINAL t there)
