-- The three claims about the finished network of a sound book. The network is a proper graph, each element
-- of which is reached and leads on (demand/ProperNetwork.antt): so what holds of such graphs
-- (graph/Theorem.antt) and what the ways of a book mean (demand/Meaning.antt) say them together.
use Rattle.std.specs.Prelude.{◌≡◌, ◌↔◌, List, map, ℕ, ◌<◌, T, eqb, length}
use Rattle.std.proofs.Common.{sym, ap, ◌∙◌, subst, eqb→eq}
use Rattle.std.proofs.Math.Bool.{not}
use Rattle.std.proofs.Math.Dec.{not_T}
use Rattle.definitions.specs.Lists.{at_least_one}
use Rattle.definitions.specs.Tables.{Book}
use Rattle.definitions.specs.Combinations.{combinations}
use Rattle.definitions.specs.Arcs.{FINAL}
use Rattle.definitions.specs.Metastates.{Metastate, phone_of}
use Rattle.definitions.specs.Connecting.{Network}
use Rattle.definitions.specs.Paths.{accepting, Carries, final_last}
use Rattle.definitions.specs.TreesGive.{silent_ends}
use Rattle.definitions.specs.Transcription.{transcription}
use Rattle.definitions.proofs.Laws.Lists.Members.{every_in}
use Rattle.definitions.proofs.Laws.Books.Sound.{Sound}
use Rattle.definitions.proofs.Laws.Trees.ModelsAlong.{Reaches}
use Rattle.definitions.proofs.Graph.Graph.{Graph, Proper, arcs_of}
use Rattle.definitions.proofs.Graph.Arcs.{none-from-final}
use Rattle.definitions.proofs.Graph.Theorem.{exactly, one_path, every_arc}
use Rattle.definitions.proofs.Demand.Network.{graph_of, BuiltFrom}
use Rattle.definitions.proofs.Demand.Meaning.{ways-unique, way-phones-silent, way-transcribed, way-exists}
use Rattle.definitions.proofs.Demand.ProperNetwork.{proper, arcs-are, reached-and-alive}

module _ (book : Book) (net : Network) (built : BuiltFrom book net) where
  abbrev table : List Metastate
  table = net.table

  abbrev graph : Graph Metastate
  graph = graph_of book table

  sound : Sound book
  sound = built.sound

  regular : Proper graph
  regular = proper book net built

  arcs : net.arcs ≡ arcs_of graph
  arcs = arcs-are book net built

  -- a path that carries M and S decodes into a way, whose phones are S and whose models are those reached
  path-reaches : (M S : List ℕ) → (places : List ℕ) × Carries (arcs_of graph) places M S
      → T (silent_ends S) × Reaches book S M
  path-reaches M S path =
      let (ws, way, models, phones) = (exactly graph regular M S).0 path in
      let (silent, range) = way-phones-silent book sound table ws way in
      let reach : Reaches book (map (phone_of (combinations book)) ws) M =
      record { phones-in = range; models = sym (way-transcribed book sound table ws way) ∙ models } in
      (subst (λ (l : List ℕ). T (silent_ends l)) phones silent, subst (λ l. Reaches book l M) phones reach)

  -- a sequence with silent ends has a way, which is a path that carries the models reached
  reaches-path : (M S : List ℕ) → T (silent_ends S) × Reaches book S M
      → (places : List ℕ) × Carries (arcs_of graph) places M S
  reaches-path M S (silent, reach) =
      let (ws, way, phones) = way-exists book sound table S reach.phones-in silent in
      let models = way-transcribed book sound table ws way ∙ ap (transcription book) phones ∙ reach.models in
      (exactly graph regular M S).1 (ws, way, models, phones)

  pub book-exactly : (M S : List ℕ)
      → ((places : List ℕ) × Carries net.arcs places M S) ↔ (T (silent_ends S) × Reaches book S M)
  book-exactly M S = rw arcs (path-reaches M S, reaches-path M S)

  pub book-one-path : (M S p q : List ℕ) → Carries net.arcs p M S → Carries net.arcs q M S → p ≡ q
  book-one-path = rw arcs (one_path graph regular (ways-unique book sound table))

  pub book-every-arc : (place : ℕ) → place < length net.arcs
      → (places : List ℕ) × T (accepting net.arcs places) × T (at_least_one (eqb place) places)
  book-every-arc = rw arcs (every_arc graph regular (reached-and-alive book net built))

  -- beside them: no arc leaves FINAL
  pub book-final-last : T (final_last net.arcs)
  unfolding final_last
  book-final-last =
      rw arcs (every_in (λ a. not (eqb a.from FINAL)) (arcs_of graph) λ a h.
      not_T (eqb a.from FINAL) (λ f. none-from-final graph regular a h (eqb→eq a.from FINAL f)))
