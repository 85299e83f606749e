-- The finished network of a sound book is a proper graph, and each of its metastates is reached and leads
-- on. What the start metastates have and followers take over, the whole table has
-- (construction/Finished.antt): so every metastate is one of the construction's, and some way leads to it.
use Rattle.std.specs.Prelude.{◌≡◌, not, T, eqb}
use Rattle.std.proofs.Math.Path.{sym, ap}
use Rattle.std.proofs.Common.{◌∙◌, arith, eqb→eq}
use mathlib.Core.List.{List, [], ◌∷◌, ◌++◌, append_assoc}
use Prim.Native.Nat.{ℕ, ◌≤◌}
use Rattle.std.proofs.Math.Dec.{not_T}
use Rattle.std.proofs.Math.ListN.{get_or, length-map}
use Rattle.definitions.specs.Lists.{every, IsIn, place_of}
use Rattle.definitions.specs.Tables.{Book}
use Rattle.definitions.specs.Lookup.{model_at}
use Rattle.definitions.specs.Combinations.{combinations}
use Rattle.definitions.specs.Metastates.{Metastate, same_metastate, combination_of, phone_of, models_of}
use Rattle.definitions.specs.Metastates.{followers}
use Rattle.definitions.specs.Growing.{finished, grown_in}
use Rattle.definitions.specs.Connecting.{final_arcs, arc_into, Network, no_metastate}
use Rattle.definitions.proofs.Laws.Lists.Members.{of_map, every_in}
use Rattle.definitions.proofs.Laws.Text.Ranges.{phone_range}
use Rattle.definitions.proofs.Laws.Books.Sound.{Sound}
use Rattle.definitions.proofs.Laws.Trees.ModelsAlong.{leaf_models}
use Rattle.definitions.proofs.Laws.Networks.Metastates.{metastates-told, starts_once, followers_once}
use Rattle.definitions.proofs.Laws.Lists.Places.{placed}
use Rattle.definitions.proofs.Construction.Finished.{turn_arcs, Finished, build-finished, table-holds}
use Rattle.definitions.proofs.Graph.Graph.{Graph, Proper, arcs_of, Reachable, Alive}
use Rattle.definitions.proofs.Demand.Chosen.{LeafOf, Chosen, combination_at, chosen_at}
use Rattle.definitions.proofs.Demand.Network.{book_rules, graph_of, BuiltFrom}
use Rattle.definitions.proofs.Demand.Sentences.{Constructed}
use Rattle.definitions.proofs.Demand.Ways.{table-constructed}
use Rattle.definitions.proofs.Demand.Alive.{constructed-alive}

module _ (book : Book) (net : Network) (built : BuiltFrom book net) where
  abbrev table : List Metastate
  table = net.table

  abbrev network : Graph Metastate
  network = graph_of book net.table

  sound : Sound book
  sound = built.sound

  left : Finished (book_rules book) net
  left =
      build-finished (book_rules book) built.room built.limit built.turns net built.connects

  -- ---- every metastate of the table is the construction's, is reached and leads on

  constructed : (x : Metastate) → IsIn x table → Constructed book x
  unfolding grown_in
  constructed =
      table-constructed book sound built.room built.limit (finished built.turns net) built.connects

  reachable : (x : Metastate) → IsIn x table → Reachable network x
  unfolding grown_in
  reachable =
      table-holds (book_rules book) (Reachable network) built.room built.limit
      (finished built.turns net) (λ x h. ([], λ us onward. (h, onward))) further built.connects
    where
      further : (x y : Metastate) → Reachable network x → IsIn y (followers book (combinations book) x)
          → Reachable network y
      further x y (ws, way) h =
          (ws ++ (x ∷ []), λ us onward. rw append_assoc (way (y ∷ us) (h, onward)))

  pub reached-and-alive : (x : Metastate) → IsIn x net.table
      → Reachable (graph_of book net.table) x × Alive (graph_of book net.table) x
  reached-and-alive x h = (reachable x h, constructed-alive book sound x (constructed x h) table)

  -- ---- the network is a proper graph

  pub arcs-are : net.arcs ≡ arcs_of (graph_of book net.table)
  unfolding arcs_of turn_arcs final_arcs arc_into
  arcs-are = left.arcs

  -- what a metastate's combination is
  of-choice : (x : Metastate) → IsIn x table → Chosen book (combination_at book x.number)
  of-choice x h = chosen_at book sound x.number (constructed x h).listed

  not-zero : (p : ℕ) → 1 ≤ p → T (not (eqb p 0))
  not-zero p h = not_T (eqb p 0) (λ z. omega (arith, eqb→eq p 0 z))

  -- a leaf's model is a number from 1 on
  leaf-model : (node : ℕ) → LeafOf book node → 1 ≤ model_at book.nodes node
  unfolding model_at
  leaf-model node (listed, (model, e)) = rw (e, model_at) (sound.model node model listed e)

  models-from : (leaves : List ℕ) → ((node : ℕ) → IsIn node leaves → LeafOf book node)
      → T (every (λ m. not (eqb m 0)) (leaf_models book leaves))
  models-from leaves each = every_in (λ m. not (eqb m 0)) (leaf_models book leaves) λ m i.
      let (node, there, e) = of_map (model_at book.nodes) m leaves i in
      not-zero m (rw e (leaf-model node (each node there)))

  -- a metastate stands at its place
  told : (x : Metastate) → IsIn x table
      → get_or table (place_of same_metastate table x) no_metastate ≡ x
  told x h = (placed same_metastate metastates-told no_metastate x table h).1

  pub proper : Proper (graph_of book net.table)
  unfolding models_of phone_of combination_of
  proper =
      let at : ℕ → Metastate = λ place. get_or table place no_metastate in
      record {
        some_state = sound.some_state;
        table_once = left.once;
        starts_once = starts_once book (combinations book);
        followers_once = λ x h. followers_once book (combinations book) x;
        place_injective = λ x y h k e. sym (told x h) ∙ ap at e ∙ told y k;
        starts_in = left.starts_in;
        followers_in = left.followers_in;
        models_length = λ x h. length-map (combination_at book x.number).leaves _ ∙ (of-choice x h).count;
        models_positive =
            λ x h. models-from (combination_at book x.number).leaves (of-choice x h).each_leaf;
        phone_positive = λ x h. not-zero _ ((phone_range book.phones _).0 (of-choice x h).phone-of).0;
      }
