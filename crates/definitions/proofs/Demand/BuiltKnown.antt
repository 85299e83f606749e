-- Every network that a build answers with, finished or stopped, is one that network text can hold: the test for
-- foreign arcs passes on its counts and its arc buffer. The idea: the arcs of a build are told by the places of
-- its table (construction/Finished.antt), so each arc leads between states of the table's metastates, and the
-- sources rise from one metastate's states to the next one's; models and phones are those of combinations, and
-- some metastate starts, as silence alone has a way. So the program can write every network that it builds.
use Rattle.std.specs.Prelude.{◌≡◌, ℕ, ◌+◌, ◌*◌, ◌≤◌, ◌<◌, T, length}
use Rattle.std.proofs.Math.Path.{refl}
use Rattle.std.proofs.Common.{sym, ◌∙◌, arith}
use mathlib.Core.List.{List, [], ◌∷◌}
use Rattle.std.proofs.Math.ListN.{take, length-map}
use Rattle.definitions.specs.declared.Counts.{Counts}
use Rattle.definitions.specs.Lists.{concat_map, padded, IsIn}
use Rattle.definitions.specs.Faults.{answered}
use Rattle.definitions.specs.Forms.{◌‥◌}
use Rattle.definitions.specs.Lines.{in_ranges}
use Rattle.definitions.specs.BookLines.{leaf}
use Rattle.definitions.specs.Tables.{Book}
use Rattle.definitions.specs.Lookup.{node_at, model_at}
use Rattle.definitions.specs.Combinations.{Combination, combinations}
use Rattle.definitions.specs.Arcs.{Arc, arc_size, arc_words}
use Rattle.definitions.specs.Metastates.{Metastate, combination_of, phone_of, models_of, starts}
use Rattle.definitions.specs.Connecting.{Network, Built, connect}
use Rattle.definitions.specs.Building.{Space, room_in, network_in, counts_in, buffers_of}
use Rattle.definitions.specs.NetworkText.{arc_known, never_descending, network_known}
use Rattle.definitions.specs.TreesGive.{silent_ends}
use Rattle.definitions.proofs.Laws.Lists.Members.{of_map, every_in}
use Rattle.definitions.specs.Ranges.{Within}
use Rattle.definitions.proofs.Laws.Text.Ranges.{phone_range}
use Rattle.definitions.proofs.Laws.Trees.Walks.{model-at}
use Rattle.definitions.proofs.Laws.Books.AcceptedKnown.{within-passes}
use Rattle.definitions.proofs.Laws.Networks.KnownNetworks.{orderly-known}
use Rattle.definitions.proofs.Laws.Books.Sound.{Sound}
use Rattle.definitions.proofs.Laws.Trees.Contexts.{silence-phones}
use Rattle.definitions.proofs.Construction.Finished.{build-expanded}
use Rattle.definitions.proofs.Construction.Turns.{connected-room}
use Rattle.definitions.proofs.Construction.Sources.{sources-rise}
use Rattle.definitions.proofs.Construction.ArcRanges.{ArcFits, fits-known, MetastateFits, arcs-fit}
use Rattle.definitions.proofs.Construction.ArcRanges.{some-there}
use Rattle.definitions.proofs.Graph.Graph.{Way}
use Rattle.definitions.proofs.Demand.Chosen.{LeafOf, combination_at, chosen_at}
use Rattle.definitions.proofs.Demand.Network.{book_rules, graph_of}
use Rattle.definitions.proofs.Demand.Sentences.{Constructed}
use Rattle.definitions.proofs.Demand.Ways.{table-constructed}
use Rattle.definitions.proofs.Demand.Meaning.{way-exists}

-- counts in range, arcs that fit and never descend, in words that have room for them
known-network : (counts : Counts) (size : ℕ) (arcs : List Arc)
    → Within (1 ‥ 3) counts.states → Within (1 ‥ 65535) counts.metastates
    → Within (1 ‥ 999999) counts.arcs → counts.arcs ≡ length arcs → arc_size * length arcs ≤ size
    → ((a : Arc) → IsIn a arcs → ArcFits (2 + counts.states * counts.metastates) a)
    → T (never_descending arcs)
    → T (network_known counts (padded size (concat_map arc_words arcs)))
unfolding in_ranges
known-network counts size arcs states metastates many e room fit rise =
    orderly-known size counts arcs record {
      ranged =
          rw (
            within-passes (1 ‥ 3) counts.states states,
            within-passes (1 ‥ 65535) counts.metastates metastates,
            within-passes (1 ‥ 999999) counts.arcs many,
          ) tt;
      wide = omega arith;
      all = sym e;
      known =
          every_in (arc_known counts) arcs
          (λ a h. fits-known counts a states.high metastates.high (fit a h));
      in_order = rise;
    }

-- ---- the network of a build

module _ (book : Book) (sound : Sound book) (few-states : book.states ≤ 3) (few-phones : book.phones ≤ 64)
    (few-models : (node model : ℕ) → node < length book.nodes → node_at book.nodes node ≡ leaf model
    → model ≤ 65535)
  where
    -- the models and the phone of a metastate are those of a combination
    leaf-most : (node : ℕ) → LeafOf book node → model_at book.nodes node ≤ 65535
    leaf-most node (listed, (model, e)) =
        rw (model-at book.nodes node model e) (few-models node model listed e)

    constructed-fits : (x : Metastate) → Constructed book x → MetastateFits (book_rules book) x
    unfolding models_of phone_of combination_of
    constructed-fits x k =
        let c : Combination = combination_at book x.number in
        let chosen = chosen_at book sound x.number k.listed in
        record {
          count = length-map c.leaves _ ∙ chosen.count;
          models = λ m i.
              let (node, there, e) = of_map (model_at book.nodes) m c.leaves i in
              rw e (leaf-most node (chosen.each_leaf node there));
          phone = omega (arith, (phone_range book.phones c.phone).0 chosen.phone-of);
        }

    -- silence alone has a way, so some metastate starts
    some-start : (x : Metastate) × IsIn x (starts book (combinations book))
    unfolding silent_ends
    some-start =
        let (ws, way, phones) = way-exists book sound [] (1 ∷ [])
        (silence-phones book.phones 1 sound.some_phone) tt in
        first ws way
      where
        first : (ws : List Metastate) → Way (graph_of book []) ws
            → (x : Metastate) × IsIn x (starts book (combinations book))
        first [] way = absurd way
        first (x ∷ ws) way = (x, way.0)

    pub connected-known : (space : Space) (limit : ℕ) (built : Built)
        → connect (book_rules book) (room_in book.half space) limit ≡ answered built
        → T (network_known (counts_in book.states (network_in built))
        (buffers_of book space (network_in built)).arcs)
    unfolding counts_in buffers_of room_in
    connected-known space limit built e =
        let net : Network = network_in built in
        let (turns, left) = build-expanded (book_rules book) (room_in book.half space) limit built e in
        let room = connected-room (room_in book.half space) (book_rules book) limit built e in
        let fits : ((x : Metastate) → IsIn x net.table → MetastateFits (book_rules book) x) =
        λ x h. constructed-fits x (table-constructed book sound (room_in book.half space) limit built e x h) in
        let done : List Metastate = take turns net.table in
        let (start, starting) = some-start in
        let (metastates, arcs) = some-there (book_rules book) done net left start starting in
        known-network (counts_in book.states net) space.arcs net.arcs
        record { low = sound.some_state; high = few-states }
        record { low = metastates; high = omega (arith, room.table) }
        record { low = arcs; high = omega (arith, room.arcs) }
        refl (omega (arith, room.arcs)) (arcs-fit (book_rules book) done net left sound.some_state fits)
        (sources-rise (book_rules book) done net left sound.some_state (λ x h. (fits x h).count))
