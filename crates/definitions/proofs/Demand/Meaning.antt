-- What the ways of a book mean: to each sequence of the book's phones that begins and ends with silence
-- there is one way, and it carries the models that the contexts of the sequence reach in the trees. Each
-- window of the sequence with silence around it is admitted by one combination (demand/ChoicesAlong.antt).
use Rattle.std.specs.Prelude.{◌≡◌, T, length}
use Rattle.std.proofs.Math.Path.{sym, ap}
use Rattle.std.proofs.Common.{◌∙◌, arith}
use mathlib.Core.List.{List, map, map-map}
use Prim.Native.Nat.{ℕ, ◌+◌, ◌≤◌}
use Rattle.std.proofs.lemmas.List.{length-map}
use Rattle.definitions.specs.Lists.{◌!◌, concat_map, up_from}
use Rattle.definitions.specs.Tables.{Book, root_of}
use Rattle.definitions.specs.Lookup.{model_at, leaf_reached}
use Rattle.definitions.specs.Combinations.{combinations}
use Rattle.definitions.specs.Metastates.{Metastate, combination_of, phone_of, models_of}
use Rattle.definitions.specs.TreesGive.{contexts_within, silences, with_silence, contexts}
use Rattle.definitions.specs.TreesGive.{silent_ends}
use Rattle.definitions.specs.Transcription.{model_of, transcription}
use Rattle.definitions.proofs.Laws.Lists.Lists.{concat_map-map}
use Rattle.definitions.proofs.Laws.Books.Sound.{AllPhones, Sound}
use Rattle.definitions.proofs.Laws.Trees.Walks.{reached-model}
use Rattle.definitions.proofs.Laws.Trees.ModelsAlong.{leaf_models}
use Rattle.definitions.proofs.Laws.Trees.Contexts.{around-middle, silences-length, silent-length}
use Rattle.definitions.proofs.Laws.Trees.Contexts.{silent-phones}
use Rattle.definitions.proofs.Graph.Graph.{Way}
use Rattle.definitions.proofs.Demand.Chains.{AdmitEach}
use Rattle.definitions.proofs.Demand.Chosen.{combination_at}
use Rattle.definitions.proofs.Demand.Choices.{leaves_reached}
use Rattle.definitions.proofs.Demand.ChoicesAlong.{Long, choices-along, choices-unique, choices-leaves}
use Rattle.definitions.proofs.Demand.Network.{graph_of}
use Rattle.definitions.proofs.Demand.Passages.{numbers_along, carriers_of, phones_of}
use Rattle.definitions.proofs.Demand.Sentences.{centres}
use Rattle.definitions.proofs.Demand.Ways.{way_of, way_of-numbers, Admitted, way-admitted, admitted-way}
use Rattle.definitions.proofs.Demand.Ways.{listed-phones}

module _ (book : Book) (sound : Sound book) where
  -- the phones and models of metastates are those of their combinations
  phones-by-number : (ws : List Metastate)
      → map (phone_of (combinations book)) ws ≡ phones_of book (numbers_along ws)
  unfolding phone_of combination_of
  phones-by-number ws = sym (map-map (λ j. (combination_at book j).phone) (λ x. x.number) ws)

  way-leaves : (ws : List Metastate) → concat_map (models_of book (combinations book)) ws
      ≡ concat_map (leaf_models book) (map (λ j. (combination_at book j).leaves) (numbers_along ws))
  unfolding models_of combination_of
  way-leaves ws =
      sym (concat_map-map (leaf_models book) (λ j. (combination_at book j).leaves) (numbers_along ws)
      ∙ concat_map-map (λ j. leaf_models book (combination_at book j).leaves) (λ x. x.number) ws)

  -- the models at the leaves that a window reaches
  abbrev models_at : List ℕ → List ℕ
  models_at W = map (λ state. model_of book W state) (up_from 1 book.states)

  reached-models : (λ (W : List ℕ). leaf_models book (leaves_reached book W (W ! book.half)))
      ≡ models_at
  unfolding model_of
  reached-models =
      let states : List ℕ = up_from 1 book.states in
      let root : List ℕ → ℕ → ℕ = λ W state. root_of book (W ! book.half) state in
      let reach : List ℕ → ℕ → ℕ = λ W state. leaf_reached book.nodes book.classes W (root W state) in
      (λ i W. map-map (model_at book.nodes) (reach W) states i)
      ∙ sym (λ i W. map (λ state. reached-model book.nodes book.classes W (root W state) i) states)

  -- the sequence of the phones of combinations, with silence around it, has a window for each
  phones-length : (js : List ℕ) → length (phones_of book js) ≡ length js
  phones-length js = length-map js (λ j. (combination_at book j).phone)

  around-long : (js : List ℕ) → Long book (length js) (with_silence book.half (phones_of book js))
  around-long js = omega (arith, silent-length book.half (phones_of book js), phones-length js)

  around-in-range : (S : List ℕ) → AllPhones book S → AllPhones book (with_silence book.half S)
  around-in-range S r = silent-phones book.half S book.phones sound.some_phone r

  -- combinations with the same phones that admit their windows are the same
  admitted-unique : (js ks : List ℕ) → Admitted book js → Admitted book ks
      → phones_of book js ≡ phones_of book ks → js ≡ ks
  admitted-unique js ks a b e =
      let n : ℕ = book.half in
      let count : length js ≡ length ks = sym (phones-length js) ∙ ap length e ∙ phones-length ks in
      let range = around-in-range (phones_of book js) (listed-phones book sound js a.listed) in
      let second : AdmitEach (carriers_of book ks) (with_silence n (phones_of book js)) = rw e b.windows in
      choices-unique book sound js ks (with_silence n (phones_of book js)) a.listed b.listed count
      (around-long js) range a.windows second

  module _ (table : List Metastate) where
    pub ways-unique : (ws us : List Metastate) → Way (graph_of book table) ws → Way (graph_of book table) us
        → map (phone_of (combinations book)) ws ≡ map (phone_of (combinations book)) us → ws ≡ us
    ways-unique ws us w u e =
        let (first, a) = way-admitted book sound table ws w in
        let (second, b) = way-admitted book sound table us u in
        let phones = sym (phones-by-number ws) ∙ e ∙ phones-by-number us in
        let same = admitted-unique (numbers_along ws) (numbers_along us) a b phones in
        first ∙ ap (way_of book) same ∙ sym second

    -- the phones of a way are phones of the book, with silence at both ends
    pub way-phones-silent : (ws : List Metastate) → Way (graph_of book table) ws
        → T (silent_ends (map (phone_of (combinations book)) ws))
        × AllPhones book (map (phone_of (combinations book)) ws)
    way-phones-silent ws w =
        let a = (way-admitted book sound table ws w).1 in
        rw (phones-by-number ws) (a.silent, listed-phones book sound (numbers_along ws) a.listed)

    -- a way's combinations take the leaves that the contexts of its phones reach
    way-reached : (ws : List Metastate) → Way (graph_of book table) ws
        → map (λ j. (combination_at book j).leaves) (numbers_along ws)
        ≡ map (λ W. leaves_reached book W (W ! book.half))
        (contexts book.half (phones_of book (numbers_along ws)))
    unfolding contexts_within
    way-reached ws w =
        let js : List ℕ = numbers_along ws in
        let S : List ℕ = phones_of book js in
        let a = (way-admitted book sound table ws w).1 in
        let range = around-in-range S (listed-phones book sound js a.listed) in
        let Z : List ℕ = with_silence book.half S in
        choices-leaves book sound js Z a.listed (around-long js) range a.windows
        ∙ rw (phones-length js)

    pub way-transcribed : (ws : List Metastate) → Way (graph_of book table) ws
        → concat_map (models_of book (combinations book)) ws
        ≡ transcription book (map (phone_of (combinations book)) ws)
    unfolding transcription
    way-transcribed ws w =
        let reach : List ℕ → List ℕ = λ W. leaves_reached book W (W ! book.half) in
        let all : List (List ℕ) = contexts book.half (phones_of book (numbers_along ws)) in
        way-leaves ws ∙ ap (concat_map (leaf_models book)) (way-reached ws w)
        ∙ concat_map-map (leaf_models book) reach all
        ∙ ap (λ (f : List ℕ → List ℕ). concat_map f all) reached-models
        ∙ ap (transcription book) (sym (phones-by-number ws))

    -- each sequence of phones with silent ends has a way
    pub way-exists : (S : List ℕ) → AllPhones book S → T (silent_ends S)
        → (ws : List Metastate) × Way (graph_of book table) ws × (map (phone_of (combinations book)) ws ≡ S)
    way-exists S range silent =
        let n : ℕ = book.half in
        let Z : List ℕ = with_silence n S in
        let long : Long book (length S) Z = omega (arith, silent-length n S) in
        let (js, a) = choices-along book sound (length S) Z long (around-in-range S range) in
        let enough : n + length js ≤ length Z = omega (arith, a.as_many) in
        let phones : phones_of book js ≡ S =
        sym (centres book sound js Z a.listed a.admitted enough)
        ∙ rw a.as_many (around-middle (silences n) S (silences n) n (silences-length n)) in
        let way = admitted-way book sound table js record {
          listed = a.listed;
          windows = rw phones a.admitted;
          silent = rw phones silent;
        } in
        let ws : List Metastate = way_of book js in
        (ws, way, phones-by-number ws ∙ ap (phones_of book) (way_of-numbers book js) ∙ phones)
