-- Laws about the models that contexts reach in known tables: of one state, of all states of a place, and of
-- all places.
use Rattle.std.specs.Prelude.{◌≡◌, T, eqb, take, drop}
use Rattle.std.proofs.Math.Path.{refl, ap}
use Rattle.std.proofs.Common.{sym, ap₂, ◌∙◌, suc-mul, mul_comm, mul-le-mul_right, arith, length-append, length-drop, length-take-le}
use mathlib.Core.List.{List, [], ◌++◌, append_assoc}
use Prim.Native.Nat.{ℕ, ◌+◌, ◌-◌, ◌*◌, ◌≤◌, ◌<◌}
use Rattle.std.proofs.Math.Nat.{zero-mul}
use Rattle.std.proofs.Math.Numerals.{add-one}
use Rattle.std.proofs.Math.ListN.{length}
use Rattle.std.proofs.Math.Seq.{take_at, drop_at, drop-drop, take-suc, take_all}
use Rattle.definitions.specs.declared.Header.{Header}
use Rattle.definitions.specs.declared.Node.{Node}
use Rattle.definitions.specs.Lists.{◌!◌, every, concat_map}
use Rattle.definitions.specs.BookLines.{TreeNode, root_count, is_phone}
use Rattle.definitions.specs.BookReading.{node_size}
use Rattle.definitions.specs.Tables.{Book, node_of, node_records, root_of}
use Rattle.definitions.specs.Lookup.{reached, model_at, is_context}
use Rattle.definitions.specs.TreesGive.{silences, contexts}
use Rattle.definitions.specs.Transcription.{reached_for, model_of, transcription}
use Rattle.definitions.proofs.Laws.Lists.Tests.{T_and, eq→eqb}
use Rattle.definitions.proofs.Laws.Lists.Lists.{map-up_from-length, map-up_from-at, concat_map-snoc}
use Rattle.definitions.proofs.Laws.Lists.Records.{flat-length}
use Rattle.definitions.proofs.Laws.Trees.Walks.{reached-model}
use Rattle.definitions.proofs.Laws.Trees.Contexts.{context_at, contexts-length, context-phones, silent-phones}
use Rattle.definitions.proofs.Laws.Trees.Contexts.{silent-context-length}
use Rattle.tables.specs.Usable.{book_with, tree_nodes}
use Rattle.trees.specs.declared.Walked.{Walked}
use Rattle.tables.specs.Laws.KnownTables.{record-listed}
use Rattle.trees.specs.Answers.{Walks}
use Rattle.transcripts.specs.Answers.{found_of, state_models}
use Rattle.trees.specs.Laws.Walking.{model_is}

-- the record at the leaf that the walk from the root reaches holds the model; the questions are the walk's
pub found-reached : (header : Header) (nodes classes roots context : List ℕ)
    (state root count : ℕ) (walked : Walked) (x : Node)
    → root ≡ take (root_count header) roots ! ((context ! header.half - 1) * header.states + (state - 1))
    → count ≡ header.classes
    → Walks header (node_records header nodes) (take count classes) context root walked
    → x ≡ node_of (drop (node_size * walked.leaf) nodes)
    → record { model = x.value; questions = walked.questions }
    ≡ found_of (reached_for (book_with header nodes classes roots) context state)
unfolding book_with root_of
found-reached header nodes classes roots context state root count walked x r n w own =
    let tree : List TreeNode = tree_nodes header nodes in
    let listed = record-listed header nodes walked.leaf w.listed in
    let other : (node_of (drop (node_size * walked.leaf) nodes)).kind ≡ 1 → ⊥ =
    λ k. w.ends (ap (λ (x : Node). x.kind) listed ∙ k) in
    let model = ap (λ (x : Node). x.value) own ∙ sym (model_is header nodes walked.leaf w.listed other)
    ∙ ap (λ (walked : Walked). model_at tree walked.leaf) w.reaches
    ∙ sym (reached-model tree (take count classes) context root) in
    ap₂ (λ (model questions : ℕ). record { model = model; questions = questions })
    model (ap (λ (walked : Walked). walked.questions) w.reaches)
    ∙ ap₂ (λ (count root : ℕ). found_of (reached tree (take count classes) context root)) n r

-- ---- the states of a context

module _ (book : Book) (context : List ℕ) where
  pub states-length : length (state_models book context) ≡ book.states
  states-length = map-up_from-length (λ state. model_of book context state) 1 book.states

  -- the model of state i+1
  pub state-at : (i : ℕ) → i < book.states → model_of book context (i + 1) ≡ state_models book context ! i
  state-at i h =
      sym (map-up_from-at (λ state. model_of book context state) 1 book.states i (i + 1) h (omega arith))

-- ---- the context of a place, in the front of a window

module _ (header : Header) (S : List ℕ) (place : ℕ) (inside : place < length S) where
  pub context-fits : 1 ≤ header.phones → T (every (is_phone header.phones) S)
      → T (is_context header (context_at header.half S place))
  unfolding is_context
  context-fits some h =
      let half : ℕ = header.half in
      (T_and (eqb (length (context_at half S place)) (2 * half + 1))
      (every (is_phone header.phones) (context_at half S place))).1 (
        eq→eqb _ _ (silent-context-length half S place inside),
        context-phones half (silences half) S (silences half) place inside header.phones
            (silent-phones half S header.phones some h),
      )

  module _ (half : ℕ) (own : half ≡ header.half) (window : List ℕ) (e : window ≡ context_at half S place) where
    window-length : length window ≡ 2 * half + 1
    window-length = ap length e ∙ silent-context-length half S place inside

    pub window-inside : (rest : List ℕ) → 2 * half + 1 ≤ length (window ++ rest)
    window-inside rest = omega (arith, length-append window rest, window-length)

    pub window-taken : (rest : List ℕ)
        → take (2 * half + 1) (window ++ rest) ≡ context_at header.half S place
    window-taken rest = take_at window rest (2 * half + 1) window-length ∙ e ∙ rw own

-- ---- the models of all places, one after the other, in the front of a buffer

-- a buffer s, before the loop d, after the models of so many places
pub record Placed (book : Book) (S d : List ℕ) (place : ℕ) (s : List ℕ) : Type 0 where
  pub within : place ≤ length S
  pub sized : length s ≡ length d
  pub holds : s
      ≡ concat_map (state_models book) (take place (contexts book.half S)) ++ drop (place * book.states) d

module _ (book : Book) (S : List ℕ) where
  abbrev places : List (List ℕ)
  places = contexts book.half S

  pub places-length : length (contexts book.half S) ≡ length S
  places-length = contexts-length book.half (silences book.half) S (silences book.half)

  models-count : (l : List (List ℕ)) → length (concat_map (state_models book) l) ≡ length l * book.states
  models-count l =
      flat-length (state_models book) book.states (states-length book) l ∙ mul_comm book.states (length l)

  -- so many models for each phone
  pub transcription-length : length (transcription book S) ≡ length S * book.states
  unfolding transcription
  transcription-length =
      models-count places ∙ ap (λ (n : ℕ). n * book.states) places-length

  pub placed-start : (d : List ℕ) → Placed book S d 0 d
  unfolding concat_map
  placed-start d = record { within = omega arith; sized = refl; holds = rw zero-mul }

  -- the room of a place
  pub room : (d : List ℕ) → length S * book.states ≤ length d → (place states : ℕ) → place < length S
      → states ≡ book.states → place * states + states ≤ length d
  room d wide place states inside e =
      rw e (omega (arith, mul-le-mul_right book.states inside, suc-mul place book.states))

  module _ (d s : List ℕ) (place : ℕ) (p : Placed book S d place s) where
    front_length : length (concat_map (state_models book) (take place places)) ≡ place * book.states
    front_length =
        models-count (take place places)
        ∙ ap (λ (n : ℕ). n * book.states)
        (length-take-le place places (rw places-length p.within))

    pub placed-more : length S * book.states ≤ length d → place < length S
        → (states count : ℕ) → states ≡ book.states → count ≡ states → (ys : List ℕ)
        → ys ≡ state_models book (context_at book.half S place)
        → Placed book S d (place + 1)
        (take (place * states) s ++ (ys ++ drop count (drop (place * states) s)))
    unfolding concat_map
    placed-more wide inside states count e k ys own =
        let w : ℕ = book.states in
        let front : List ℕ = concat_map (state_models book) (take place places) in
        let fits : place * w + w ≤ length d = room d wide place w inside refl in
        let listed : place < length places = rw places-length inside in
        let next : (place + 1) * w ≡ place * w + w = rw add-one (suc-mul place w) in
        rw (
          k,
          e,
          p.holds,
          take_at front _ (place * w) front_length,
          drop_at front _ (place * w) front_length,
          drop-drop w (place * w) d,
          own,
        )
        record {
          within = omega arith;
          sized =
              simp (length-append, length-drop)
              (omega (arith, front_length, states-length book (context_at book.half S place)));
          holds =
              rw (
                next,
                add-one place,
                take-suc places place [] listed,
                concat_map-snoc (state_models book) (take place places),
              ) (sym (append_assoc front _ _));
        }

    pub placed_end : length S ≤ place → s ≡ transcription book S ++ drop (length S * book.states) d
    unfolding transcription
    placed_end h =
        let all : place ≡ length S = omega (arith, p.within) in
        let listed : length places ≤ length S = omega (arith, places-length) in
        p.holds ∙ rw (all, take_all (length S) places listed)
