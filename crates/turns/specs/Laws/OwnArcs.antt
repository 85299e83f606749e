-- Laws about arcs as words, up to three: one arc more, and a metastate's own arcs one by one.
use Rattle.std.specs.Prelude.{◌≡◌, length, take, drop}
use Rattle.std.proofs.Math.Path.{refl}
use Rattle.std.proofs.Common.{sym, ap, ap₂, ◌∙◌, subst, add-zero, add-one, arith, length-append, length-drop, length-take-le, take_at, get_or-drop, ext_get_or}
use mathlib.Core.List.{List, [], ◌∷◌, ◌++◌, map, map-append}
use Prim.Native.Nat.{ℕ, suc, ◌+◌, ◌-◌, ◌*◌, ◌≤◌, ◌<◌}
use Rattle.definitions.specs.declared.Header.{Header}
use Rattle.definitions.specs.Lists.{◌!◌, concat_map, up_from}
use Rattle.definitions.specs.Arcs.{Arc, arc, arc_words, first_state}
use Rattle.definitions.specs.BookReading.{node_size}
use Rattle.definitions.specs.Connecting.{own_arcs}
use Rattle.definitions.specs.Metastates.{Metastate, models_of}
use Rattle.definitions.specs.Tables.{node_of}
use Rattle.definitions.proofs.Laws.Lists.Lists.{concat_map-snoc, up_from-snoc, map-up_from-length, map-up_from-at}
use Rattle.definitions.proofs.Laws.Books.AcceptedKnown.{header-ranges}
use Rattle.lines.specs.Putting.{put_at}
use Rattle.index.specs.Combinations.{combinations_in, nodes_book, Usable}
use Rattle.index.specs.RecordWords.{model_word}
use Rattle.index.specs.Laws.RecordWords.{leaf-word, models_length, model-word}
use Rattle.metastates.specs.Underway.{Placed}
use Rattle.turns.specs.declared.Arcs.{Arcs}
use Rattle.turns.specs.Arcs.{AreArcs}

-- ---- one arc more

-- words put at a place, and what stands before them
put-taken : (words : List ℕ) (at : ℕ) (new : List ℕ) → at ≤ length words
    → take (at + length new) (put_at at new words) ≡ take at words ++ new
unfolding put_at
put-taken words at new h =
    let before : length (take at words) ≡ at = length-take-le at words h in
    take_at (take at words ++ new) (drop (at + length new) words) (at + length new)
    (length-append (take at words) new ∙ ap (λ (n : ℕ). n + length new) before)

-- the words of an arc put after the others
pub arc-stored : (new : Arcs) (arcs : List Arc) (from to model : ℕ) {words : List ℕ}
    → length new.words ≡ 12 → new.count < 3 → words ≡ put_at (4 * new.count) (arc_words (arc from to model 0)) new.words
    → AreArcs new arcs
    → AreArcs (record { count = new.count + 1; words = words }) (arcs ++ (arc from to model 0 ∷ []))
unfolding arc_words
arc-stored new arcs from to model sized few put are =
    let at : ℕ = 4 * new.count in
    let end : 4 * (new.count + 1) ≡ at + 4 = omega arith in
    record {
      counted = ap (λ (n : ℕ). n + 1) are.counted ∙ sym (length-append arcs (arc from to model 0 ∷ []));
      worded =
          ap₂ (λ (n : ℕ) (l : List ℕ). take n l) end put
          ∙ put-taken new.words at (arc_words (arc from to model 0)) (omega arith)
          ∙ ap (λ (l : List ℕ). l ++ arc_words (arc from to model 0)) are.worded
          ∙ sym (concat_map-snoc arc_words arcs (arc from to model 0));
    }

-- ---- a metastate's own arcs, one by one

own-arcs-snoc : (state : ℕ) (models : List ℕ) (model : ℕ)
    → own_arcs state (models ++ (model ∷ []))
    ≡ own_arcs state models ++ (arc (state + length models) (state + length models + 1) model 0 ∷ [])
unfolding own_arcs
own-arcs-snoc state [] model = rw (add-zero, add-one)
own-arcs-snoc state (m ∷ models) model =
    let next : suc state + length models ≡ state + suc (length models) = omega arith in
    ap (λ l. arc state (suc state) m 0 ∷ l)
    (own-arcs-snoc (suc state) models model
    ∙ ap (λ (n : ℕ). own_arcs (suc state) models ++ (arc n (n + 1) model 0 ∷ [])) next)

pub own-length : (state : ℕ) (models : List ℕ) → length (own_arcs state models) ≡ length models
unfolding own_arcs
own-length state [] = refl
own-length state (m ∷ models) = ap suc (own-length (suc state) models)

-- the arcs up to the one into a state, where each state has its model
pub record OwnArcs (model : ℕ → ℕ) (first states state : ℕ) (new : Arcs) : Type 0 where
  pub later : 1 ≤ state
  pub within : state ≤ states
  pub are : AreArcs new (own_arcs first (map model (up_from 1 (state - 1))))

module _ (model : ℕ → ℕ) (first states : ℕ) where
  pub own-none : 1 ≤ states → (words : List ℕ)
      → OwnArcs model first states 1 (record { count = 0; words = words })
  unfolding own_arcs concat_map up_from
  own-none h words =
      record { later = omega arith; within = h; are = record { counted = refl; worded = refl } }

  module _ {state : ℕ} {new : Arcs} (o : OwnArcs model first states state new) where
    abbrev models : List ℕ
    models = map model (up_from 1 (state - 1))

    models-count : length models ≡ state - 1
    models-count = map-up_from-length model 1 (state - 1)

    pub own-count : new.count ≡ state - 1
    own-count = o.are.counted ∙ own-length first models ∙ models-count

    models-more : map model (up_from 1 (state + 1 - 1)) ≡ models ++ (model state ∷ [])
    models-more =
        let one_more : state + 1 - 1 ≡ state - 1 + 1 = omega (arith, o.later) in
        let last : 1 + (state - 1) ≡ state = omega (arith, o.later) in
        ap (λ (n : ℕ). map model (up_from 1 n)) one_more
        ∙ ap (map model) (up_from-snoc 1 (state - 1)) ∙ map-append model (up_from 1 (state - 1)) _
        ∙ ap (λ (n : ℕ). models ++ (model n ∷ [])) last

    arcs-more : own_arcs first (map model (up_from 1 (state + 1 - 1)))
        ≡ own_arcs first models ++ (arc (first + state - 1) (first + state) (model state) 0 ∷ [])
    arcs-more =
        let from : first + length models ≡ first + state - 1 = omega (arith, o.later, models-count) in
        let to : first + length models + 1 ≡ first + state = omega (arith, o.later, models-count) in
        ap (own_arcs first) models-more ∙ own-arcs-snoc first models (model state)
        ∙ ap₂ (λ (m n : ℕ). own_arcs first models ++ (arc m n (model state) 0 ∷ [])) from to

    pub own-more : {more : Arcs} {found : ℕ} → state < states → found ≡ model state
        → ((arcs : List Arc) → AreArcs new arcs
        → AreArcs more (arcs ++ (arc (first + state - 1) (first + state) found 0 ∷ [])))
        → OwnArcs model first states (state + 1) more
    own-more {more} {found} h e grows =
        let last : (ℕ → List Arc) = λ m. arc (first + state - 1) (first + state) m 0 ∷ [] in
        record {
          later = omega arith;
          within = omega arith;
          are = subst (AreArcs more) (ap (λ (m : ℕ). own_arcs first models ++ last m) e ∙ sym arcs-more)
              (grows (own_arcs first models) o.are);
        }

    -- when each state of a metastate has its model, these are its arcs
    pub own-all : (all : List ℕ) → length all ≡ states
        → ((i : ℕ) → i < states → model i ≡ all ! i) → states ≤ state
        → AreArcs new (own_arcs first (drop 1 all))
    own-all all e each end =
        let these : length models ≡ length (drop 1 all) =
        models-count ∙ omega (arith, o.within, end, e, length-drop 1 all) in
        let same : models ≡ drop 1 all =
        ext_get_or 0 models (drop 1 all) these
        (λ i h. map-up_from-at model 1 (state - 1) i (1 + i) (omega (arith, models-count)) refl
        ∙ each (1 + i) (omega (arith, models-count, o.within, o.later)) ∙ sym (get_or-drop 1 all i 0)) in
        subst (λ (l : List ℕ). AreArcs new (own_arcs first l)) same o.are

-- ---- the models of a metastate's states, as words say them

module _ {header : Header} {nodes combinations : List ℕ} {place : ℕ} (x : Metastate)
    (p : Placed header nodes combinations x.number place)
  where
    usable : Usable header combinations
    usable = p.connectable.usable

    model-at : (state : ℕ) → state < header.states
        → model_word header.half combinations x.number nodes state
        ≡ models_of (nodes_book header nodes) (combinations_in header combinations) x ! state
    model-at state k =
        let ranges = header-ranges header usable.header-known in
        let held : state < 3 = omega (arith, ranges.states_range.high) in
        ap (λ (word : ℕ). (node_of (drop (node_size * word) nodes)).value)
        (leaf-word header combinations usable x.number p.listed state held)
        ∙ model-word header combinations usable x.number p.listed nodes
        p.connectable.modelled x refl state k

    pub own-are : {states state : ℕ} {new : Arcs} → states ≡ header.states
        → OwnArcs (model_word header.half combinations x.number nodes) (2 + place * states) states state new
        → states ≤ state
        → AreArcs new (own_arcs (first_state header.states place)
        (drop 1 (models_of (nodes_book header nodes) (combinations_in header combinations) x)))
    unfolding first_state
    own-are {states} {state} {new} e o end =
        let model : (ℕ → ℕ) = model_word header.half combinations x.number nodes in
        let all : List ℕ = models_of (nodes_book header nodes) (combinations_in header combinations) x in
        own-all model (2 + place * header.states) header.states
        (subst (λ (n : ℕ). OwnArcs model (2 + place * n) n state new) e o) all
        (models_length header combinations usable x.number p.listed nodes
        p.connectable.modelled x refl)
        model-at (omega (arith, e, end))
