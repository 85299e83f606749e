-- The models that the trees give to a sequence are those that its contexts reach in the tables, and so is the number of
-- questions that they put. Every context of a sequence of phones has 2n+1 phones, as silence is a phone, so each
-- answer is there. Demand 3 starts from these models.
use Rattle.std.specs.Prelude.{◌≡◌, refl, ◌↔◌, Bool, true, false, T, length}
use Rattle.std.proofs.Common.{sym, ap₂, ◌∙◌, subst, inl, inr, arith}
use Rattle.std.proofs.Math.Path.{ap}
use mathlib.Core.List.{List, [], ◌∷◌, map}
use Rattle.std.proofs.Math.Option.{Option, none, some, none-ne-some}
use Prim.Native.Nat.{ℕ, ◌+◌, ◌<◌}
use Rattle.definitions.specs.Lists.{if◌then◌else◌, every, map_option, concat_map, up_from, sum_of, IsIn}
use Rattle.definitions.specs.Faults.{answered}
use Rattle.definitions.specs.BookLines.{BookLine, header_of, is_phone, Reached}
use Rattle.definitions.specs.BookReading.{Lent, read_book}
use Rattle.definitions.specs.Tables.{Book, book_of, book_in, contents_of}
use Rattle.definitions.specs.Lookup.{model_at}
use Rattle.definitions.specs.TreesGive.{around, contexts_within, silences, contexts, model_given, together}
use Rattle.definitions.specs.TreesGive.{reached_by_lines, models_along, trees_give}
use Rattle.definitions.specs.Transcription.{reached_for, model_of, transcription, questions_at, question_sum}
use Rattle.definitions.specs.QuestionsPut.{questions_met, questions_put}
use Rattle.definitions.proofs.Laws.Lists.Tests.{if-true}
use Rattle.definitions.proofs.Laws.Lists.Lists.{map-concat_map}
use Rattle.definitions.proofs.Laws.Lists.Members.{concat_map-same, of-up_from, place_of}
use Rattle.definitions.proofs.Laws.Lists.Sums.{sum-map, sum_same, sum-concat_map}
use Rattle.definitions.proofs.Laws.Books.Books.{accepted-orderly}
use Rattle.definitions.proofs.Laws.Books.Sound.{AllPhones}
use Rattle.definitions.proofs.Laws.Trees.WalkByLines.{reached-by-tables}
use Rattle.definitions.proofs.Laws.Trees.Contexts.{contexts-length, context-length, context-phones}
use Rattle.definitions.proofs.Laws.Trees.Contexts.{silences-length, silent-phones}

-- ---- answers that are all there

together-some : (l : List ℕ) → together (map some l) ≡ some l
unfolding together
together-some [] = refl
together-some (x ∷ l) = rw (together-some l, together)

map-some : {A : Type 0} (f : A → Option ℕ) (g : A → ℕ) (l : List A)
    → ((x : A) → IsIn x l → f x ≡ some (g x)) → map f l ≡ map some (map g l)
map-some f g [] h = refl
map-some f g (x ∷ l) h = ap₂ ◌∷◌ (h x (inl refl)) (map-some f g l (λ y i. h y (inr i)))

concat_map-some : {A : Type 0} (f : A → List (Option ℕ)) (g : A → List ℕ) (l : List A)
    → ((x : A) → IsIn x l → f x ≡ map some (g x)) → concat_map f l ≡ map some (concat_map g l)
concat_map-some f g l h = concat_map-same f (λ x. map some (g x)) l h ∙ sym (map-concat_map some g l)

-- ---- contexts and states in range

-- the contexts of a sequence within phones, as many on each side, are contexts of phones
pub context-in-range : (phones half : ℕ) (left S right context : List ℕ)
    → length left ≡ half → length right ≡ half → T (every (is_phone phones) (around left S right))
    → IsIn context (contexts_within half left S right)
    → (length context ≡ half + half + 1) × T (every (is_phone phones) context)
context-in-range phones half left S right context before after h c =
    let (i, k, e) = place_of context (contexts_within half left S right) [] c in
    let place : i < length S = subst (λ n. i < n) (contexts-length half left S right) k in (
      ap length (sym e) ∙ context-length half left S right i place before after ∙ omega arith,
      subst (λ l. T (every (is_phone phones) l)) e (context-phones half left S right i place phones h),
    )

-- ---- the models along a sequence

-- the models at leaves
abbrev pub leaf_models : Book → (leaves : List ℕ) → List ℕ
leaf_models book leaves = map (λ node. model_at book.nodes node) leaves

module _ (lent : Lent) (text : List ℕ) (lines : List BookLine) (e : read_book lent text ≡ answered lines) (S : List ℕ)
    (h : T (every (is_phone (header_of lines).phones) S))
  where
    abbrev states : List ℕ
    states = up_from 1 (header_of lines).states

    abbrev places : List (List ℕ)
    places = contexts (header_of lines).half S

    -- what is asked of each walk, by lines and by tables
    reached-along : (f : Reached → ℕ)
        → together
        (concat_map (λ context. map (λ state. map_option f (reached_by_lines lines context state)) states) places)
        ≡ some (concat_map (λ context. map (λ state. f (reached_for (book_of lines) context state)) states) places)
    unfolding map_option
    reached-along f = ap together (concat_map-some _ _ places each) ∙ together-some _
      where
        each : (context : List ℕ) → IsIn context places
            → map (λ state. map_option f (reached_by_lines lines context state)) states
            ≡ map some (map (λ state. f (reached_for (book_of lines) context state)) states)
        each context c = map-some _ _ states (λ state i.
            let n : ℕ = (header_of lines).half in
            let wide = silences-length n in
            let some_phone = (accepted-orderly lent text lines e).in-range.phones_range.low in
            let (width, phones) =
            context-in-range (header_of lines).phones n (silences n) S (silences n) context wide wide
            (silent-phones n S (header_of lines).phones some_phone h) c in
            let (low, high) = of-up_from 1 (header_of lines).states state i in
            ap (map_option f) (reached-by-tables lent text lines e context width phones state low (omega arith)))

    pub models-along : trees_give lines S ≡ some (transcription (book_of lines) S)
    unfolding trees_give models_along model_given book_of book_in contents_of transcription model_of
    models-along =
        if-true (every (is_phone (header_of lines).phones) S) _ none h ∙ reached-along (λ r. r.model)

    -- and the questions that were put, in all
    pub questions-along : questions_put lines S ≡ some (question_sum (book_of lines) S)
    unfolding questions_put questions_met book_of book_in contents_of question_sum questions_at map_option
    questions-along =
        let met : List ℕ → ℕ → ℕ = λ context state. (reached_for (book_of lines) context state).questions in
        if-true (every (is_phone (header_of lines).phones) S) _ none h
        ∙ ap (map_option (sum_of (λ questions. questions))) (reached-along (λ r. r.questions))
        ∙ ap some (sum-concat_map (λ questions. questions) (λ context. map (met context) states) places
        ∙ sum_same _ _ places (λ context i. sum-map (λ questions. questions) (met context) states))

-- a sequence that is given models has phones in range
trees_give-range : (lines : List BookLine) (S M : List ℕ) → trees_give lines S ≡ some M
    → T (every (is_phone (header_of lines).phones) S)
unfolding trees_give
trees_give-range lines S M e = go (every (is_phone (header_of lines).phones) S) e
  where
    go : (b : Bool) → (if b then models_along lines (contexts (header_of lines).half S) else none) ≡ some M
        → T b
    go true q = tt
    go false q = absurd (none-ne-some M q)

-- a sequence of the book's phones whose contexts reach these models
pub record Reaches (book : Book) (S M : List ℕ) : Type 0 where
  pub phones-in : AllPhones book S
  pub models : transcription book S ≡ M

-- so what the trees give is what the contexts reach
pub given_is : (lent : Lent) (text : List ℕ) (lines : List BookLine) → read_book lent text ≡ answered lines
    → (S M : List ℕ) → (trees_give lines S ≡ some M) ↔ Reaches (book_of lines) S M
unfolding book_of book_in contents_of
given_is lent text lines e S M =
    (there, λ r. models-along lent text lines e S r.phones-in ∙ ap some r.models)
  where
    there : trees_give lines S ≡ some M → Reaches (book_of lines) S M
    there given =
        let range = trees_give-range lines S M given in
        let same : ◌≡◌ {A = Option (List ℕ)} (some (transcription (book_of lines) S)) (some M) =
        sym (models-along lent text lines e S range) ∙ given in
        record { phones-in = range; models = cc }
