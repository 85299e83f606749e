-- Laws about the questions that are put, for the loops over states and places: their sums so far, and that these fit. A
-- walk meets no more questions than there are nodes, 4096 at most; so a place has at most 12288, and 1000000 places
-- have fewer than 2^64.
use Rattle.std.specs.Prelude.{◌≡◌, take}
use Rattle.std.proofs.Math.Path.{refl, ap}
use Rattle.std.proofs.Common.{◌∙◌, add-one, arith, take_all, length-take-le}
use mathlib.Core.List.{List, [], ◌∷◌}
use Prim.Native.Nat.{ℕ, ◌+◌, ◌*◌, ◌≤◌, ◌<◌}
use Rattle.std.proofs.Math.ListN.{length, length-map}
use Rattle.std.proofs.Math.Seq.{take-suc}
use Rattle.definitions.specs.declared.Header.{Header}
use Rattle.definitions.specs.Lists.{◌!◌, up_from, sum_of}
use Rattle.definitions.specs.Tables.{Book, tree_node, node_records, root_of}
use Rattle.definitions.specs.TreesGive.{contexts}
use Rattle.definitions.specs.Transcription.{reached_for, questions_at, question_sum}
use Rattle.definitions.proofs.Laws.Lists.Lists.{up_from-length, up_from-snoc}
use Rattle.definitions.proofs.Laws.Lists.Sums.{sum-append, sum-most}
use Rattle.definitions.proofs.Laws.Books.Tables.{node-records-length}
use Rattle.definitions.proofs.Laws.Trees.Walks.{reached-few}
use Rattle.definitions.proofs.Laws.Trees.Contexts.{context_at}
use Rattle.lines.specs.Laws.Filling.{Filled, filled-start}
use Rattle.tables.specs.Usable.{book_with, Fit}
use Rattle.transcripts.specs.Answers.{state_models}
use Rattle.transcripts.specs.Laws.Models.{Placed, placed-start, places-length}

-- ---- a walk

module _ (header : Header) (nodes classes roots : List ℕ) (fit : Fit header nodes classes roots) where
  abbrev book : Book
  book = book_with header nodes classes roots

  pub met-few : (context : List ℕ) (state : ℕ) → (reached_for book context state).questions ≤ 4096
  unfolding book_with
  met-few context state =
      let all = length-map (node_records header nodes) tree_node ∙ node-records-length header nodes in
      let root : ℕ = root_of book (context ! header.half) state in
      omega (arith, reached-few book.nodes book.classes context root, all, fit.ranges.nodes_range.high)

  -- ---- the states of a place

  abbrev met : (context : List ℕ) → (state : ℕ) → ℕ
  met context state = (reached_for book context state).questions

  pub states-few : (context : List ℕ) (count : ℕ) → sum_of (met context) (up_from 1 count) ≤ 4096 * count
  states-few context count =
      omega (arith, sum-most (met context) 4096 (up_from 1 count) (met-few context), up_from-length 1 count)

  pub place_few : (context : List ℕ) → questions_at book context ≤ 12288
  unfolding questions_at book_with
  place_few context = omega (arith, states-few context header.states, fit.ranges.states_range.high)

  places-few : (places : List (List ℕ)) → sum_of (λ context. questions_at book context) places ≤ 12288 * length places
  places-few places = sum-most (λ context. questions_at book context) 12288 places place_few

-- before the loop d, now s: the models of so many states, and the sum of the questions that were met for them
pub record StatesSoFar (book : Book) (context d : List ℕ) (count : ℕ) (s : List ℕ) (questions : ℕ) : Type 0 where
  pub filled : Filled (state_models book context) d count s
  pub summed : questions ≡ sum_of (λ state. (reached_for book context state).questions) (up_from 1 count)

pub states-start : (book : Book) (context d : List ℕ) → StatesSoFar book context d 0 d 0
unfolding sum_of up_from
states-start book context d = record { filled = filled-start _ d; summed = refl }

-- one state more
pub state-more : (f : ℕ → ℕ) (count sum : ℕ) → sum ≡ sum_of f (up_from 1 count) → (more : ℕ) → more ≡ f (count + 1)
    → sum + more ≡ sum_of f (up_from 1 (count + 1))
unfolding sum_of
state-more f count sum e more own =
    let next : 1 + count ≡ count + 1 = omega arith in
    rw (up_from-snoc 1 count, next) (omega (arith, e, own, sum-append f (up_from 1 count) ((count + 1) ∷ [])))

-- ---- all places

module _ (book : Book) (S : List ℕ) where
  abbrev places : List (List ℕ)
  places = contexts book.half S

  abbrev asked : List ℕ → ℕ
  asked context = questions_at book context

  -- the sum over the places before one
  unfoldable pub sum_before : (place : ℕ) → ℕ
  sum_before place = sum_of asked (take place places)

  -- before the loop d, now s: the models of so many places, and the sum of their questions
  pub record PlacesSoFar (d : List ℕ) (place : ℕ) (s : List ℕ) (questions : ℕ) : Type 0 where
    pub placed : Placed book S d place s
    pub summed : questions ≡ sum_before place

  pub places-start : (d : List ℕ) → PlacesSoFar d 0 d 0
  unfolding sum_before sum_of
  places-start d = record { placed = placed-start book S d; summed = refl }

  pub sum-next : (place : ℕ) → place < length S → (sum : ℕ) → sum ≡ sum_before place
      → (more : ℕ) → more ≡ questions_at book (context_at book.half S place) → sum + more ≡ sum_before (place + 1)
  unfolding sum_before sum_of
  sum-next place inside sum e more own =
      let listed : place < length places = rw (places-length book S) inside in
      rw (add-one place, take-suc places place [] listed)
      (omega (arith, e, own, sum-append asked (take place places) (context_at book.half S place ∷ [])))

  pub sum-end : (place : ℕ) → place ≤ length S → length S ≤ place → sum_before place ≡ question_sum book S
  unfolding sum_before question_sum
  sum-end place h k =
      ap (sum_of asked) (take_all place places (omega (arith, places-length book S)))

  taken-length : (place : ℕ) → place ≤ length S → length (take place places) ≡ place
  taken-length place h = length-take-le place places (omega (arith, places-length book S))

-- it fits
pub sum-few : (header : Header) (nodes classes roots : List ℕ) → Fit header nodes classes roots → (S : List ℕ)
    (place : ℕ) → place ≤ length S → sum_before (book_with header nodes classes roots) S place ≤ 12288 * place
unfolding sum_before
sum-few header nodes classes roots fit S place h =
    let book : Book = book_with header nodes classes roots in
    omega (
      arith,
      places-few header nodes classes roots fit (take place (contexts book.half S)),
      taken-length book S place h,
    )
