-- Laws about the arcs that a turn adds first: a metastate's own, and the arc to FINAL where it may end; and
-- that they are at most three.
use Rattle.std.specs.Prelude.{◌≡◌, refl, false, ℕ, ◌≤◌, ◌<◌, length, drop}
use Rattle.std.proofs.Common.{sym, ◌∙◌, arith, length-append, length-drop, eq-eqb, ne_eqb}
use Rattle.std.proofs.Math.Path.{subst}
use mathlib.Core.List.{List, [], ◌∷◌, ◌++◌, append-nil}
use Rattle.std.proofs.Math.Bool.{Bool, true, and-false}
use Rattle.std.proofs.Math.Dec.{eqb}
use Rattle.definitions.specs.declared.Header.{Header}
use Rattle.definitions.specs.Arcs.{Arc, arc, first_state, last_state}
use Rattle.definitions.specs.Matrices.{ends_here}
use Rattle.definitions.specs.Metastates.{Metastate, combination_of, phone_of, models_of, may_end}
use Rattle.definitions.specs.Connecting.{final_arcs}
use Rattle.definitions.proofs.Laws.Lists.Tests.{by-test}
use Rattle.definitions.proofs.Laws.Books.AcceptedKnown.{header-ranges}
use Rattle.tables.specs.Usable.{book_with}
use Rattle.index.specs.Combinations.{combinations_in, nodes_book, Usable, rules_in}
use Rattle.index.specs.RecordWords.{phone_word}
use Rattle.index.specs.Laws.RecordWords.{phone-word, models_length}
use Rattle.metastates.specs.Underway.{Placed}
use Rattle.turns.specs.declared.Arcs.{Arcs}
use Rattle.turns.specs.Arcs.{AreArcs, own_of, plain_of}
use Rattle.turns.specs.Laws.OwnArcs.{own-length}

module _ {header : Header} {nodes combinations : List ℕ} {place : ℕ} (x : Metastate)
    (p : Placed header nodes combinations x.number place)
  where
    usable : Usable header combinations
    usable = p.connectable.usable

    abbrev Plain : Arcs → Type 0
    Plain new = AreArcs new (plain_of header nodes combinations place x)

    -- a metastate's own arcs are those of its number
    abbrev Own : Arcs → Type 0
    Own new =
        AreArcs new (own_of header nodes combinations place (record { number = x.number; carried = [] }))

    phone_is : {phone : ℕ} → phone ≡ phone_word header.half combinations x.number
        → phone ≡ phone_of (combinations_in header combinations) x
    unfolding phone_of combination_of
    phone_is e = e ∙ phone-word header combinations usable x.number p.listed

    no-final : {new : Arcs} → may_end (nodes_book header nodes) (combinations_in header combinations) x ≡ false
        → Own new → Plain new
    unfolding final_arcs models_of combination_of
    no-final {new} e own = subst (AreArcs new) (rw (e, append-nil)) own

    -- another phone than silence
    pub plain_other : {phone : ℕ} {new : Arcs} → phone ≡ phone_word header.half combinations x.number
        → (phone ≡ 1 → ⊥) → Own new → Plain new
    unfolding may_end
    plain_other e n own = no-final (rw (ne_eqb _ 1 (λ k. n (phone_is e ∙ k)))) own

    -- silence that may not stand to the right
    pub plain-inside : {answer : Bool} {new : Arcs} → answer ≡ ends_here header.half x.carried
        → answer ≡ false → Own new → Plain new
    unfolding may_end book_with
    plain-inside e n own =
        let silent : Bool = eqb (phone_of (combinations_in header combinations) x) 1 in
        no-final (rw (sym e ∙ n) (and-false silent)) own

    -- the arc to FINAL
    pub plain-final : {phone last : ℕ} {answer : Bool} {new more : Arcs}
        → phone ≡ phone_word header.half combinations x.number → phone ≡ 1
        → answer ≡ ends_here header.half x.carried → answer ≡ true
        → last ≡ last_state header.states place → Own new
        → ((arcs : List Arc) → AreArcs new arcs → AreArcs more (arcs ++ (arc last 1 0 0 ∷ []))) → Plain more
    unfolding may_end book_with final_arcs models_of combination_of
    plain-final {more = more} e one a n s own grows =
        let ends : may_end (nodes_book header nodes) (combinations_in header combinations) x ≡ true =
        rw (eq-eqb _ 1 (sym (phone_is e) ∙ one), sym a ∙ n) in
        subst (λ (k : List Arc). AreArcs more (own_of header nodes combinations place x ++ k))
        (rw (ends, s)) (grows _ own)

    -- ---- there are few

    own-few : (y : Metastate) → y.number ≡ x.number
        → length (own_of header nodes combinations place y) < 3
    own-few y e =
        let models : List ℕ = models_of (nodes_book header nodes) (combinations_in header combinations) y in
        let states =
        models_length header combinations usable x.number p.listed nodes
        p.connectable.modelled y e in
        omega (
          arith,
          own-length (first_state header.states place) (drop 1 models),
          length-drop 1 models,
          states,
          (header-ranges header usable.header-known).states_range.high,
        )

    pub own-count-few : {new : Arcs} → Own new → new.count < 3
    own-count-few own =
        omega (arith, own.counted, own-few (record { number = x.number; carried = [] }) refl)

    abbrev final : List Arc
    final = final_arcs (rules_in header nodes combinations) place x

    final-few : length final ≤ 1
    unfolding final_arcs
    final-few =
        by-test (may_end (nodes_book header nodes) (combinations_in header combinations) x)
        (λ e. rw e (omega arith)) (λ e. rw e (omega arith))

    pub plain-count-few : {new : Arcs} → Plain new → new.count ≤ 3
    plain-count-few plain =
        omega (
          arith,
          plain.counted,
          own-few x refl,
          final-few,
          length-append (own_of header nodes combinations place x) final,
        )
