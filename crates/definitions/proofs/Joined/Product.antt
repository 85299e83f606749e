-- A network joined with the word automaton, as an abstract product: the paths of the joined arcs are the paths of the
-- network whose phones lead through the automaton, with the same models. Decoding takes a joined path apart, arc by
-- arc; encoding puts one together, and may enter every state since nothing leaves FINAL.
use Rattle.std.specs.Prelude.{◌≡◌, Bool, true, false, ℕ, T}
use Rattle.std.proofs.Math.Path.{refl, sym, ap, subst}
use Rattle.std.proofs.Common.{◌∙◌, inl}
use mathlib.Core.List.{List, [], ◌∷◌, map}
use Rattle.std.proofs.Math.Bool.{not}
use Rattle.std.proofs.Math.Dec.{T_not, eqb, eqb→eq}
use borrow.Author.Tests.{eqb-true}
use Rattle.definitions.specs.Lists.{select, IsIn}
use Rattle.definitions.specs.Arcs.{Arc, arc, INITIAL, FINAL}
use Rattle.definitions.specs.Paths.{without_zeros, final_last}
use Rattle.definitions.specs.Joining.{Mark, ◌⊚◌, Step, step, steps, Joined, Move, move_by}
use Rattle.definitions.specs.Joining.{may_enter, moves_along, moves}
use Rattle.definitions.proofs.Laws.Lists.Tests.{by-test, eq→eqb}
use Rattle.definitions.proofs.Laws.Lists.Members.{of-single, of_map, in_map, of-concat_map, in-concat_map, in-every}
use Rattle.definitions.proofs.Laws.Lists.Selected.{of-select, in-select}
use Rattle.definitions.proofs.Graph.ArcPaths.{Linked, models_on, phones_on, same_from}
use Rattle.definitions.proofs.Joined.States.{start, end, states-equal}
use Rattle.definitions.proofs.Joined.Automaton.{labelled, Speaks}

-- one number more, without it where it is 0
without-cons : (n : ℕ) (l : List ℕ) → without_zeros (n ∷ l) ≡ labelled n (without_zeros l)
unfolding without_zeros select
without-cons n l = by-test (eqb n 0) (λ e. rw e) (λ e. rw e)

silent-phone : (b : Arc) (k : List Arc) → eqb b.phone 0 ≡ true → phones_on (b ∷ k) ≡ phones_on k
silent-phone b k e = without-cons b.phone _ ∙ rw e

heard-phone : (b : Arc) (k : List Arc) → eqb b.phone 0 ≡ false → phones_on (b ∷ k) ≡ b.phone ∷ phones_on k
heard-phone b k e = without-cons b.phone _ ∙ rw e

-- an arc more on each, with the same model
more-models : (a b : Arc) (l k : List Arc) → a.model ≡ b.model → models_on l ≡ models_on k
    → models_on (a ∷ l) ≡ models_on (b ∷ k)
more-models a b l k e f =
    without-cons a.model _ ∙ ap (labelled a.model) f ∙ ap (λ (m : ℕ). labelled m (models_on k)) e
    ∙ sym (without-cons b.model _)

-- the joined arc of a move, between places
abbrev pub arc_by : (place : Joined → ℕ) → Joined → Move → Arc
arc_by place x v = arc (place x) (place v.target) v.model v.label

module _ (arcs : List Arc) (words : List (List ℕ)) where
  abbrev steps_along : Joined → Arc → List Step
  steps_along x b = steps words x.mark b.phone

  -- a move goes along an arc of the network and a step of the automaton
  of-moves : (x : Joined) (v : Move) → IsIn v (moves arcs words x)
      → (b : Arc) × IsIn b arcs × (b.from ≡ x.state) × ((s : Step) × IsIn s (steps_along x b) × (v ≡ move_by b s))
  unfolding moves moves_along
  of-moves x v h =
      let leaves : (Arc → Bool) = λ a. eqb a.from x.state in
      let (b, i, j) = of-concat_map (moves_along words x.mark) v (select leaves arcs) h in
      let (there, e) = of-select leaves b arcs i in
      let (k, may) = of-select (λ m. may_enter m.target) v (map (move_by b) (steps_along x b)) j in
      let (s, l, f) = of_map (move_by b) v (steps_along x b) k in
      (b, there, eqb→eq _ _ e, (s, l, f))

  in-moves : (x : Joined) (b : Arc) (s : Step) → IsIn b arcs → b.from ≡ x.state → IsIn s (steps_along x b)
      → T (may_enter (move_by b s).target) → IsIn (move_by b s) (moves arcs words x)
  unfolding moves moves_along
  in-moves x b s i e j may =
      let leaves : (Arc → Bool) = λ a. eqb a.from x.state in
      in-concat_map (moves_along words x.mark) b (move_by b s) (select leaves arcs)
      (in-select leaves b arcs i (eq→eqb _ _ e))
      (in-select (λ m. may_enter m.target) (move_by b s) _ (in_map (move_by b) s (steps_along x b) j) may)

  module _ (table : List Joined) (place : Joined → ℕ) (joins : List Arc) where
    -- the joined arcs are those of the moves from the states of the table, which has all that they lead to, and first
    -- the two that a path leads between
    pub record Laid : Type 0 where
      pub starts : IsIn start table × (place start ≡ INITIAL)
      pub ends : IsIn end table × (place end ≡ FINAL)
      pub apart : (x y : Joined) → IsIn x table → IsIn y table → place x ≡ place y → x ≡ y
      pub sound : (a : Arc) → IsIn a joins
          → (x : Joined) × IsIn x table × ((v : Move) × IsIn v (moves arcs words x) × (a ≡ arc_by place x v))
      pub closed : (x : Joined) (v : Move) → IsIn x table → IsIn v (moves arcs words x) → IsIn v.target table
      pub complete : (x : Joined) (v : Move) → IsIn x table → IsIn v (moves arcs words x) → IsIn (arc_by place x v) joins

    module _ (laid : Laid) where
      -- ---- decoding

      -- a path of the network with the models of the joined path, whose phones say its words
      abbrev Decoded : (x y : Joined) → List Arc → Type 0
      Decoded x y l = (k : List Arc) × Linked arcs x.state k y.state × (models_on k ≡ models_on l)
          × Speaks words x.mark (phones_on k) (phones_on l) y.mark

      -- an arc more, before what is decoded
      module _ (x : Joined) (b : Arc) (s : Step) (p q : ℕ) (j : IsIn s (steps_along x b)) where
        abbrev before : Arc
        before = arc p q b.model s.label

        more-spoken : (k l : List Arc) (end : Mark) → Speaks words s.next (phones_on k) (phones_on l) end
            → Speaks words x.mark (phones_on (b ∷ k)) (phones_on (before ∷ l)) end
        unfolding steps
        more-spoken k l end says =
            by-test (eqb b.phone 0)
            (λ f.
            let stays : s ≡ step 0 x.mark = of-single (step 0 x.mark) s (rw f at j) in
            let labels : phones_on (before ∷ l) ≡ phones_on l =
            without-cons s.label _ ∙ ap (λ (t : Step). labelled t.label (phones_on l)) stays in
            rw (silent-phone b k f, labels)
            (subst (λ (t : Step). Speaks words t.next (phones_on k) (phones_on l) end) stays says))
            (λ f. rw (heard-phone b k f) (s, j, (phones_on l, without-cons s.label _, says)))

        decode-cons : (y : Joined) (l : List Arc) → IsIn b arcs → b.from ≡ x.state
            → Decoded (move_by b s).target y l → Decoded x y (before ∷ l)
        decode-cons y l i e (k, linked, models, says) =
            (b ∷ k, (i, e, linked), more-models b before k l refl models, more-spoken k l y.mark says)

      pub decode : (x y : Joined) (l : List Arc) → IsIn x table → IsIn y table → Linked joins (place x) l (place y)
          → Decoded x y l
      unfolding without_zeros select
      decode x y [] h k e =
          let same : x ≡ y = laid.apart x y h k e in
          ([], ap (λ (z : Joined). z.state) same, refl, (ap (λ (z : Joined). z.mark) same, refl))
      decode x y (a ∷ l) h k (i, e, on) =
          let (z, there, (v, j, form)) = laid.sound a i in
          let same : z ≡ x = laid.apart z x there h (sym (same_from form) ∙ e) in
          let mine : IsIn v (moves arcs words x) = subst (λ w. IsIn v (moves arcs words w)) same j in
          let (b, m, f, (s, n, g)) = of-moves x v mine in
          let whole : a ≡ arc_by place z (move_by b s) = form ∙ ap (arc_by place z) g in
          let to : IsIn (move_by b s).target table =
          subst (λ w. IsIn w.target table) g (laid.closed x v h mine) in
          let further =
          decode (move_by b s).target y l to k (subst (λ (c : Arc). Linked joins c.to l (place y)) whole on) in
          subst (λ (c : Arc). Decoded x y (c ∷ l)) (sym whole)
          (decode-cons x b s (place z) (place (move_by b s).target) n y l m f further)

      -- ---- encoding

      -- nothing leaves FINAL, so it is entered at the end alone, with 0, 2
      module _ (last : T (final_last arcs)) where
        not-final : (a : Arc) → IsIn a arcs → a.from ≡ FINAL → ⊥
        unfolding final_last
        not-final a i e =
            T_not (eqb a.from FINAL) (in-every (λ a. not (eqb a.from FINAL)) arcs last a i) (eq→eqb _ FINAL e)

        -- a joined path to the end with the models of the network's, whose words are W
        abbrev Encoded : (x : Joined) → (k : List Arc) → (W : List ℕ) → Type 0
        Encoded x k W =
            (l : List Arc) × Linked joins (place x) l (place end) × (models_on l ≡ models_on k) × (phones_on l ≡ W)

        enters : (state : ℕ) (p : Mark) (k : List Arc) (U : List ℕ) → Linked arcs state k FINAL
            → Speaks words p (phones_on k) U (0 ⊚ 2) → T (may_enter (record { state = state; mark = p }))
        unfolding may_enter without_zeros select
        enters state p [] U linked (e, f) = rw (e, linked) tt
        enters state p (a ∷ k) U (i, e, linked) says =
            by-test (eqb state FINAL) (λ t. absurd (not-final a i (e ∙ eqb-true state FINAL t))) (λ t. rw t tt)

        abbrev EncodedAll : List Arc → Type 0
        EncodedAll k = (x : Joined) (W : List ℕ) → IsIn x table → Linked arcs x.state k FINAL
            → Speaks words x.mark (phones_on k) W (0 ⊚ 2) → Encoded x k W

        -- an arc more, by a step
        encode-cons : (b : Arc) (k : List Arc) → EncodedAll k → (x : Joined) (s : Step) (U : List ℕ) → IsIn x table
            → IsIn b arcs → b.from ≡ x.state → Linked arcs b.to k FINAL → IsIn s (steps_along x b)
            → Speaks words s.next (phones_on k) U (0 ⊚ 2) → Encoded x (b ∷ k) (labelled s.label U)
        encode-cons b k more x s U h i e linked j says =
            let move = in-moves x b s i e j (enters b.to s.next k U linked says) in
            let to = laid.closed x (move_by b s) h move in
            let (l, onward, models, labels) = more (move_by b s).target U to linked says in (
              arc_by place x (move_by b s) ∷ l,
              (laid.complete x (move_by b s) h move, refl, onward),
              more-models (arc_by place x (move_by b s)) b l k refl models,
              without-cons s.label _ ∙ ap (labelled s.label) labels,
            )

        encode-more : (b : Arc) (k : List Arc) → EncodedAll k → EncodedAll (b ∷ k)
        unfolding steps
        encode-more b k more x W h (i, e, linked) says =
            by-test (eqb b.phone 0)
            (λ f.
            let here : IsIn (step 0 x.mark) (steps_along x b) = rw f (inl refl) in
            encode-cons b k more x (step 0 x.mark) W h i e linked here (rw (silent-phone b k f) at says))
            (λ f.
            let (s, j, (U, same, on)) = subst (λ l. Speaks words x.mark l W (0 ⊚ 2)) (heard-phone b k f) says in
            subst (Encoded x (b ∷ k)) (sym same) (encode-cons b k more x s U h i e linked j on))

        pub encode : (k : List Arc) → EncodedAll k
        unfolding without_zeros select
        encode [] x W h linked (e, f) = ([], ap place (states-equal x end linked e), refl, sym f)
        encode (b ∷ k) x W h linked says = encode-more b k (encode k) x W h linked says
