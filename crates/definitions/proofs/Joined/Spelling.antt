-- The phones that lead from 0, 0 to 0, 2 with the words W on them are silence, the phones of W in order, and silence.
-- By the phones that are left, from a mark between words and from one within a word at once.
use Rattle.std.proofs.Math.Path.{◌≡◌, sym, ap, ap₂}
use Rattle.std.specs.Prelude.{refl, T, eqb}
use Rattle.std.proofs.Common.{◌∙◌, subst, ⊎_elim, arith, eqb→eq, drop-cons}
use mathlib.Core.List.{List, [], ◌∷◌, ◌++◌, append_assoc}
use Prim.Native.Nat.{ℕ, suc, ◌<◌}
use Rattle.std.proofs.Math.ListN.{length, drop, drop_of_length-le}
use borrow.Author.Tests.{eqb-true, eqb-false}
use Rattle.definitions.specs.Lists.{◌!◌, every, concat_map, IsIn}
use Rattle.definitions.specs.Joining.{Mark, ◌⊚◌, step, phones_in, is_word, spoken, spoken_to, within}
use Rattle.definitions.specs.Joining.{outside, steps}
use Rattle.definitions.proofs.Laws.Lists.Tests.{by-test}
use Rattle.definitions.proofs.Laws.Lists.Lists.{every-cons}
use Rattle.definitions.proofs.Laws.Lists.Members.{of_one}
use Rattle.definitions.proofs.Joined.Automaton.{labelled, positive, not-zero, Speakable, Speaks, rest, Words}
use Rattle.definitions.proofs.Joined.Automaton.{word_range, word-labelled, closed-steps, between-steps}
use Rattle.definitions.proofs.Joined.Automaton.{within-steps, of-between, told-next}

module _ (words : List (List ℕ)) where
  -- what is claimed of the phones that are left: from between words, and from within a word
  abbrev Spelled : List ℕ → Type 0
  Spelled S = (W : List ℕ) → T (every positive S)
      → (Speaks words (0 ⊚ 1) S W (0 ⊚ 2) → Words words W × (S ≡ rest words W))
      × ((w m : ℕ) → T (is_word words w) → m < length (phones_in words w) → Speaks words (w ⊚ m) S W (0 ⊚ 2)
      → Words words W × (S ≡ drop m (phones_in words w) ++ rest words W))

  closed-nothing : (S W : List ℕ) → T (every positive S) → Speaks words (0 ⊚ 2) S W (0 ⊚ 2) → (S ≡ []) × (W ≡ [])
  closed-nothing [] W h (e, f) = (refl, f)
  closed-nothing (f ∷ S) W h (s, i, more) =
      absurd (subst (IsIn s) (closed-steps words f ((every-cons positive f S).0 h).0) i)

  module _ (S : List ℕ) (later : Spelled S) where
    -- after a phone of a word
    after-phone : (w m : ℕ) (U : List ℕ) → T (every positive S) → T (is_word words w) → m < length (phones_in words w)
        → Speaks words (spoken_to words w (suc m)) S U (0 ⊚ 2)
        → Words words U × (S ≡ drop (suc m) (phones_in words w) ++ rest words U)
    unfolding spoken_to
    after-phone w m U h k l on =
        by-test (eqb (suc m) (length (phones_in words w)))
        (λ e.
        let last : suc m ≡ length (phones_in words w) = eqb-true (suc m) _ e in
        let none : drop (suc m) (phones_in words w) ≡ [] =
        drop_of_length-le (phones_in words w) {i = suc m} (omega arith) in
        let (all, same) = (later U h).0 (rw e at on) in
        (all, rw none same))
        (λ e.
        let other = eqb-false (suc m) (length (phones_in words w)) e in
        let inside : suc m < length (phones_in words w) = omega (arith, other) in
        (later U h).1 w (suc m) k inside (rw e at on))

    phone-before : (w m f : ℕ) (U : List ℕ) → phones_in words w ! m ≡ f → m < length (phones_in words w)
        → S ≡ drop (suc m) (phones_in words w) ++ rest words U → f ∷ S ≡ drop m (phones_in words w) ++ rest words U
    phone-before w m f U e l same =
        ap₂ ◌∷◌ (sym e) same ∙ ap (λ k. k ++ rest words U) (sym (drop-cons (phones_in words w) m 0 l))

    -- closing silence, which nothing follows
    silence-spelled : (f : ℕ) (W U : List ℕ) → T (every positive S) → f ≡ 1 → W ≡ U
        → Speaks words (0 ⊚ 2) S U (0 ⊚ 2) → Words words W × (f ∷ S ≡ rest words W)
    unfolding every concat_map
    silence-spelled f W U h one e on =
        let (none, nothing) = closed-nothing S U h on in
        let empty : W ≡ [] = e ∙ nothing in
        rw (empty, one, none) (tt, refl)

    -- a word's first phone
    opening-spelled : Speakable words → (f w : ℕ) (W U : List ℕ) → T (every positive S) → T (is_word words w)
        → phones_in words w ! 0 ≡ f → W ≡ labelled w U → Speaks words (spoken_to words w 1) S U (0 ⊚ 2)
        → Words words W × (f ∷ S ≡ rest words W)
    unfolding concat_map
    opening-spelled good f w W U h is first e on =
        let some = good.some_phone w is in
        let (all, more) = after-phone w 0 U h is some on in
        let whole : W ≡ w ∷ U = e ∙ word-labelled words w U is in
        rw whole (
          (every-cons (is_word words) w U).1 (is, all),
          phone-before w 0 f U first some more
              ∙ sym (append_assoc (phones_in words w) (concat_map (phones_in words) U) (1 ∷ [])),
        )

    between-spelled : Speakable words → (f : ℕ) (W : List ℕ) → T (positive f) → T (every positive S)
        → Speaks words (0 ⊚ 1) (f ∷ S) W (0 ⊚ 2) → Words words W × (f ∷ S ≡ rest words W)
    between-spelled good f W h k (s, i, (U, e, on)) =
        ⊎_elim
        (λ (one, same).
        let (whole, onward) = told-next words S W U s (step 0 (0 ⊚ 2)) (0 ⊚ 2) same e on in
        silence-spelled f W U k one whole onward)
        (λ (w, is, first, same).
        let (whole, onward) = told-next words S W U s (step w (spoken_to words w 1)) (0 ⊚ 2) same e on in
        opening-spelled good f w W U k is first whole onward)
        (of-between words f s (subst (IsIn s) (between-steps words f h) i))

    within-spelled : (w m f : ℕ) (W : List ℕ) → T (positive f) → T (every positive S) → T (is_word words w)
        → m < length (phones_in words w) → Speaks words (w ⊚ m) (f ∷ S) W (0 ⊚ 2)
        → Words words W × (f ∷ S ≡ drop m (phones_in words w) ++ rest words W)
    unfolding within
    within-spelled w m f W h k is l (s, i, (U, e, on)) =
        let (heard, same) =
        of_one (step 0 (spoken_to words w (suc m))) (eqb (phones_in words w ! m) f) s
        (subst (IsIn s) (within-steps words w m f is h) i) in
        let (whole, onward) = told-next words S W U s (step 0 (spoken_to words w (suc m))) (0 ⊚ 2) same e on in
        let (all, more) = after-phone w m U k is l onward in
        rw whole (all, phone-before w m f U (eqb→eq _ f heard) l more)

  module _ (good : Speakable words) where
    spelled : (S : List ℕ) → Spelled S
    spelled [] W h = (λ c. absurd (no-mark c.0), λ w m is l c. absurd (no_word w m is c.0))
      where
        no-mark : ◌≡◌ {A = Mark} (0 ⊚ 1) (0 ⊚ 2) → ⊥
        no-mark e = let z : ◌≡◌ {A = ℕ} 1 2 = ap (λ (p : Mark). p.mark) e in omega arith

        no_word : (w m : ℕ) → T (is_word words w) → ◌≡◌ {A = Mark} (w ⊚ m) (0 ⊚ 2) → ⊥
        no_word w m is e =
            let z : w ≡ 0 = ap (λ (p : Mark). p.word) e in
            omega (arith, word_range words w is)
    spelled (f ∷ S) W h =
        let (k, l) = (every-cons positive f S).0 h in (
          λ c. between-spelled S (spelled S) good f W k l c,
          λ w m is n c. within-spelled S (spelled S) w m f W k l is n c,
        )

    -- from 0, 0, where silence is first
    pub from_start : (S W : List ℕ) → T (every positive S) → Speaks words (0 ⊚ 0) S W (0 ⊚ 2)
        → Words words W × (S ≡ spoken words W)
    unfolding steps outside spoken
    from_start [] W h (e, f) = absurd (let z : ◌≡◌ {A = ℕ} 0 2 = ap (λ (p : Mark). p.mark) e in omega arith)
    from_start (f ∷ S) W h (s, i, (U, e, on)) =
        let (k, l) = (every-cons positive f S).0 h in
        let (t, same) = of_one (step 0 (0 ⊚ 1)) (eqb f 1) s (rw (not-zero f k) at i) in
        let (whole, onward) = told-next words S W U s (step 0 (0 ⊚ 1)) (0 ⊚ 2) same e on in
        let (all, more) = (spelled S U l).0 onward in
        rw whole (all, ap₂ ◌∷◌ (eqb→eq f 1 t) more)
