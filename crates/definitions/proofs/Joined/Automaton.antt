-- The word automaton: phones lead from mark to mark, a word standing on its first phone. What the steps from a mark
-- are, and when words can be spoken. That the automaton spells words is shown in Spelling.antt and Speaking.antt.
use Rattle.std.specs.Prelude.{◌≡◌, ◌⊎◌, Bool, false, not, T, length}
use Rattle.std.proofs.Math.Path.{refl}
use Rattle.std.proofs.Common.{ap, ◌∙◌, subst, ne_eqb}
use Rattle.std.proofs.Math.Logic.{inl, inr, ⊎_elim}
use mathlib.Core.List.{List, [], ◌∷◌, ◌++◌}
use Prim.Native.Nat.{ℕ, ◌+◌, ◌<◌}
use native.Mathlib.Omega.{arith}
use Rattle.std.proofs.Math.Dec.{eqb, eqb→eq, eqb_refl}
use Rattle.definitions.specs.Lists.{if◌then◌else◌, ◌!◌, every, concat_map, up_from, IsIn}
use Rattle.definitions.specs.Joining.{Mark, ◌⊚◌, Step, step, phones_in, is_word, spoken_to, opening, between}
use Rattle.definitions.specs.Joining.{within, outside, steps}
use Rattle.definitions.proofs.Laws.Lists.Tests.{by-test, between as ranged}
use Rattle.definitions.proofs.Laws.Lists.Members.{of-append, of_one, of-concat_map, of-up_from, in_right}
use Rattle.definitions.proofs.Laws.Lists.Members.{in-concat_map, in-up_from, in_kept}

-- a word, where one stands on the arc, before the others
abbrev pub labelled : (label : ℕ) → List ℕ → List ℕ
labelled label W = if eqb label 0 then W else label ∷ W

abbrev pub positive : ℕ → Bool
positive n = not (eqb n 0)

pub not-zero : (n : ℕ) → T (positive n) → eqb n 0 ≡ false
not-zero n h = by-test (eqb n 0) (λ e. absurd (subst T (ap not e) h)) (λ e. e)

module _ (words : List (List ℕ)) where
  -- each word has a phone, and no phone of it is 0
  pub record Speakable : Type 0 where
    pub some_phone : (w : ℕ) → T (is_word words w) → 0 < length (phones_in words w)
    pub sounds : (w m : ℕ) → T (is_word words w) → m < length (phones_in words w) → T (positive (phones_in words w ! m))

  -- the phones S lead from a mark to a mark, with the words W on them
  abbrev pub Speaks : Mark → (S W : List ℕ) → Mark → Type 0
  Speaks p [] W q = (p ≡ q) × (W ≡ [])
  Speaks p (f ∷ S) W q =
      (s : Step) × IsIn s (steps words p f) × ((U : List ℕ) × (W ≡ labelled s.label U) × Speaks s.next S U q)

  -- what is spoken after the first silence
  abbrev pub rest : List ℕ → List ℕ
  rest W = concat_map (phones_in words) W ++ (1 ∷ [])

  abbrev pub Words : List ℕ → Type 0
  Words W = T (every (is_word words) W)

  -- ---- words

  pub word_range : (w : ℕ) → T (is_word words w) → (0 < w) × (w < 1 + length words)
  unfolding is_word
  word_range w h = let (low, high) = (ranged 1 w (length words)).0 h in (omega arith, omega arith)

  word-positive : (w : ℕ) → T (is_word words w) → T (positive w)
  word-positive w h =
      let (low, high) = word_range w h in
      let other : eqb w 0 ≡ false = ne_eqb w 0 (λ e. omega arith) in
      rw other tt

  pub word-labelled : (w : ℕ) (U : List ℕ) → T (is_word words w) → labelled w U ≡ w ∷ U
  word-labelled w U h = rw (not-zero w (word-positive w h))

  -- ---- the steps from a mark

  pub closed-steps : (f : ℕ) → T (positive f) → steps words (0 ⊚ 2) f ≡ []
  unfolding steps outside
  closed-steps f h = rw (not-zero f h)

  pub between-steps : (f : ℕ) → T (positive f) → steps words (0 ⊚ 1) f ≡ between words f
  unfolding steps outside
  between-steps f h = rw (not-zero f h)

  pub within-steps : (w m f : ℕ) → T (is_word words w) → T (positive f) → steps words (w ⊚ m) f ≡ within words w m f
  unfolding steps
  within-steps w m f h k = rw (not-zero f k, not-zero w (word-positive w h))

  -- closing silence, or a word's first phone
  pub of-between : (f : ℕ) (s : Step) → IsIn s (between words f)
      → ((f ≡ 1) × (s ≡ step 0 (0 ⊚ 2)))
      ⊎ ((w : ℕ) × T (is_word words w) × (phones_in words w ! 0 ≡ f) × (s ≡ step w (spoken_to words w 1)))
  unfolding between opening is_word
  of-between f s i =
      let silence : List Step = if eqb f 1 then step 0 (0 ⊚ 2) ∷ [] else [] in
      ⊎_elim
      (λ j. let (t, e) = of_one (step 0 (0 ⊚ 2)) (eqb f 1) s j in inl (eqb→eq f 1 t, e))
      (λ j.
      let (w, k, l) = of-concat_map (opening words f) s (up_from 1 (length words)) j in
      let (low, high) = of-up_from 1 (length words) w k in
      let (t, e) = of_one (step w (spoken_to words w 1)) (eqb (phones_in words w ! 0) f) s l in
      inr (w, (ranged 1 w (length words)).1 (low, omega arith), eqb→eq _ f t, e))
      (of-append s silence (concat_map (opening words f) (up_from 1 (length words))) i)

  -- a word's first phone opens it
  pub opens : (w : ℕ) → T (is_word words w)
      → IsIn (step w (spoken_to words w 1)) (between words (phones_in words w ! 0))
  unfolding between opening
  opens w is =
      let f : ℕ = phones_in words w ! 0 in
      let s : Step = step w (spoken_to words w 1) in
      let (low, high) = word_range w is in
      let opened : IsIn s (opening words f w) = in_kept s [] (eqb f f) s (eqb_refl f) refl in
      in_right s (if eqb f 1 then step 0 (0 ⊚ 2) ∷ [] else []) _
      (in-concat_map (opening words f) w s (up_from 1 (length words))
      (in-up_from 1 (length words) w low high) opened)

  -- a step that is told otherwise leads on from there, with the same words
  pub told-next : (S W U : List ℕ) (s t : Step) (q : Mark) → s ≡ t → W ≡ labelled s.label U
      → Speaks s.next S U q → (W ≡ labelled t.label U) × Speaks t.next S U q
  told-next S W U s t q e f on =
      (f ∙ ap (λ (z : Step). labelled z.label U) e, subst (λ z. Speaks z.next S U q) e on)
