-- Silence, the phones of words W in order, and silence lead from 0, 0 to 0, 2 with W on them. By the words, and within
-- a word by the phones that are left of it.
use Rattle.std.specs.Prelude.{◌≡◌, T}
use Rattle.std.proofs.Math.Path.{refl, sym, ap, subst}
use Rattle.std.proofs.Common.{◌∙◌}
use Rattle.std.proofs.Math.Logic.{inl}
use mathlib.Core.List.{List, [], ◌∷◌, ◌++◌, append_assoc}
use Rattle.std.proofs.Math.Bool.{false}
use Prim.Native.Nat.{ℕ, zero, suc, ◌+◌, ◌-◌, ◌<◌}
use native.Mathlib.Omega.{arith}
use Rattle.std.proofs.Math.Dec.{eqb, eqb_refl}
use Rattle.std.proofs.Math.ListN.{length, drop, drop_of_length-le}
use Rattle.std.proofs.Math.Seq.{drop-cons}
use borrow.Author.Tests.{eq-eqb, ne_eqb}
use Rattle.definitions.specs.Lists.{◌!◌, concat_map, IsIn}
use Rattle.definitions.specs.Joining.{◌⊚◌, Step, step, phones_in, is_word, spoken, spoken_to, between, within}
use Rattle.definitions.specs.Joining.{outside, steps}
use Rattle.definitions.proofs.Laws.Lists.Lists.{every-cons}
use Rattle.definitions.proofs.Laws.Lists.Members.{in_kept}
use Rattle.definitions.proofs.Joined.Automaton.{Speakable, Speaks, rest, Words, word-labelled, between-steps}
use Rattle.definitions.proofs.Joined.Automaton.{within-steps, opens}

module _ (words : List (List ℕ)) (good : Speakable words) where
  -- after the last phone of a word
  last-along : (w : ℕ) (U : List ℕ) → Speaks words (0 ⊚ 1) (rest words U) U (0 ⊚ 2) → (m : ℕ)
      → suc m ≡ length (phones_in words w)
      → Speaks words (spoken_to words w (suc m)) (drop (suc m) (phones_in words w) ++ rest words U) U (0 ⊚ 2)
  unfolding spoken_to
  last-along w U on m e =
      let none : drop (suc m) (phones_in words w) ≡ [] =
      drop_of_length-le (phones_in words w) {i = suc m} (omega arith) in
      rw (none, eq-eqb (suc m) (length (phones_in words w)) e) on

  -- the phones of a word that are left, one after the other
  along : (w : ℕ) (U : List ℕ) → T (is_word words w) → Speaks words (0 ⊚ 1) (rest words U) U (0 ⊚ 2) → (n m : ℕ)
      → suc m + n ≡ length (phones_in words w)
      → Speaks words (spoken_to words w (suc m)) (drop (suc m) (phones_in words w) ++ rest words U) U (0 ⊚ 2)
  unfolding spoken_to within
  along w U is on zero m e = last-along w U on m (omega arith)
  along w U is on (suc n) m e =
      let inside : suc m < length (phones_in words w) = omega arith in
      let other : eqb (suc m) (length (phones_in words w)) ≡ false =
      ne_eqb (suc m) (length (phones_in words w)) (λ same. omega arith) in
      let f : ℕ = phones_in words w ! suc m in
      let s : Step = step 0 (spoken_to words w (suc (suc m))) in
      let here : IsIn s (within words w (suc m) f) = in_kept s [] (eqb f f) s (eqb_refl f) refl in
      let there = subst (IsIn s) (sym (within-steps words w (suc m) f is (good.sounds w (suc m) is inside))) here in
      rw (other, drop-cons (phones_in words w) (suc m) 0 inside)
      (s, there, (U, refl, along w U is on n (suc m) (omega arith)))

  -- from 0, 1, between words
  speaks-rest : (W : List ℕ) → Words words W → Speaks words (0 ⊚ 1) (rest words W) W (0 ⊚ 2)
  unfolding concat_map between
  speaks-rest [] h =
      let s : Step = step 0 (0 ⊚ 2) in
      (s, subst (IsIn s) (sym (between-steps words 1 tt)) (inl refl), ([], refl, (refl, refl)))
  speaks-rest (w ∷ U) h =
      let (is, all) = (every-cons (is_word words) w U).0 h in
      let some = good.some_phone w is in
      let f : ℕ = phones_in words w ! 0 in
      let s : Step = step w (spoken_to words w 1) in
      let on = along w U is (speaks-rest U all) (length (phones_in words w) - 1) 0 (omega arith) in
      let parts : concat_map (phones_in words) (w ∷ U) ++ (1 ∷ []) ≡ f ∷ (drop 1 (phones_in words w) ++ rest words U) =
      append_assoc (phones_in words w) (concat_map (phones_in words) U) (1 ∷ [])
      ∙ ap (λ (l : List ℕ). l ++ rest words U) (drop-cons (phones_in words w) 0 0 some) in
      let there = subst (IsIn s) (sym (between-steps words f (good.sounds w 0 is some))) (opens words w is) in
      subst (λ (l : List ℕ). Speaks words (0 ⊚ 1) l (w ∷ U) (0 ⊚ 2)) (sym parts)
      (s, there, (U, sym (word-labelled words w U is), on))

  -- from 0, 0, where silence is first
  pub to_start : (W : List ℕ) → Words words W → Speaks words (0 ⊚ 0) (spoken words W) W (0 ⊚ 2)
  unfolding steps outside spoken
  to_start W h = (step 0 (0 ⊚ 1), inl refl, (W, refl, speaks-rest W h))
