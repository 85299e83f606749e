-- Laws about the words of joined states: three words at a place, one by one; they tell the state; and whether they are
-- those of a state.
use Rattle.std.specs.Prelude.{◌≡◌, refl, List, [], ◌∷◌, Bool, ◌&&◌, eqb, ℕ, suc, ◌+◌, ◌*◌, ◌≤◌, length, take, drop}
use Rattle.std.proofs.Math.Path.{sym}
use Rattle.std.proofs.Common.{ap, ◌∙◌, add-one, arith, drop-cons}
use Rattle.std.proofs.Math.Bool.{and-true}
use Rattle.definitions.specs.Lists.{◌!◌, same}
use Rattle.definitions.specs.Joining.{Joined, joined_size, joined_words, joining}
use Rattle.definitions.proofs.Joined.States.{joined-told}
use Rattle.definitions.proofs.Laws.Lists.Tests.{Tells}
use Rattle.growing.specs.Chains.{Coded}
use Rattle.joined.specs.States.{joined_in, row_at, joined_code, entering}

-- ---- words at a place

module _ (states : List ℕ) (place : ℕ) (h : joined_size * place + joined_size ≤ length states) where
  abbrev at₀ : ℕ
  at₀ = joined_size * place

  pub row_words : row_at states place
      ≡ states ! (joined_size * place) ∷ states ! (joined_size * place + 1) ∷ states ! (joined_size * place + 2) ∷ []
  row_words =
      let second : drop (suc at₀) states ≡ states ! (at₀ + 1) ∷ drop (suc (suc at₀)) states =
      rw (add-one at₀) (drop-cons states (suc at₀) 0 (omega arith)) in
      let next : suc (suc at₀) ≡ at₀ + 2 = omega arith in
      let third : drop (suc (suc at₀)) states ≡ states ! (at₀ + 2) ∷ drop (suc (suc (suc at₀))) states =
      drop-cons states (suc (suc at₀)) 0 (omega arith)
      ∙ ap (λ (i : ℕ). states ! i ∷ drop (suc (suc (suc at₀))) states) next in
      ap (take joined_size) (drop-cons states at₀ 0 (omega arith))
      ∙ ap (λ (l : List ℕ). states ! at₀ ∷ take 2 l) second
      ∙ ap (λ (l : List ℕ). states ! at₀ ∷ states ! (at₀ + 1) ∷ take 1 l) third

  -- a state is the one that stands there where the words are its words
  pub row-same : (y x : Joined) → y ≡ joined_in (row_at states place)
      → (eqb y.state x.state && (eqb y.mark.word x.mark.word && eqb y.mark.mark x.mark.mark))
      ≡ same (row_at states place) (joined_words x)
  unfolding same joined_words joined_in
  row-same y x e =
      rw (e, row_words)
      (ap (λ (b : Bool). eqb (states ! at₀) x.state && (eqb (states ! (at₀ + 1)) x.mark.word && b))
      (sym (and-true (eqb (states ! (at₀ + 2)) x.mark.mark))))

-- ---- their states

pub joined-coded : (x : Joined) → Coded joined_code x
unfolding joined_words joined_in
joined-coded x = record { sized = refl; back = refl }

pub entering-told : Tells entering.same
unfolding joining
entering-told = joined-told
