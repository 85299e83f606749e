-- Laws about what a function gives to each of the numbers counted up: tables that lines fill word by word are such
-- lists.
use Rattle.std.specs.Prelude.{◌≡◌, refl, ◌≢◌, List, ◌∷◌, map, ℕ, zero, suc, ◌+◌, ◌<◌, length, set, replicate}
use Rattle.std.proofs.Common.{sym, ap₂, ◌∙◌, arith, length-set, ext_get_or, get_or-set_same, get_or-set_other}
use Rattle.std.proofs.Math.Decide.{ℕ_discrete}
use Rattle.definitions.specs.Lists.{◌!◌, up_from}
use Rattle.definitions.proofs.Laws.Lists.Lists.{map-up_from-length, map-up_from-at}

-- two functions that agree but at one number
pub up_from-set : (f g : ℕ → ℕ) (a count i : ℕ) → i < count → ((k : ℕ) → k ≢ a + i → f k ≡ g k)
    → set (map f (up_from a count)) i (g (a + i)) ≡ map g (up_from a count)
up_from-set f g a count i h agree =
    ext_get_or 0 (set before i (g (a + i))) (map g (up_from a count))
    (length-set before i (g (a + i)) ∙ size ∙ sym (map-up_from-length g a count))
    (λ j l. at j (omega (arith, length-set before i (g (a + i)), size)) (ℕ_discrete j i))
  where
    before : List ℕ
    before = map f (up_from a count)

    size : length before ≡ count
    size = map-up_from-length f a count

    at : (j : ℕ) → j < count → Dec (j ≡ i) → set before i (g (a + i)) ! j ≡ map g (up_from a count) ! j
    at j l (yes e) =
        rw (e, get_or-set_same before i (g (a + i)) 0 (omega (arith, size)), map-up_from-at g a count i _ h refl)
    at j l (no n) =
        rw (
          get_or-set_other before i j (g (a + i)) 0 n,
          map-up_from-at f a count j _ l refl,
          map-up_from-at g a count j _ l refl,
        )
        (agree (a + j) (λ e. n (omega arith)))

-- the same word everywhere
pub up_from-same : (f : ℕ → ℕ) (word a count : ℕ) → ((k : ℕ) → f k ≡ word)
    → map f (up_from a count) ≡ replicate count word
unfolding up_from
up_from-same f word a zero h = refl
up_from-same f word a (suc count) h =
    ap₂ (λ (x : ℕ) (l : List ℕ). x ∷ l) (h a) (up_from-same f word (suc a) count h)
