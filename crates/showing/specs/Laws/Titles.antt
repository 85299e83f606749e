-- Laws about finding a byte, and about cutting a text out below its title.
use Rattle.std.specs.Prelude.{◌≡◌, List, [], ℕ, Option, MatchOption, unwrap_or, ◌+◌, ◌-◌, ◌≤◌, ◌<◌, take, drop}
use Rattle.std.specs.List.{AllWithin, HoldsAt}
use Rattle.std.proofs.lemmas.Iterator.{index_from_first}
use borrow.Author.Tests.{eq-eqb, ne_eqb}
use Rattle.std.proofs.Math.Path.{sym, refl}
use Rattle.std.proofs.Common.{◌∙◌, add-one, drop_of_length-le, length-take, length-drop, take_all}
use native.Mathlib.Omega.{arith}
use Rattle.std.proofs.Math.ListN.{length}
use Rattle.definitions.proofs.Laws.Lists.Lists.{drop-take}
use Rattle.showing.specs.Titles.{place_of, title_of, end_of, text_of}

-- ---- finding a byte

-- its place, as the library's `position` says it
pub place-first : (byte : ℕ) (text : List ℕ) (r : Option ℕ)
    → MatchOption r (AllWithin (λ y. y ≡ byte → ⊥) text 0 (length text))
    (λ i. (i < length text) × HoldsAt (λ y. y ≡ byte) text i × AllWithin (λ y. y ≡ byte → ⊥) text 0 i)
    → place_of byte text ≡ unwrap_or r (length text)
unfolding place_of
place-first byte =
    index_from_first (λ l. place_of byte l) (λ y. y ≡ byte) (λ y. y ≡ byte → ⊥) refl
    (λ x xs e. rw (eq-eqb x byte e)) (λ x xs n. rw (ne_eqb x byte n, add-one))

-- ---- cutting out a title and what stands below it

module _ (text : List ℕ) (line : ℕ) (e : line ≡ place_of 10 text) where
  pub title-cut : take line text ≡ title_of text
  unfolding title_of
  title-cut = rw e

  -- below it are all the bytes from there on
  rest_below : take (length text - line) (drop line text) ≡ drop line text
  rest_below = take_all (length text - line) (drop line text) (rw (length-drop line text) (omega arith))

  pub end-found : (below : ℕ) → below ≡ place_of 61 (take (length text - line) (drop line text))
      → line + below ≡ end_of text
  unfolding end_of
  end-found below f = rw (f, rest_below, e)

  module _ (end : ℕ) (f : end ≡ end_of text) where
    pub text-cut : line < end → take (end - (line + 1)) (drop (line + 1) text) ≡ text_of text
    unfolding text_of
    text-cut h =
        let whole : line + 1 + (end - (line + 1)) ≡ end = omega arith in
        sym (drop-take (line + 1) (end - (line + 1)) text) ∙ rw (whole, f, e)

    pub text-none : end ≤ line → [] ≡ text_of text
    unfolding text_of
    text-none h =
        let short : length (take end text) ≤ line + 1 = rw (length-take end text) (omega arith) in
        sym (drop_of_length-le (take end text) {i = line + 1} short) ∙ rw (f, e)
