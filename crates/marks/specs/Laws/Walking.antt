-- Laws about words that begin with a phone, walked in order: from one on there is none, or a first and those after it.
use Rattle.std.specs.Prelude.{if◌then◌else◌, ◌≡◌, Bool, length}
use Rattle.std.proofs.Math.Path.{refl, ap, subst}
use Rattle.std.proofs.Common.{sym, ◌∙◌}
use mathlib.Core.List.{List, [], ◌∷◌, ◌++◌}
use Rattle.std.proofs.Math.Bool.{true, false}
use Prim.Native.Nat.{ℕ, zero, suc, ◌+◌, ◌-◌, ◌≤◌, ◌<◌}
use native.Mathlib.Omega.{arith}
use Rattle.std.proofs.Math.Dec.{eqb}
use borrow.Author.Tests.{eqb-true}
use Rattle.definitions.specs.Lists.{◌!◌, concat_map, up_from}
use Rattle.definitions.specs.Joining.{Step, step, phones_in, spoken_to, opening}
use Rattle.marks.specs.Openings.{opening_among, opening_from}

module _ (words : List (List ℕ)) (phone : ℕ) where
  -- the steps of so many words from one on
  abbrev openings : (word left : ℕ) → List Step
  openings word left = concat_map (opening words phone) (up_from word left)

  none-among : (word left : ℕ) → 1 ≤ word → opening_among words phone word left ≡ 0 → openings word left ≡ []
  unfolding opening_among concat_map up_from opening
  none-among word zero some e = refl
  none-among word (suc left) some e =
      go (eqb (phones_in words word ! 0) phone) (λ k. none-among (suc word) left (omega arith) k) e
    where
      go : (b : Bool) → (opening_among words phone (suc word) left ≡ 0 → openings (suc word) left ≡ [])
          → (if b then word else opening_among words phone (suc word) left) ≡ 0
          → (if b then step word (spoken_to words word 1) ∷ [] else []) ++ openings (suc word) left ≡ []
      go true later k = absurd (omega (arith, some, k))
      go false later k = later k

  -- a first word with the phone, before an end, its step, and those of the words after it
  abbrev FirstThen : (word end first : ℕ) → List Step → Type 0
  FirstThen word end first steps =
      (word ≤ first) × (first < end) × (phones_in words first ! 0 ≡ phone)
      × (steps ≡ step first (spoken_to words first 1) ∷ openings (suc first) (end - suc first))

  first-among : (word left end first : ℕ) → end ≡ word + left → opening_among words phone word left ≡ first
      → (first ≡ 0 → ⊥) → FirstThen word end first (openings word left)
  unfolding opening_among concat_map up_from opening
  first-among word zero end first is e some = absurd (some (sym e))
  first-among word (suc left) end first is e some =
      go (eqb (phones_in words word ! 0) phone) refl
      (λ k. first-among (suc word) left end first (omega arith) k some) e
    where
      go : (b : Bool) → eqb (phones_in words word ! 0) phone ≡ b
          → (opening_among words phone (suc word) left ≡ first
          → FirstThen (suc word) end first (openings (suc word) left))
          → (if b then word else opening_among words phone (suc word) left) ≡ first
          → FirstThen word end first
          ((if b then step word (spoken_to words word 1) ∷ [] else []) ++ openings (suc word) left)
      go true t later k =
          let rest : left ≡ end - suc word = omega (arith, is) in
          subst (λ (v : ℕ). FirstThen word end v (step word (spoken_to words word 1) ∷ openings (suc word) left)) k (
            omega arith,
            omega (arith, is),
            eqb-true (phones_in words word ! 0) phone t,
            ap (λ (n : ℕ). step word (spoken_to words word 1) ∷ openings (suc word) n) rest,
          )
      go false t later k =
          let (from, before, begins, those) = later k in (omega (arith, from), before, begins, those)

  -- ---- from a word on

  pub opening-end : (word : ℕ) → 1 ≤ word → opening_from words phone word ≡ 0
      → concat_map (opening words phone) (up_from word (suc (length words) - word)) ≡ []
  opening-end word some e = none-among word (suc (length words) - word) some e

  pub opening-next : (word first : ℕ) → opening_from words phone word ≡ first → (first ≡ 0 → ⊥)
      → (word ≤ first) × (first ≤ length words) × (phones_in words first ! 0 ≡ phone)
      × (concat_map (opening words phone) (up_from word (suc (length words) - word))
      ≡ step first (spoken_to words first 1)
      ∷ concat_map (opening words phone) (up_from (suc first) (suc (length words) - suc first)))
  opening-next word first e some =
      let left : ℕ = suc (length words) - word in
      let (from, before, begins, those) = first-among word left (word + left) first refl e some in
      let rest : word + left - suc first ≡ suc (length words) - suc first = omega (arith, from, before) in (
        from,
        omega (arith, from, before),
        begins,
        those ∙ ap (λ (n : ℕ). step first (spoken_to words first 1) ∷ openings (suc first) n) rest,
      )
