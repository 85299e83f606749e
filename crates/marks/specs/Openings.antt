-- Words by their first phone.
use Rattle.std.specs.Prelude.{if◌then◌else◌, ◌≡◌, List, ℕ, zero, suc, ◌+◌, ◌-◌, ◌≤◌, T, eqb, length}
use Rattle.definitions.specs.Lists.{◌!◌}
use Rattle.definitions.specs.Joining.{phones_in, is_word}

module _ (words : List (List ℕ)) where
  -- the first of so many words from one on that begins with a phone, 0 where none does
  unfoldable pub opening_among : (phone word left : ℕ) → ℕ
  opening_among phone word zero = 0
  opening_among phone word (suc left) =
      if eqb (phones_in words word ! 0) phone then word else opening_among phone (suc word) left

  -- the first from a word on
  abbrev pub opening_from : (phone word : ℕ) → ℕ
  opening_from phone word = opening_among phone word (suc (length words) - word)

  -- for each phone the first word that begins with it, and for each word the next one of the same phone
  pub record Opened (index : List ℕ) : Type 0 where
    pub sized : 64 + length words ≤ length index
    pub firsts : (phone : ℕ) → 1 ≤ phone → phone ≤ 64 → index ! (phone - 1) ≡ opening_from phone 1
    pub nexts : (word : ℕ) → T (is_word words word)
        → index ! (64 + word - 1) ≡ opening_from (phones_in words word ! 0) (suc word)
