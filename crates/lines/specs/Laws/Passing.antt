-- Laws about a loop that tests the elements of a list until one fails, or until one passes: one more, the one where it
-- stops, and the end. The proofs of all functions that test a list so use them.
use Rattle.std.specs.Prelude.{◌≡◌, refl, List, Bool, true, false, ℕ, ◌+◌, ◌≤◌, ◌<◌, length, get_or, drop}
use Rattle.std.proofs.Math.Path.{sym}
use Rattle.std.proofs.Common.{◌∙◌, add-one, arith, drop_of_length-le, drop-cons}
use Rattle.definitions.specs.Lists.{every, at_least_one}

-- the elements before place i pass, so the whole is left to the others
pub record Passed {A : Type 0} (test : A → Bool) (l : List A) (whole : Bool) (i : ℕ) : Type 0 where
  pub within : i ≤ length l
  pub rest : whole ≡ every test (drop i l)

pub passed_start : {A : Type 0} (test : A → Bool) (l : List A) → Passed test l (every test l) 0
passed_start test l = record { within = omega arith; rest = refl }

-- the next element, where `d` stands beyond the last
module _ {A : Type 0} (d : A) {test : A → Bool} {l : List A} {whole : Bool} {i : ℕ}
    (p : Passed test l whole i)
  where
    pub passed-more : i < length l → test (get_or l i d) ≡ true → Passed test l whole (i + 1)
    unfolding every
    passed-more h e = record { within = omega arith; rest = p.rest ∙ rw (drop-cons l i d h, e, add-one) }

    pub passed-stop : i < length l → test (get_or l i d) ≡ false → false ≡ whole
    unfolding every
    passed-stop h e = sym (p.rest ∙ rw (drop-cons l i d h, e))

pub passed-end : {A : Type 0} {test : A → Bool} {l : List A} {whole : Bool} {i : ℕ} → Passed test l whole i
    → length l ≤ i → true ≡ whole
unfolding every
passed-end {l = l} {i = i} p h = sym (p.rest ∙ rw (drop_of_length-le l {i = i} h))

-- ---- until one passes

-- the elements before place i do not pass, so the whole is left to the others
pub record Missed {A : Type 0} (test : A → Bool) (l : List A) (i : ℕ) : Type 0 where
  pub within : i ≤ length l
  pub rest : at_least_one test l ≡ at_least_one test (drop i l)

pub missed-start : {A : Type 0} (test : A → Bool) (l : List A) → Missed test l 0
missed-start test l = record { within = omega arith; rest = refl }

module _ {A : Type 0} (d : A) {test : A → Bool} {l : List A} {i : ℕ} (p : Missed test l i) where
  pub missed_more : i < length l → test (get_or l i d) ≡ false → Missed test l (i + 1)
  unfolding at_least_one
  missed_more h e = record { within = omega arith; rest = p.rest ∙ rw (drop-cons l i d h, e, add-one) }

  pub missed-found : i < length l → test (get_or l i d) ≡ true → true ≡ at_least_one test l
  unfolding at_least_one
  missed-found h e = sym (p.rest ∙ rw (drop-cons l i d h, e))

pub missed-end : {A : Type 0} {test : A → Bool} {l : List A} {i : ℕ} → Missed test l i
    → length l ≤ i → false ≡ at_least_one test l
unfolding at_least_one
missed-end {l = l} {i = i} p h = sym (p.rest ∙ rw (drop_of_length-le l {i = i} h))
