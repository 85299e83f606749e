-- Laws about the index of words by their first phone, filled from the last word down: what it has where the words after
-- one are in it, and one word more.
use Rattle.std.specs.Prelude.{if◌then◌else◌, ◌≡◌, refl, List, eqb, length, set}
use Rattle.std.proofs.Common.{sym, ◌∙◌, subst, length-set, get_or-set_same, get_or-set_other, eqb-true, eq-eqb, ne_eqb}
use Rattle.std.proofs.Math.Path.{ap}
use Prim.Native.Nat.{ℕ, suc, ◌+◌, ◌-◌, ◌≤◌, ◌<◌}
use native.Mathlib.Omega.{arith}
use Rattle.std.proofs.lemmas.List.{get_or-replicate}
use Rattle.std.proofs.lemmas.Bool.{eqb-false}
use Rattle.definitions.specs.Lists.{◌!◌, cleared}
use Rattle.definitions.specs.Joining.{phones_in, is_word}
use Rattle.definitions.proofs.Laws.Lists.Tests.{by-test, between}
use Rattle.marks.specs.Openings.{opening_among, opening_from, Opened}

-- ---- the first word that begins with a phone

module _ (words : List (List ℕ)) (phone word : ℕ) where
  opening_past : length words < word → opening_from words phone word ≡ 0
  unfolding opening_among
  opening_past h = ap (opening_among words phone word) {x = suc (length words) - word} {y = 0} (omega arith)

  -- from a word on
  opening-more : word ≤ length words
      → opening_from words phone word
      ≡ (if eqb (phones_in words word ! 0) phone then word else opening_from words phone (suc word))
  unfolding opening_among
  opening-more h =
      let left : suc (length words) - word ≡ suc (suc (length words) - suc word) = omega arith in
      ap (opening_among words phone word) left

  opening-here : word ≤ length words → phones_in words word ! 0 ≡ phone → opening_from words phone word ≡ word
  opening-here h e = opening-more h ∙ rw (eq-eqb (phones_in words word ! 0) phone e)

  opening-later : word ≤ length words → (phones_in words word ! 0 ≡ phone → ⊥)
      → opening_from words phone word ≡ opening_from words phone (suc word)
  opening-later h e = opening-more h ∙ rw (ne_eqb (phones_in words word ! 0) phone e)

-- ---- the index where the words after one are in it

pub record OpenedAfter (words : List (List ℕ)) (size word : ℕ) (index : List ℕ) : Type 0 where
  pub sized : length index ≡ size
  pub within : word ≤ length words
  pub firsts : (phone : ℕ) → 1 ≤ phone → phone ≤ 64 → index ! (phone - 1) ≡ opening_from words phone (suc word)
  pub nexts : (next : ℕ) → word < next → next ≤ length words
      → index ! (64 + next - 1) ≡ opening_from words (phones_in words next ! 0) (suc next)

-- none is
pub opened-none : (words : List (List ℕ)) (word : ℕ) (index : List ℕ) → word ≡ length words
    → index ≡ cleared (length index) → 64 ≤ length index → OpenedAfter words (length index) word index
opened-none words word index e clear room = record {
  sized = refl;
  within = omega (arith, e);
  firsts = λ phone low high.
      ap (λ (l : List ℕ). l ! (phone - 1)) clear
      ∙ get_or-replicate {A = ℕ} (length index) (phone - 1) 0 0 (omega (arith, room, low, high))
      ∙ sym (opening_past words phone (suc word) (omega (arith, e)));
  nexts = λ next after high. absurd (omega (arith, e, after, high));
}

-- one word more
module _ {words : List (List ℕ)} {size word : ℕ} {index : List ℕ} (opened : OpenedAfter words size word index)
    (some : 1 ≤ word) (room : 64 + length words ≤ size) {phone : ℕ} (own : phone ≡ phones_in words word ! 0)
    (low : 1 ≤ phone) (high : phone ≤ 64) where
  abbrev linked : List ℕ
  linked = set index (64 + word - 1) (index ! (phone - 1))

  abbrev filled : List ℕ
  filled = set linked (phone - 1) word

  linked-size : length linked ≡ size
  linked-size = length-set index (64 + word - 1) (index ! (phone - 1)) ∙ opened.sized

  elsewhere : (i : ℕ) → (i ≡ phone - 1 → ⊥) → (i ≡ 64 + word - 1 → ⊥) → filled ! i ≡ index ! i
  elsewhere i f g =
      get_or-set_other linked (phone - 1) i word 0 f
      ∙ get_or-set_other index (64 + word - 1) i (index ! (phone - 1)) 0 g

  before : suc (word - 1) ≡ word
  before = omega arith

  firsts_more : (other : ℕ) → 1 ≤ other → other ≤ 64 → filled ! (other - 1) ≡ opening_from words other word
  firsts_more other from to =
      by-test (eqb phone other)
      (λ t.
      let same : phone ≡ other = eqb-true phone other t in
      subst (λ (p : ℕ). filled ! (p - 1) ≡ opening_from words p word) same
      (get_or-set_same linked (phone - 1) word 0 (omega (arith, linked-size, room, low, high))
      ∙ sym (opening-here words phone word opened.within (sym own))))
      (λ t.
      let apart = eqb-false phone other t in
      elsewhere (other - 1) (λ e. apart (omega (arith, e, low, from))) (λ e. omega (arith, e, from, to, some))
      ∙ opened.firsts other from to
      ∙ sym (opening-later words other word opened.within (λ e. apart (own ∙ e))))

  nexts-more : (next : ℕ) → word ≤ next → next ≤ length words
      → filled ! (64 + next - 1) ≡ opening_from words (phones_in words next ! 0) (suc next)
  nexts-more next from to =
      by-test (eqb word next)
      (λ t.
      subst (λ (v : ℕ). filled ! (64 + v - 1) ≡ opening_from words (phones_in words v ! 0) (suc v))
      (eqb-true word next t)
      (get_or-set_other linked (phone - 1) (64 + word - 1) word 0 (λ e. omega (arith, e, some, low, high))
      ∙ get_or-set_same index (64 + word - 1) (index ! (phone - 1)) 0
      (omega (arith, opened.sized, opened.within, room, some))
      ∙ opened.firsts phone low high ∙ ap (λ (p : ℕ). opening_from words p (suc word)) own))
      (λ t.
      let apart = eqb-false word next t in
      elsewhere (64 + next - 1) (λ e. omega (arith, e, low, high, some, from))
      (λ e. apart (omega (arith, e, some, from)))
      ∙ opened.nexts next (omega (arith, apart, from)) to)

  again : OpenedAfter words size (word - 1) filled
  again = record {
    sized = length-set linked (phone - 1) word ∙ linked-size;
    within = omega (arith, opened.within);
    firsts = λ other from to. rw before (firsts_more other from to);
    nexts = λ next from to. nexts-more next (omega (arith, from)) to;
  }

  pub opened-more : OpenedAfter words size (word - 1)
      (set (set index (64 + (word - 1)) (index ! (phone - 1))) (phone - 1) (word - 1 + 1))
  opened-more =
      let place : 64 + (word - 1) ≡ 64 + word - 1 = omega arith in
      let number : word - 1 + 1 ≡ word = omega arith in
      rw (place, number) again

-- all are
pub opened-all : {words : List (List ℕ)} {size word : ℕ} {index : List ℕ} → OpenedAfter words size word index
    → word ≡ 0 → 64 + length words ≤ size → Opened words index
unfolding is_word
opened-all {words} {word = word} {index = index} opened e room = record {
  sized = omega (arith, opened.sized, room);
  firsts = λ phone low high.
      subst (λ (w : ℕ). index ! (phone - 1) ≡ opening_from words phone (suc w)) e (opened.firsts phone low high);
  nexts = λ next is.
      let (low, high) = (between 1 next (length words)).0 is in
      opened.nexts next (omega (arith, e, low)) high;
}
