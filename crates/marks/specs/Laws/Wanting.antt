-- Laws about what leads on from a mark: in a word, past its end, before the first silence, between words, and after the
-- closing silence.
use Rattle.std.specs.Prelude.{if◌then◌else◌, ◌≡◌, refl, Bool, true, false, ℕ, suc, ◌≤◌, eqb, length}
use Rattle.std.proofs.Common.{sym, ap₂, ◌∙◌, arith, eqb→eq}
use Rattle.std.proofs.Math.Path.{ap}
use mathlib.Core.List.{List, [], ◌∷◌}
use borrow.Author.Tests.{eq-eqb, ne_eqb}
use Rattle.definitions.specs.Lists.{◌!◌}
use Rattle.definitions.specs.Joining.{Mark, ◌⊚◌, Step, step, phones_in, spoken_to, within, outside, steps}
use Rattle.definitions.proofs.Laws.Lists.Tests.{same_tests, eq→eqb}
use Rattle.marks.specs.declared.Mark as declared
use Rattle.marks.specs.declared.Wanted.TheVariants.{Phone, Nothing}
use Rattle.marks.specs.Wanting.{mark_of, steps_by, Leads}

-- ---- choices by tests

eqb_swap : (m n : ℕ) → eqb m n ≡ eqb n m
eqb_swap m n =
    same_tests (eqb m n) (eqb n m) (λ h. eq→eqb n m (sym (eqb→eq m n h))) (λ h. eq→eqb m n (sym (eqb→eq n m h)))

-- a choice that is the same where the test fails
same-else : {A : Type 0} (b : Bool) (x y z : A) → (b ≡ false → y ≡ z) → (if b then x else y) ≡ (if b then x else z)
same-else true x y z e = refl
same-else false x y z e = e refl

module _ (words : List (List ℕ)) (word mark : ℕ) where
  -- ---- where so many phones of a word lead

  pub spoken-out : length (phones_in words word) ≡ mark → 0 ⊚ 1 ≡ spoken_to words word mark
  unfolding spoken_to
  spoken-out e = rw (eq-eqb mark (length (phones_in words word)) (sym e))

  pub spoken-on : (length (phones_in words word) ≡ mark → ⊥) → word ⊚ mark ≡ spoken_to words word mark
  unfolding spoken_to
  spoken-on e = rw (ne_eqb mark (length (phones_in words word)) (λ same. e (sym same)))

  -- ---- one phone that leads on, or none

  -- where a phone leads
  abbrev onward : ℕ → List Step
  onward phone = if eqb word 0 then outside words mark phone else within words word mark phone

  leads_one : (own : ℕ) (next : declared.Mark)
      → ((phone : ℕ) → eqb phone 0 ≡ false
      → onward phone ≡ (if eqb phone own then step 0 (mark_of next) ∷ [] else []))
      → Leads words word mark (Phone own next)
  unfolding steps steps_by
  leads_one own next e =
      record { between = λ h. search h; shut = λ n phone. same-else (eqb phone 0) _ _ _ (e phone) }

  leads-none : ((phone : ℕ) → eqb phone 0 ≡ false → onward phone ≡ []) → Leads words word mark Nothing
  unfolding steps steps_by
  leads-none e = record { between = λ h. search h; shut = λ n phone. same-else (eqb phone 0) _ _ _ (e phone) }

  -- in a word
  pub leads-within : (own : ℕ) (next : declared.Mark) → 1 ≤ word → own ≡ phones_in words word ! mark
      → mark_of next ≡ spoken_to words word (suc mark) → Leads words word mark (Phone own next)
  unfolding within
  leads-within own next some is to =
      leads_one own next
      (λ phone h.
      rw (ne_eqb word 0 (omega arith))
      (ap₂ (λ (b : Bool) (m : Mark). if b then step 0 m ∷ [] else [])
      (eqb_swap (phones_in words word ! mark) phone ∙ ap (eqb phone) (sym is)) (sym to)))

  -- past its end
  pub leads-past : 1 ≤ word → phones_in words word ! mark ≡ 0 → Leads words word mark Nothing
  unfolding within
  leads-past some e = leads-none (λ phone h. rw (ne_eqb word 0 (omega arith), e, eqb_swap 0 phone, h))

  -- before the first silence
  pub leads-first : word ≡ 0 → mark ≡ 0 → Leads words word mark (Phone 1 (record { word = 0; mark = 1 }))
  unfolding outside
  leads-first e f = leads_one 1 (record { word = 0; mark = 1 }) (λ phone h. rw (e, f))

  -- after the closing silence
  pub leads-closed : word ≡ 0 → (mark ≡ 1 → ⊥) → (mark ≡ 0 → ⊥) → Leads words word mark Nothing
  unfolding outside
  leads-closed e f g = leads-none (λ phone h. rw (e, ne_eqb mark 1 f, ne_eqb mark 0 g))
