-- Laws about the constant table of the code: it is what the definitions' tables give, entry by entry, and a
-- search among the letters of a kind of text finds the table of a letter.
use Rattle.std.specs.Prelude.{◌≡◌, refl, List, [], ◌∷◌, ◌++◌, map, Bool, false, ◌&&◌, ℕ, zero, suc, ◌+◌, ◌-◌, ◌≤◌, ◌<◌, leb, length, get_or, replicate}
use Rattle.std.proofs.Math.Path.{sym}
use Rattle.std.proofs.Common.{ap, ◌∙◌, arith, add-one, leb→le, drop-cons}
use Rattle.std.proofs.Math.Option.{none, some}
use Rattle.std.proofs.lemmas.List.{length-map}
use Rattle.std.proofs.Math.ListN.{get_or-append, get_or-map}
use borrow.Author.Tests.{eq-eqb, ne_eqb, le-leb, lt-leb}
use Rattle.definitions.specs.Lists.{every}
use Rattle.definitions.specs.Forms.{Range, Form, ◌‥◌, form_h}
use Rattle.definitions.specs.Lines.{form_of}
use Rattle.definitions.proofs.Laws.Lists.Tests.{every-at}
use Rattle.definitions.proofs.Laws.Lists.Lists.{map_at}
use Rattle.lines.specs.declared.forms.Range.{Range as HeldRange}
use Rattle.lines.specs.declared.forms.Form.{Form as HeldForm}
use Rattle.lines.specs.Places.{forms_between, all_forms, form_in, form_at, ranges_of, ranges_at, range_at}
use Rattle.lines.specs.Places.{form_count}

-- ---- the table of a letter

-- the table of the letter at a place that has one
abbrev pub form_here : (place : ℕ) → Form
form_here place = get_or all_forms place form_h

form_in_lem : (forms : List Form) (d : Form) (i : ℕ) → i < length forms → form_in forms i ≡ some (get_or forms i d)
unfolding form_in
form_in_lem [] d i h = absurd (omega arith)
form_in_lem (x ∷ forms) d zero h = refl
form_in_lem (x ∷ forms) d (suc i) h = form_in_lem forms d i (omega arith)

pub form-here : (place : ℕ) → place < form_count → form_at place ≡ some (form_here place)
form-here place h = form_in_lem all_forms form_h place h

pub ranges-here : (place : ℕ) → place < form_count → ranges_at place ≡ (form_here place).fields
unfolding ranges_of
ranges-here place h = ap ranges_of (form-here place h)

few : Form → Bool
few form = leb (length form.fields) 5

pub used-few : (place : ℕ) → place < form_count → length (ranges_at place) ≤ 5
unfolding few every
used-few place h =
    rw (ranges-here place h) (leb→le _ 5 (every-at few all_forms form_h tt place h))

-- ---- the code's table of a letter

abbrev held_range : Range → HeldRange
held_range range = (range.lowest, range.highest)

abbrev held_ranges : List Range → List HeldRange
held_ranges ranges = map held_range ranges ++ replicate (5 - length ranges) (0, 0)

abbrev held_form : Form → HeldForm
held_form form =
    record { letter = form.letter; used = length form.fields; ranges = held_ranges form.fields }

-- what the code reads at a place
abbrev held_at : (place : ℕ) → HeldForm
held_at place = get_or (map held_form all_forms) place (record { letter = 0; used = 0; ranges = [] })

abbrev held_range_at : (place field : ℕ) → HeldRange
held_range_at place field = get_or (held_at place).ranges field (0, 0)

module _ (place : ℕ) (h : place < form_count) where
  held-here : held_at place ≡ held_form (form_here place)
  held-here = map_at held_form all_forms form_h _ place h

  pub used-held : (held_at place).used ≡ length (ranges_at place)
  used-held = ap (λ form. form.used) held-here ∙ sym (ap length (ranges-here place h))

  range-held : (field : ℕ) → field < length (ranges_at place)
      → held_range_at place field ≡ held_range (range_at place field)
  range-held field k =
      let ranges : List Range = (form_here place).fields in
      let inside : field < length (map held_range ranges) =
      rw (length-map ranges held_range, ← ranges-here place h) k in
      rw (
        held-here,
        ranges-here place h,
        get_or-append (map held_range ranges) (replicate (5 - length ranges) (0, 0)) (0, 0) field inside,
      )
      (get_or-map held_range ranges field (0 ‥ 0))

  pub below-range : (field n : ℕ) → field < length (ranges_at place)
      → n < (held_range_at place field).0
      → false ≡ (leb (range_at place field).lowest n && leb n (range_at place field).highest)
  below-range field n k l =
      let low : n < (range_at place field).lowest = rw (range-held field k) at l in
      rw (lt-leb _ _ low)

  pub above-lowest : (field n : ℕ) → field < length (ranges_at place)
      → (held_range_at place field).0 ≤ n
      → leb n (held_range_at place field).1
      ≡ (leb (range_at place field).lowest n && leb n (range_at place field).highest)
  above-lowest field n k l =
      let low : (range_at place field).lowest ≤ n = rw (range-held field k) at l in
      rw (le-leb _ _ low, range-held field k)

-- ---- the search for a letter

forms_between-more : (place end : ℕ) → place < end → end ≤ form_count
    → forms_between place end ≡ form_here place ∷ forms_between (place + 1) end
forms_between-more place end h k =
    let left : end - place ≡ suc (end - (place + 1)) = omega arith in
    rw (left, drop-cons all_forms place form_h (omega arith), add-one)

module _ (letter place end : ℕ) where
  pub letter-found : place < end → end ≤ form_count → (held_at place).letter ≡ letter
      → form_at place ≡ form_of (forms_between place end) letter
  unfolding form_of
  letter-found h k is =
      let same : (form_here place).letter ≡ letter =
      sym (ap (λ form. form.letter) (held-here place (omega arith))) ∙ is in
      form-here place (omega arith) ∙ sym (rw (forms_between-more place end h k, eq-eqb _ _ same))

  pub letter-passed : place < end → end ≤ form_count → ((held_at place).letter ≡ letter → ⊥)
      → form_of (forms_between place end) letter ≡ form_of (forms_between (place + 1) end) letter
  unfolding form_of
  letter-passed h k isnt =
      let other : (form_here place).letter ≡ letter → ⊥ =
      λ is. isnt (ap (λ form. form.letter) (held-here place (omega arith)) ∙ is) in
      rw (forms_between-more place end h k, ne_eqb _ _ other)

pub letter-nowhere : (letter place end : ℕ) → end ≤ place → form_of (forms_between place end) letter ≡ none
unfolding form_of
letter-nowhere letter place end h =
    let none_left : end - place ≡ 0 = omega arith in
    rw none_left
