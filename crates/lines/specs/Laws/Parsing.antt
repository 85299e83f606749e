-- Laws about a line read field by field. The idea: each field gives an entry of the row, a number or 0, and
-- the entries are the line's numbers, padded; the loop has those before a field and asks for the others.
use Rattle.std.specs.Prelude.{if◌then◌else◌, ◌≡◌, List, [], ◌∷◌, ◌++◌, true, false, ℕ, zero, suc, ◌+◌, ◌-◌, ◌*◌, ◌≤◌, ◌<◌, ltb, get_or, set, take, drop, Some}
use Rattle.std.proofs.Math.Path.{refl, sym}
use Rattle.std.proofs.Common.{ap, ◌∙◌, append_assoc, append-nil, add-one, length-set, drop-cons, drop-drop, take-suc-set, ltb-true, ltb-false}
use Rattle.std.proofs.Math.Option.{Option, none, some, none-ne-some}
use native.Mathlib.Omega.{arith}
use Rattle.std.proofs.Math.ListN.{length, length-drop, drop_of_length-le}
use Rattle.std.proofs.Math.Seq.{take_all}
use Rattle.definitions.specs.Lists.{◌!◌, every, cleared, padded}
use Rattle.definitions.specs.Forms.{Range, Form}
use Rattle.definitions.specs.Lines.{Field, blank, malformed, number, is_blank, field_of, skip_spaces, digits_field}
use Rattle.definitions.specs.Lines.{fields_of, numbers_of, form_of, with_letter, line_of}
use Rattle.definitions.proofs.Laws.Lists.Tests.{by-test}
use Rattle.definitions.proofs.Laws.Lists.Lists.{padded-none}
use Rattle.definitions.proofs.Laws.Lists.Records.{read_at}
use Rattle.definitions.proofs.Laws.Text.Lines.{line_known, line-unknown, form-letter, fields-five}
use Rattle.lines.specs.declared.Letters.{Letters}
use Rattle.lines.specs.declared.Letters.TheVariants.{Book, Network, Words}
use Rattle.lines.specs.Places.{form_in, form_at, ranges_at, form_count}
use Rattle.lines.specs.Rows.{forms_of, row_of, parsed_of, option_of}
use Rattle.lines.specs.Entries.{field_at, field_entry}
use Rattle.lines.specs.Laws.Tables.{form_here, form-here, ranges-here, used-few}

-- ---- the bytes of a field

module _ (s : List ℕ) (field from : ℕ) (place : from ≡ 1 + 6 * field) where
  pub field-beyond : length s ≤ from → field_at s field ≡ blank
  unfolding field_at field_of skip_spaces digits_field
  field-beyond h = rw (← place, drop_of_length-le s {i = from} h)

  -- a line that ends in the field
  pub field_cut : length s < from + 6 → field_of (take (length s - from) (drop from s)) ≡ field_at s field
  unfolding field_at
  field_cut h =
      let whole : length (drop from s) ≤ length s - from = rw length-drop (omega arith) in
      let short : length (drop from s) ≤ 6 = rw length-drop (omega arith) in
      rw (← place)
      (ap field_of (take_all (length s - from) (drop from s) whole ∙ sym (take_all 6 (drop from s) short)))

  pub field-whole : (end : ℕ) → end ≡ from + 6 → field_of (take (end - from) (drop from s)) ≡ field_at s field
  unfolding field_at
  field-whole end e = let six : end - from ≡ 6 = omega arith in rw (six, place)

fields_at : (s : List ℕ) (field : ℕ) → field < 5 → get_or (fields_of s) field blank ≡ field_at s field
unfolding fields_of field_at field_of skip_spaces digits_field
fields_at s field h =
    read_at 6 field_of 5 (drop 1 s) blank field h
    ∙ ap (λ (l : List ℕ). field_of (take 6 l)) (drop-drop (6 * field) 1 s)

-- ---- the entries of a line's fields

abbrev followed : Option ℕ → Option (List ℕ) → Option (List ℕ)
followed none rest = none
followed (some n) none = none
followed (some n) (some numbers) = some (n ∷ numbers)

-- the entries of all fields, where each has one
unfoldable pub entries_of : (used : ℕ) → List Field → Option (List ℕ)
entries_of used [] = some []
entries_of zero (f ∷ fields) = followed (field_entry false f) (entries_of zero fields)
entries_of (suc used) (f ∷ fields) = followed (field_entry true f) (entries_of used fields)

abbrev after : List ℕ → Option (List ℕ) → Option (List ℕ)
after numbers none = none
after numbers (some rest) = some (numbers ++ rest)

-- the entries before a field of a line
pub record Entries (s : List ℕ) (used : ℕ) (numbers : List ℕ) (field : ℕ) : Type 0 where
  pub sized : length numbers ≡ 5
  pub rest :
      entries_of used (fields_of s)
      ≡ after (take field numbers) (entries_of (used - field) (drop field (fields_of s)))

pub entries-start : (s : List ℕ) (used : ℕ) (numbers : List ℕ) → length numbers ≡ 5 → Entries s used numbers 0
entries-start s used numbers h =
    let all : used - 0 ≡ used = omega arith in
    record { sized = h; rest = rw all (nothing-before (entries_of used (fields_of s))) }
  where
    nothing-before : (o : Option (List ℕ)) → o ≡ after [] o
    nothing-before none = refl
    nothing-before (some l) = refl

entries-cons : (used i : ℕ) (f : Field) (fields : List Field)
    → entries_of (used - i) (f ∷ fields)
    ≡ followed (field_entry (ltb i used) f) (entries_of (used - (i + 1)) fields)
unfolding entries_of
entries-cons used i f fields = by-test (ltb i used)
    (λ t.
    let l : i < used = ltb-true i used t in
    let more : used - i ≡ suc (used - (i + 1)) = omega arith in
    rw (t, more))
    (λ t.
    let l : used ≤ i = ltb-false i used t in
    let now-none : used - i ≡ 0 = omega arith in
    let then-none : used - (i + 1) ≡ 0 = omega arith in
    rw (t, now-none, then-none))

after-put : (numbers : List ℕ) (i n : ℕ) (o : Option (List ℕ)) → i < length numbers
    → after (take i numbers) (followed (some n) o) ≡ after (take (i + 1) (set numbers i n)) o
after-put numbers i n none h = refl
after-put numbers i n (some rest) h =
    rw (add-one, take-suc-set numbers i n h) (ap some (sym (append_assoc (take i numbers) (n ∷ []) rest)))

module _ {s : List ℕ} {used : ℕ} {numbers : List ℕ} {field : ℕ} (e : Entries s used numbers field) where
  abbrev others : Option (List ℕ)
  others = entries_of (used - (field + 1)) (drop (field + 1) (fields_of s))

  entries-more : field < 5 → entries_of used (fields_of s)
      ≡ after (take field numbers) (followed (field_entry (ltb field used) (field_at s field)) others)
  entries-more h =
      let inside : field < length (fields_of s) = rw fields-five h in
      e.rest ∙ rw (drop-cons (fields_of s) field blank inside, fields_at s field h, add-one)
      (ap (λ (o : Option (List ℕ)). after (take field numbers) o)
      (rw add-one at (entries-cons used field (field_at s field) (drop (suc field) (fields_of s)))))

  pub entry_found : (n : ℕ) → field < 5 → some n ≡ field_entry (ltb field used) (field_at s field)
      → Entries s used (set numbers field n) (field + 1)
  entry_found n h found = record {
    sized = length-set numbers field n ∙ e.sized;
    rest = entries-more h ∙ rw (← found) (after-put numbers field n others (omega arith));
  }

  pub entry-wrong : field < 5 → none ≡ field_entry (ltb field used) (field_at s field)
      → entries_of used (fields_of s) ≡ none
  entry-wrong h wrong = entries-more h ∙ rw (← wrong)

  pub entries-end : 5 ≤ field → entries_of used (fields_of s) ≡ some numbers
  unfolding entries_of
  entries-end h =
      let passed : length (fields_of s) ≤ field = rw fields-five h in
      e.rest
      ∙ rw (drop_of_length-le (fields_of s) {i = field} passed, take_all field numbers (omega arith))
      (ap some (append-nil numbers))

-- ---- the entries are the line's numbers, padded

-- what numbers that were found, or not, say of the entries
abbrev Agree : (ranges : List Range) (fields : List Field) → Option (List ℕ) → Type 0
Agree ranges fields none = entries_of (length ranges) fields ≡ none
Agree ranges fields (some numbers) =
    (entries_of (length ranges) fields ≡ some (padded (length fields) numbers))
    × (length numbers ≡ length ranges)

blanks : (fields : List Field)
    → entries_of 0 fields ≡ (if every is_blank fields then some (cleared (length fields)) else none)
unfolding entries_of every is_blank field_entry
blanks [] = refl
blanks (blank ∷ fields) =
    by-test (every is_blank fields) (λ t. rw (blanks fields, t)) (λ t. rw (blanks fields, t))
blanks (malformed ∷ fields) = refl
blanks (number n ∷ fields) = refl

agree : (ranges : List Range) (fields : List Field) → length ranges ≤ length fields
    → Agree ranges fields (numbers_of ranges fields)
unfolding numbers_of entries_of field_entry padded
agree [] fields h = by-test (every is_blank fields)
    (λ t. rw t (blanks fields ∙ rw t (ap some (padded-none (length fields))), refl))
    (λ t. rw t (blanks fields ∙ rw t))
agree (r ∷ ranges) [] h = absurd (omega arith)
agree (r ∷ ranges) (blank ∷ fields) h = refl
agree (r ∷ ranges) (malformed ∷ fields) h = refl
agree (r ∷ ranges) (number n ∷ fields) h = go (numbers_of ranges fields) (agree ranges fields (omega arith))
  where
    go : (o : Option (List ℕ)) → Agree ranges fields o
        → Agree (r ∷ ranges) (number n ∷ fields) (elim o [ none ↦ none | some numbers ↦ some (n ∷ numbers) ])
    go none e = rw e
    go (some numbers) e =
        let left : length fields - length numbers ≡ suc (length fields) - suc (length numbers) = omega arith in
        (rw (e.0, left), ap suc e.1)

-- ---- the row of a line

no_line : (letters : Letters) (s : List ℕ) → length s ≡ 0 → line_of (forms_of letters) s ≡ none
unfolding line_of form_of
no_line Book [] h = refl
no_line Network [] h = refl
no_line Words [] h = refl
no_line letters (b ∷ s) h = absurd (omega arith)

pub parsed-empty : (letters : Letters) (s : List ℕ) → length s ≡ 0
    → parsed_of (line_of (forms_of letters) s) ≡ parsed_of none
parsed-empty letters s h = ap parsed_of (no_line letters s h)

pub parsed-unknown : (forms : List Form) (s : List ℕ) → form_of forms (s ! 0) ≡ none
    → parsed_of (line_of forms s) ≡ parsed_of none
parsed-unknown forms s e = ap parsed_of (line-unknown forms s e)

-- a letter that is known, by its place and how many fields it uses
pub record Letter (forms : List Form) (s : List ℕ) (place used : ℕ) : Type 0 where
  pub known : place < form_count
  pub found : form_at place ≡ form_of forms (s ! 0)
  pub many : used ≡ length (ranges_at place)

module _ {forms : List Form} {s : List ℕ} {place used : ℕ} (l : Letter forms s place used) where
  abbrev found-numbers : Option (List ℕ)
  found-numbers = numbers_of (ranges_at place) (fields_of s)

  line-here : line_of forms s ≡ with_letter (s ! 0) found-numbers
  line-here =
      let it : form_of forms (s ! 0) ≡ some (form_here place) = sym l.found ∙ form-here place l.known in
      line_known forms s (form_here place) it
      ∙ rw (form-letter forms (s ! 0) (form_here place) it, ranges-here place l.known)

  agree-here : Agree (ranges_at place) (fields_of s) found-numbers
  agree-here =
      agree (ranges_at place) (fields_of s) (rw (fields-five s) (used-few place l.known))

  entries-here : entries_of used (fields_of s) ≡ entries_of (length (ranges_at place)) (fields_of s)
  entries-here = ap (λ (k : ℕ). entries_of k (fields_of s)) l.many

  pub parsed-wrong : entries_of used (fields_of s) ≡ none → parsed_of (line_of forms s) ≡ parsed_of none
  unfolding with_letter
  parsed-wrong e = rw line-here (go found-numbers agree-here)
    where
      go : (o : Option (List ℕ)) → Agree (ranges_at place) (fields_of s) o
          → parsed_of (with_letter (s ! 0) o) ≡ parsed_of none
      go none a = refl
      go (some numbers) a = absurd (none-ne-some _ (sym e ∙ entries-here ∙ a.0))

  pub parsed-row : (numbers : List ℕ) → entries_of used (fields_of s) ≡ some numbers
      → parsed_of (line_of forms s)
      ≡ Some (record { letter = s ! 0; used = used; numbers = numbers })
  unfolding with_letter option_of row_of
  parsed-row numbers e = rw line-here (go found-numbers agree-here)
    where
      go : (o : Option (List ℕ)) → Agree (ranges_at place) (fields_of s) o → parsed_of (with_letter (s ! 0) o)
          ≡ Some (record { letter = s ! 0; used = used; numbers = numbers })
      go none a = absurd (none-ne-some numbers (sym a ∙ sym entries-here ∙ e))
      go (some found) a =
          let padding : some (padded 5 found) ≡ some numbers =
          rw fields-five at (sym a.0 ∙ sym entries-here ∙ e) in
          let same : padded 5 found ≡ numbers = cc in
          let many : length found ≡ used = a.1 ∙ sym l.many in
          rw (many, same)
