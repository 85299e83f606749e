-- The tables of all letters in one list, as the code holds them: a place in it stands for a letter.
use Rattle.std.specs.Prelude.{◌≡◌, List, [], ◌∷◌, ◌++◌, ◌-◌, ◌≤◌, ℕ, zero, suc, take, drop, get_or}
use Rattle.std.proofs.Math.Option.{Option, none, some}
use Rattle.definitions.specs.Forms.{Range, Form, ◌‥◌, book_forms, network_forms, word_forms}
use Rattle.lines.specs.declared.Letters.{Letters}
use Rattle.lines.specs.Rows.{forms_of}

-- the tables of all letters
abbrev pub all_forms : List Form
all_forms = book_forms ++ network_forms ++ word_forms

-- how many there are
abbrev pub form_count : ℕ
form_count = 9

unfoldable pub form_in : List Form → (place : ℕ) → Option Form
form_in [] place = none
form_in (form ∷ forms) zero = some form
form_in (form ∷ forms) (suc place) = form_in forms place

-- the table of the letter at a place; none beyond them
abbrev pub form_at : (place : ℕ) → Option Form
form_at place = form_in all_forms place

unfoldable pub ranges_of : Option Form → List Range
ranges_of none = []
ranges_of (some form) = form.fields

-- the ranges of its used fields
abbrev pub ranges_at : (place : ℕ) → List Range
ranges_at place = ranges_of (form_at place)

abbrev pub range_at : (place field : ℕ) → Range
range_at place field = get_or (ranges_at place) field (0 ‥ 0)

-- the tables from a place to an end
abbrev pub forms_between : (place end : ℕ) → List Form
forms_between place end = take (end - place) (drop place all_forms)

-- where the letters of a kind of text stand
pub record Placed (letters : Letters) (from end : ℕ) : Type 0 where
  pub ordered : from ≤ end
  pub within : end ≤ form_count
  pub tables : forms_of letters ≡ forms_between from end
