-- Laws about lines and texts: what is written is read, and what is read is what was written.
-- The idea: a line is its letter, its five fields and a line feed, and a text is its lines joined, so the
-- laws about fields and about records carry over. The proofs of what reads and writes text use them.
use Rattle.std.specs.Prelude.{◌≡◌, refl, Bool, true, false, T, eqb, take}
use Rattle.std.proofs.Common.{sym, ap, ◌∙◌, arith, length-append, take-append-drop, drop_of_length-le, take_all, drop-cons, drop-drop, eqb-true}
use mathlib.Core.List.{List, [], ◌∷◌, ◌++◌, append-nil}
use Rattle.std.proofs.Math.Option.{Option, none, some, none-ne-some}
use Prim.Native.Nat.{ℕ, ◌*◌, ◌/◌, ◌%◌, ◌≤◌}
use Rattle.std.proofs.Math.ListN.{length, drop, length-drop}
use Rattle.std.proofs.lemmas.List.{get_or_at}
use Rattle.definitions.specs.Lists.{if◌then◌else◌, ◌!◌, every, concat_map, records}
use Rattle.definitions.specs.Forms.{Range, Form}
use Rattle.definitions.specs.Lines.{line_feed, field_of, Line, form_of, numbers_of, fields_of, with_letter}
use Rattle.definitions.specs.Lines.{line_of, line_text, lines_of}
use Rattle.definitions.proofs.Laws.Lists.Records.{joined, all_of, joined_length, records-joined}
use Rattle.definitions.proofs.Laws.Lists.Records.{read_length, records-sized, joined-records}
use Rattle.definitions.proofs.Laws.Text.Fields.{text_of, fits, is_read, fields-reads, fields-length}
use Rattle.definitions.proofs.Laws.Text.Fields.{fields-writes}
use Rattle.definitions.proofs.Laws.Text.LineFields.{all_fit, line_fields, line_fields-length, line_fields-text}
use Rattle.definitions.proofs.Laws.Text.LineFields.{line_fields-fit, line_fields-is_read, line_fields-reads}
use Rattle.definitions.proofs.Laws.Text.LineFields.{line_fields-writes}

-- ---- what is written is read

-- a line is its letter, its five fields and a line feed
line-text : (line : Line)
    → line_text line ≡ line.letter ∷ concat_map text_of (line_fields line.numbers) ++ (line_feed ∷ [])
unfolding line_text
line-text line = rw (line_fields-text line.numbers)

pub line-letter : (line : Line) → line_text line ! 0 ≡ line.letter
line-letter line = rw (line-text line)

module _ (line : Line) (few : length line.numbers ≤ 5) (fit : T (all_fit line.numbers)) where
  five : length (line_fields line.numbers) ≡ 5
  five = line_fields-length line.numbers few

  all-fit : T (every fits (line_fields line.numbers))
  all-fit = rw (line_fields-fit line.numbers) fit

  front_length : length (concat_map text_of (line_fields line.numbers)) ≡ 30
  front_length = fields-length (line_fields line.numbers) all-fit ∙ rw five

  pub line-length : length (line_text line) ≡ 32
  line-length = rw (line-text line, length-append) (omega (arith, front_length))

  pub line-end : line_text line ! 31 ≡ line_feed
  line-end =
      let front : List ℕ = concat_map text_of (line_fields line.numbers) in
      rw (line-text line) (get_or_at front line_feed [] 0 30 front_length)

  line-fields : fields_of (line_text line) ≡ line_fields line.numbers
  unfolding fields_of
  line-fields =
      let apart = fields-reads (line_fields line.numbers) (line_feed ∷ []) all-fit in
      rw (line-text line) (rw five at apart)

-- a line is read by its letter's fields, where its letter is known
pub line_known : (forms : List Form) (bytes : List ℕ) (form : Form) → form_of forms (bytes ! 0) ≡ some form
    → line_of forms bytes ≡ with_letter form.letter (numbers_of form.fields (fields_of bytes))
unfolding line_of
line_known forms bytes form known = rw (known, line_of)

pub line-unknown : (forms : List Form) (bytes : List ℕ) → form_of forms (bytes ! 0) ≡ none
    → line_of forms bytes ≡ none
unfolding line_of
line-unknown forms bytes unknown = rw (unknown, line_of)

pub line_reads : (forms : List Form) (form : Form) (numbers : List ℕ)
    → form_of forms form.letter ≡ some form → length numbers ≡ length form.fields
    → length numbers ≤ 5 → T (all_fit numbers)
    → line_of forms (line_text (record { letter = form.letter; numbers = numbers }))
    ≡ some (record { letter = form.letter; numbers = numbers })
unfolding with_letter
line_reads forms form numbers known many few fit =
    let line : Line = record { letter = form.letter; numbers = numbers } in
    line_known forms (line_text line) form (rw (line-letter line) known)
    ∙ rw (line-fields line few fit, line_fields-reads form.fields numbers many)

-- ---- what is read is what was written

pub form-letter : (forms : List Form) (letter : ℕ) (form : Form) → form_of forms letter ≡ some form
    → form.letter ≡ letter
unfolding form_of
form-letter [] letter form e = absurd (none-ne-some form e)
form-letter (f ∷ forms) letter form e =
    go (eqb f.letter letter) refl (λ k. form-letter forms letter form k) e
  where
    go : (b : Bool) → eqb f.letter letter ≡ b → (form_of forms letter ≡ some form → form.letter ≡ letter)
        → (if b then some f else form_of forms letter) ≡ some form → form.letter ≡ letter
    go true t rest k = let same : f ≡ form = cc in rw (← same) (eqb-true f.letter letter t)
    go false t rest k = rest k

-- a line that is read has a known letter, and the numbers that its fields give
pub record Parts (forms : List Form) (bytes : List ℕ) (line : Line) : Type 0 where
  pub form : Form
  pub known : form_of forms (bytes ! 0) ≡ some form
  pub letter : line.letter ≡ bytes ! 0
  pub found : numbers_of form.fields (fields_of bytes) ≡ some line.numbers

line-parts : (forms : List Form) (bytes : List ℕ) (line : Line) → line_of forms bytes ≡ some line
    → Parts forms bytes line
unfolding with_letter
line-parts forms bytes line e = by_form (form_of forms (bytes ! 0)) refl
  where
    by-numbers : (form : Form) → form_of forms (bytes ! 0) ≡ some form
        → (found : Option (List ℕ)) → numbers_of form.fields (fields_of bytes) ≡ found
        → with_letter form.letter found ≡ some line → Parts forms bytes line
    by-numbers form known none n k = absurd (none-ne-some line k)
    by-numbers form known (some numbers) n k =
        let same : line ≡ record { letter = form.letter; numbers = numbers } = cc in
        let letter : form.letter ≡ bytes ! 0 = form-letter forms (bytes ! 0) form known in
        rw same (record { form = form; known = known; letter = letter; found = n })

    by_form : (found : Option Form) → form_of forms (bytes ! 0) ≡ found → Parts forms bytes line
    by_form none unknown = absurd (none-ne-some line (sym (line-unknown forms bytes unknown) ∙ e))
    by_form (some form) known = by-numbers form known _ refl (sym (line_known forms bytes form known) ∙ e)

-- it has as many numbers as its letter has fields, and is written as it was read
pub record Read (forms : List Form) (bytes : List ℕ) (line : Line) : Type 0 where
  pub parts : Parts forms bytes line
  pub many : length line.numbers ≡ length parts.form.fields
  pub few : length line.numbers ≤ 5
  pub fit : T (all_fit line.numbers)
  pub written : line_text line ≡ bytes

pub fields-five : (bytes : List ℕ) → length (fields_of bytes) ≡ 5
unfolding fields_of
fields-five bytes = read_length 6 field_of 5 (drop 1 bytes)

module _ (forms : List Form) (bytes : List ℕ) (size : length bytes ≡ 32) (feed : bytes ! 31 ≡ line_feed) where
  last_byte : drop 30 (drop 1 bytes) ≡ line_feed ∷ []
  last_byte =
      drop-drop 30 1 bytes ∙ drop-cons bytes 31 0 (omega arith)
      ∙ rw (feed, drop_of_length-le bytes {i = 32} (omega arith))

  -- its bytes are its first, those of its fields and a line feed
  line-bytes : bytes ≡ bytes ! 0 ∷ take 30 (drop 1 bytes) ++ (line_feed ∷ [])
  line-bytes =
      drop-cons bytes 0 0 (omega arith)
      ∙ ap (λ (r : List ℕ). bytes ! 0 ∷ r) (sym (take-append-drop 30 (drop 1 bytes)) ∙ rw last_byte)

  -- its fields, where none is malformed, are written as they stand
  fields-bytes : T (every is_read (fields_of bytes))
      → (concat_map text_of (fields_of bytes) ≡ take 30 (drop 1 bytes)) × T (every fits (fields_of bytes))
  unfolding fields_of
  fields-bytes h =
      let rest : List ℕ = drop 1 bytes in
      let room : 30 ≤ length rest = rw length-drop (omega arith) in
      let (text, fitting) = fields-writes (records 6 5 rest) (records-sized 6 5 rest room) h in
      (text ∙ joined-records 6 5 rest room, fitting)

  pub line_writes : (line : Line) → line_of forms bytes ≡ some line → Read forms bytes line
  line_writes line e =
      let parts : Parts forms bytes line = line-parts forms bytes line e in
      let ranges : List Range = parts.form.fields in
      let (many, few, split) = line_fields-writes ranges (fields_of bytes) (fields-five bytes) parts.found in
      let (text, fitting) = fields-bytes (rw split (line_fields-is_read line.numbers)) in
      record {
        parts = parts;
        many = many;
        few = few;
        fit = rw (split, line_fields-fit line.numbers) at fitting;
        written = line-text line ∙ rw (← split, text, parts.letter) (sym line-bytes);
      }

-- ---- texts

-- lines of 32 bytes, joined, are read as those lines; and a text of whole lines is its lines joined
pub text-reads : (lines : List (List ℕ)) → T (all_of 32 lines) → lines_of (joined lines) ≡ lines
unfolding lines_of
text-reads lines h =
    let count : length (joined lines) / 32 ≡ length lines = omega (arith, joined_length 32 lines h) in
    rw count (rw append-nil at (records-joined 32 lines [] h))

pub text-writes : (text : List ℕ) → length text % 32 ≡ 0 → joined (lines_of text) ≡ text
unfolding lines_of
text-writes text h =
    joined-records 32 (length text / 32) text (omega arith)
    ∙ take_all (32 * (length text / 32)) text (omega arith)

pub text-sized : (text : List ℕ) → T (all_of 32 (lines_of text))
unfolding lines_of
text-sized text = records-sized 32 (length text / 32) text (omega arith)
