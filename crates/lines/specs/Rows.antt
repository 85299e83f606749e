-- What a row of the code means: the line of document 01 that it holds, and what the parser answers.
use Rattle.std.specs.Prelude.{List, [], ◌∷◌, length, take, Option, Some, None, unwrap_or}
use Rattle.std.proofs.Math.Option as maths
use Rattle.std.proofs.Math.Option.{none, some}
use Prim.Native.Char.{code}
use Rattle.definitions.specs.declared.Header.{Header}
use Rattle.definitions.specs.declared.Counts.{Counts}
use Rattle.definitions.specs.Lists.{padded}
use Rattle.definitions.specs.Forms.{Form, book_forms, network_forms, word_forms}
use Rattle.definitions.specs.Lines.{Line, Field, blank, malformed, number}
use Rattle.lines.specs.declared.Letters.{Letters}
use Rattle.lines.specs.declared.Letters.TheVariants.{Book, Network, Words}
use Rattle.lines.specs.declared.Field as declared
use Rattle.lines.specs.declared.Field.TheVariants.{Blank, Malformed, Number}
use Rattle.lines.specs.declared.Row.{Row}

-- the tables of a kind of text
abbrev pub forms_of : Letters → List Form
forms_of Book = book_forms
forms_of Network = network_forms
forms_of Words = word_forms

-- a field as the code answers it, as a field of document 01
unfoldable pub field_in : declared.Field → Field
field_in Blank = blank
field_in Malformed = malformed
field_in (Number n) = number n

-- the line that a row holds
unfoldable pub line_in : Row → Line
line_in row = record { letter = row.letter; numbers = take row.used row.numbers }

-- a line as a row: five numbers, 0 in the fields that it does not use
unfoldable pub row_of : Line → Row
row_of line =
    record { letter = line.letter; used = length line.numbers; numbers = padded 5 line.numbers }

-- the rows of an H line and of a W line
abbrev pub header_row : Header → Row
header_row h =
    record { letter = code "H"; used = 5; numbers = h.half ∷ h.states ∷ h.phones ∷ h.classes ∷ h.nodes ∷ [] }

abbrev pub counts_row : Counts → Row
counts_row c =
    record { letter = code "W"; used = 3; numbers = c.states ∷ c.metastates ∷ c.arcs ∷ 0 ∷ 0 ∷ [] }

-- an option of the definitions as one of the code
unfoldable pub option_of : {A B : Type 0} → (A → B) → maths.Option A → Option B
option_of f none = None
option_of f (some a) = Some (f a)

-- what the parser answers
abbrev pub parsed_of : maths.Option Line → Option Row
parsed_of line = option_of row_of line

-- the row that it gives, of letter 0 and no numbers where it gives none
abbrev pub given : Option Row → Row
given parsed = unwrap_or parsed (row_of (record { letter = 0; numbers = [] }))
