-- The lines that a writer of tree books makes are lines of their kind: each is taken for the line that it was made
-- of, and has the table of its letter. What reading makes of all of them stands in WrittenClasses and BookTexts.
use Rattle.std.specs.Prelude.{refl}
use Rattle.definitions.specs.Lists.{every}
use Rattle.definitions.specs.Forms.{Form, form_h, form_q, form_n, form_l, form_r, form_b}
use Rattle.definitions.specs.Lines.{form_of}
use Rattle.definitions.specs.BookLines.{BookLine, H, Q, N, L, R, book_line, B}
use Rattle.definitions.specs.BookReading.{Lent, book_kind}
use Rattle.definitions.specs.BookText.{book_line_for}
use Rattle.definitions.proofs.Laws.Text.WrittenTexts.{Writes, Writer}

-- the table of a line's letter
abbrev form_for : BookLine → Form
form_for (H half states phones classes nodes) = form_h
form_for (Q class phone) = form_q
form_for (N node class position yes_node no_node) = form_n
form_for (L node model) = form_l
form_for (B boundary plain) = form_b
form_for (R phone state root) = form_r

pub book-writes : (lent : Lent) (line : BookLine) → Writes (book_kind lent) line (book_line_for line) (form_for line)
unfolding book_kind book_line form_of book_line_for every
book-writes lent (H half states phones classes nodes) =
    record { again = refl; known = refl; many = refl; fits = tt }
book-writes lent (Q class phone) = record { again = refl; known = refl; many = refl; fits = tt }
book-writes lent (N node class position yes_node no_node) =
    record { again = refl; known = refl; many = refl; fits = tt }
book-writes lent (L node model) = record { again = refl; known = refl; many = refl; fits = tt }
book-writes lent (B boundary plain) = record { again = refl; known = refl; many = refl; fits = tt }
book-writes lent (R phone state root) = record { again = refl; known = refl; many = refl; fits = tt }

abbrev pub book_writer : (lent : Lent) → Writer (book_kind lent)
book_writer lent = record { line_for = book_line_for; form = form_for; writes = book-writes lent }
