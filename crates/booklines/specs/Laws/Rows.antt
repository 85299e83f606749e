-- What a row says is what its line says, since the numbers beyond the line's are 0.
use Rattle.std.specs.Prelude.{◌≡◌}
use Rattle.definitions.specs.BookLines.{book_line}
use Rattle.lines.specs.declared.Row.{Row}
use Rattle.lines.specs.Rows.{line_in, row_of}
use Rattle.lines.specs.Laws.Rows.{number_read}

pub row_says : (row : Row) → row ≡ row_of (line_in row)
    → book_line (line_in row) ≡ book_line (record { letter = row.letter; numbers = row.numbers })
unfolding book_line line_in
row_says row e =
    let same = number_read row e in
    rw (← same 0, ← same 1, ← same 2, ← same 3, ← same 4)
