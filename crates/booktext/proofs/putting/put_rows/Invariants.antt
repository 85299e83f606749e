-- `putting::put_rows` meets its contract. The loop's invariant: the rows of the places so far are written.
use Rattle.std.proofs.Common.{List}
use Rattle.definitions.specs.Lines.{Line}
use Rattle.booktext.specs.Putting.{Given, Put}
use Rattle.booktext.proofs.putting.put_rows.Given as goal

abbrev pub invariant-loop-place : goal.invariant-loop-place
invariant-loop-place g l =
    (lines : List Line) × Given (λ place row. goal.F-post g l.row_at place row) l.place lines
    × Put lines l.initial.text l.count l.text l.next
