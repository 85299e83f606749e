-- `finding::line_where` meets its contract. The loop's invariant: none of the first `i` lines is sought.
use Rattle.std.proofs.Common.{◌≡◌, sym, ap, ◌∙◌, arith, false, length, ◌/◌}
use Rattle.lines.specs.Judging.{line_bytes}
use Rattle.lines.specs.Laws.Judging.{next-bytes}
use Rattle.lines.specs.Laws.Rows.{whole_row}
use Rattle.book.specs.Steps.{book_taken}
use Rattle.book.specs.Laws.Finding.{passed_none, passed-more, found_here, found-end, row-taken, misprint-taken}
use Rattle.book.proofs.finding.line_where.Goals as goal
use Rattle.book.proofs.finding.line_where.Goals.{in-Some+else-sought, in_default}

pub loop-i-init : goal.loop-i-init
loop-i-init g c = λ test seeks. passed_none _ test

pub entry_of-requires : goal.entry_of-requires
entry_of-requires g c = whole_row _ (sym c.in-Some.is ∙ c.parse.ensures)

pub returns-then-sought : goal.returns-then-sought
returns-then-sought g c = λ test seeks.
    let row = row-taken _ (sym c.in-Some.is ∙ c.parse.ensures) in
    found_here _ test _ (c.loop-i.invariant test seeks) c.loop-i-test.true
    (sym (seeks.answers _ _ c.if-sought.ensures ∙ ap test (c.entry_of.ensures ∙ sym row ∙ ap book_taken (next-bytes _ c.loop-i.i))))

pub loop-i-preserved : goal.loop-i-preserved
loop-i-preserved g c = λ test seeks.
    let bytes = ap book_taken (next-bytes c.args.text.now c.loop-i.i) in
    let other : test (book_taken (line_bytes c.args.text.now c.loop-i.i)) ≡ false = elim c.match-parse.branch [
      | in-Some+else-sought w ↦ let row = row-taken _ (sym w.in-Some.is ∙ c.parse.ensures) in
          sym (seeks.answers _ _ w.if-sought.ensures ∙ ap test (w.entry_of.ensures ∙ sym row ∙ bytes))
      | in_default w ↦ ap test (sym bytes ∙ misprint-taken _ _ c.parse.ensures w.in_default.not-Some) ∙ seeks.misprint
    ] in
    passed-more _ test _ (c.loop-i.invariant test seeks) c.loop-i-test.true other

pub returns : goal.returns
returns g c = λ test seeks.
    let last : c.loop-i.i ≡ length c.args.text.now / 32 = omega arith in
    rw (← last) (found-end _ test _ (c.loop-i.invariant test seeks) c.loop-i-test.false)
