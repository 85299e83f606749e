-- `putting::put_line` meets its contract: where there is room, the lent bytes come back as the line.
use native.Mathlib.Omega.{arith}
use Rattle.lines.specs.Rows.{line_in}
use Rattle.booktext.specs.Laws.OneLine.{line-short, line-put}
use Rattle.booktext.proofs.putting.put_line.Goals as goal

pub returns-then-text-count : goal.returns-then-text-count
returns-then-text-count c =
    let a = c.args in
    line-short (line_in a.row) a.text.now a.count (omega arith)

pub returns : goal.returns
returns c =
    let a = c.args in
    line-put a.row a.text.now a.count c.requires.0 (omega arith) (c.write.ensures.answer, c.write.ensures.leaves)
