-- `reader::read` meets its contract: tables are cleared before reading, and again where it refuses.
use Rattle.std.proofs.Common.{sym, rules}
use Rattle.book.specs.Laws.Answering.{tables-clear, read-answer, accepted-left, refused-left, lent-same}
use Rattle.book.proofs.reader.read.Goals as goal

pub read_lines-answer-requires : goal.read_lines-answer-requires
read_lines-answer-requires c = tables-clear c.clear.ensures.cleared

pub returns-then-is_err-clause-answer : goal.returns-then-is_err-clause-answer
returns-then-is_err-clause-answer c = read-answer c.clear.ensures.cleared _ c.read_lines-answer.ensures.answer

pub returns-then-is_err-clause-tables : goal.returns-then-is_err-clause-tables
returns-then-is_err-clause-tables c =
    let read = c.read_lines-answer.ensures in
    let left = refused-left c.clear.ensures.cleared read.answer read.tables (sym c.if-is_err.ensures.value)
    c.clear-then-is_err.ensures.cleared in
    lent-same left (search rules) (search rules) (search rules) (search rules)

pub returns-else-is_err-clause-answer : goal.returns-else-is_err-clause-answer
returns-else-is_err-clause-answer c = read-answer c.clear.ensures.cleared _ c.read_lines-answer.ensures.answer

pub returns-else-is_err-clause-tables : goal.returns-else-is_err-clause-tables
returns-else-is_err-clause-tables c =
    let read = c.read_lines-answer.ensures in
    let left = accepted-left c.clear.ensures.cleared read.answer read.tables (sym c.if-is_err.ensures.value) in
    lent-same left (search rules) (search rules) (search rules) (search rules)
