-- `reader::read` meets its contract: the table is cleared before reading, and again where it refuses.
use Rattle.std.proofs.Common.{rules, ◌≡◌, sym, length}
use Rattle.definitions.specs.Lists.{cleared}
use Rattle.words.specs.Laws.Answering.{accepted-left, refused-left}
use Rattle.words.proofs.reader.read.Goals as goal

pub returns-then-is_err-clause-words : goal.returns-then-is_err-clause-words
returns-then-is_err-clause-words c =
    let first : c.fill.new.self ≡ cleared (length c.args.words.now) = search rules in
    let again : c.fill-then-is_err.new.self ≡ cleared (length c.read_lines-answer.new.words) = search rules in
    refused-left c.args.words.now first c.read_lines-answer.ensures.answer c.read_lines-answer.ensures.words
    (sym c.if-is_err.ensures.value) again

pub returns-else-is_err-clause-words : goal.returns-else-is_err-clause-words
returns-else-is_err-clause-words c =
    let first : c.fill.new.self ≡ cleared (length c.args.words.now) = search rules in
    accepted-left c.args.words.now first c.read_lines-answer.ensures.answer c.read_lines-answer.ensures.words
    (sym c.if-is_err.ensures.value)
