-- `reader::read` meets its contract: the arcs are cleared before reading, and again where it refuses.
use Rattle.std.proofs.Common.{rules, ◌≡◌, sym, length}
use Rattle.definitions.specs.Lists.{cleared}
use Rattle.nettext.specs.Laws.Answering.{accepted-left, refused-left}
use Rattle.nettext.proofs.reader.read.Goals as goal

pub returns-then-is_err-clause-arcs : goal.returns-then-is_err-clause-arcs
returns-then-is_err-clause-arcs c =
    let first : c.fill.new.self ≡ cleared (length c.args.arcs.now) = search rules in
    let again : c.fill-then-is_err.new.self ≡ cleared (length c.read_lines-answer.new.arcs) = search rules in
    refused-left c.args.arcs.now first c.read_lines-answer.ensures.answer c.read_lines-answer.ensures.arcs
    (sym c.if-is_err.ensures.value) again

pub returns-else-is_err-clause-arcs : goal.returns-else-is_err-clause-arcs
returns-else-is_err-clause-arcs c =
    let first : c.fill.new.self ≡ cleared (length c.args.arcs.now) = search rules in
    accepted-left c.args.arcs.now first c.read_lines-answer.ensures.answer c.read_lines-answer.ensures.arcs
    (sym c.if-is_err.ensures.value)
