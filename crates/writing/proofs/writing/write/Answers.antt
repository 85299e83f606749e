-- `writing::write` meets its contract: the letter, the five fields and the line feed are the line.
use Rattle.std.proofs.Common.{arith}
use Rattle.writing.specs.Laws.WrittenLines.{line-put}
use Rattle.writing.proofs.writing.write.Goals as goal

pub returns-clause-leaves : goal.returns-clause-leaves
returns-clause-leaves c =
    let a = c.args in
    let part = c.write_fields in
    line-put a.row a.bytes.now part.new.bytes (omega arith) part.auto.bytes part.ensures
