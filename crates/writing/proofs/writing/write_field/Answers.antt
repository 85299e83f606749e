-- `writing::write_field` meets its contract: the six bytes are those of the field in the text of all five.
use mathlib.Core.Path.{◌≡◌, ◌∙◌}
use native.Mathlib.Omega.{arith}
use lib.ListN.{length}
use Rattle.writing.specs.Laws.WrittenLines.{row_number, number-field, blank-field}
use borrow.Author.Rules.{rules}
use Rattle.writing.proofs.writing.write_field.Goals as goal

pub write_number-requires : goal.write_number-requires
write_number-requires c =
    let five : length c.args.row.now.numbers ≡ 5 = search rules in
    (row_number c.args.row.now c.requires.0 five c.args.field (omega arith), c.requires.2)

pub returns-then-field-row : goal.returns-then-field-row
returns-then-field-row c =
    let five : length c.args.row.now.numbers ≡ 5 = search rules in
    c.write_number.ensures
    ∙ number-field c.args.row.now c.requires.0 five c.args.field (omega arith)

pub returns-else-field-row : goal.returns-else-field-row
returns-else-field-row c =
    let five : length c.args.row.now.numbers ≡ 5 = search rules in
    let blank = blank-field c.args.row.now c.requires.0 five c.args.field in
    c.fill.ensures.after (λ y e. e) ∙ rw c.requires.2 (blank (omega arith) (omega arith))
