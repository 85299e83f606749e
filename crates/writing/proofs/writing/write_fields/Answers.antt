-- `writing::write_fields` meets its contract. The loop's invariant: the fields before `field` are written, the
-- other bytes as they were.
use mathlib.Core.Path.{◌≡◌, sym, ◌∙◌}
use mathlib.Core.List.{List}
use Prim.Native.Nat.{ℕ}
use native.Mathlib.Omega.{arith}
use lib.ListN.{length}
use Rattle.lines.specs.Rows.{line_in}
use Rattle.lines.specs.Laws.Filling.{filled-end}
use Rattle.writing.specs.Writing.{fields_text}
use Rattle.writing.specs.Laws.WrittenLines.{row-length, part-put}
use borrow.Author.Rules.{rules}
use Rattle.writing.proofs.writing.write_fields.Goals as goal

pub loop-field-preserved : goal.loop-field-preserved
loop-field-preserved c =
    let at = c.loop-field in
    let text : List ℕ = fields_text (line_in c.args.row).numbers in
    let five : length c.args.row.numbers ≡ 5 = search rules in
    let size : length text ≡ 30 = row-length c.args.row c.requires.0 five in
    let part = c.write_field in
    let put = part-put 6 at.field text c.args.bytes.now at.bytes part.new.bytes in
    record {
      within = omega arith;
      sized = search rules;
      holds = put (omega arith) at.invariant.holds part.ensures;
    }

pub returns : goal.returns
returns c =
    let five : length c.args.row.numbers ≡ 5 = search rules in
    let size = row-length c.args.row c.requires.0 five in
    filled-end (size ∙ sym c.requires.1) c.loop-field.invariant (search rules)
