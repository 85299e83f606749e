-- `parsing::field_at` meets its contract: the bytes of a field, fewer where the line ends in it.
use mathlib.Core.Path.{refl, sym, ◌∙◌}
use Rattle.lines.specs.Rows.{field_in}
use Rattle.lines.specs.Laws.Parsing.{field-beyond, field_cut, field-whole}
use Rattle.lines.proofs.parsing.field_at.Goals as goal

pub returns-then-bytes-from : goal.returns-then-bytes-from
unfolding field_in
returns-then-bytes-from c = sym (field-beyond _ _ _ refl c.if-bytes-from.true)

pub returns-then-bytes-end : goal.returns-then-bytes-end
returns-then-bytes-end c = c.read_field.ensures ∙ field_cut _ _ _ refl c.if-bytes-end.true

pub returns : goal.returns
returns c = c.read_field-2.ensures ∙ field-whole _ _ _ refl _ refl
