-- `fields::read_field` meets its contract: its digits stand after its spaces.
use native.Mathlib.Omega.{arith}
use Rattle.lines.specs.Laws.Fields.{field-read}
use Rattle.lines.proofs.fields.read_field.Goals as goal

pub digits-requires : goal.digits-requires
digits-requires c = omega (arith, c.after_spaces.ensures.within, c.requires)

pub returns : goal.returns
returns c = field-read _ _ c.after_spaces.ensures.found c.digits.ensures
