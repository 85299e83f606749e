-- `forms::used_at` meets its contract: the constant table is the definitions', entry by entry.
use Rattle.lines.specs.Laws.Tables.{used-held}
use Rattle.lines.proofs.forms.used_at.Goals as goal

pub returns : goal.returns
returns c = used-held c.args.place c.requires
