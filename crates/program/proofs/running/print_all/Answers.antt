-- `running::print_all` meets its contract, by the length of the input.
use mathlib.Core.Path.{ap, sym, ◌∙◌}
use Rattle.definitions.specs.Program.{refusal_text}
use Rattle.definitions.proofs.Laws.Networks.Program.{program-long, program-short}
use Rattle.program.specs.Laws.Printing.{prints-same}
use Rattle.program.proofs.running.print_all.Goals as goal

pub returns-then-input-gt-LONGEST_INPUT : goal.returns-then-input-gt-LONGEST_INPUT
returns-then-input-gt-LONGEST_INPUT c =
    prints-same _ _ _ _
    (ap refusal_text c.into.ensures ∙ sym (program-long c.args.input.now c.if-input-gt-LONGEST_INPUT.true))
    c.print_refusal.ensures

pub returns : goal.returns
returns c =
    prints-same _ _ _ _ (sym (program-short c.args.input.now c.if-input-gt-LONGEST_INPUT.false))
    c.print_built.ensures
