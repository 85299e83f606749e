-- `running::print_refusal` meets its contract: a row that fits a line is written into the empty output.
use Rattle.program.specs.Laws.Printing.{refusal-prints}
use Rattle.program.proofs.running.print_refusal.Goals as goal

pub returns : goal.returns
returns c =
    refusal-prints c.args.refusal _ c.args.output.now _ _ c.requires.0 c.requires.1
    c.into.ensures c.write.ensures.answer c.write.ensures.leaves
