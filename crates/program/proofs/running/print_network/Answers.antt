-- `running::print_network` meets its contract: a known network is not refused, since its text has room.
use Rattle.std.proofs.Common.{◌∙◌, ap}
use Rattle.program.specs.Laws.Printing.{network-prints}
use Rattle.program.proofs.running.print_network.Goals as goal

pub returns : goal.returns
returns c =
    rw c.unwrap_or.ensures
    (network-prints c.args.counts c.args.arcs.now c.args.output.now
    c.requires.0 c.requires.1 c.requires.2 _ _ c.write.ensures.answer c.write.ensures.leaves)
