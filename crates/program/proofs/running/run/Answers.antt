-- `running::run` meets its contract: the output begins empty, what is printed has room in it, and enough is read of
-- every input.
use mathlib.Core.Path.{ap}
use Rattle.definitions.specs.Program.{program}
use Rattle.program.specs.Laws.Demand.{prints-demand}
use Rattle.program.specs.Laws.Printing.{cleared-empty, prints-same, prints-fit}
use Rattle.program.specs.Laws.Reading.{prints-input}
use borrow.Author.Rules.{rules}
use Rattle.std.proofs.Common.{◌≡◌, length}
use Rattle.program.proofs.running.run.Goals as goal

pub print_all-length-requires : goal.print_all-length-requires
print_all-length-requires c = cleared-empty

pub returns : goal.returns
returns c =
    let printed = prints-same _ _ _ _ (ap program c.bytes_read.ensures) c.print_all-length.ensures in
    let (sized, fits) = prints-fit _ _ _ printed (search rules) in
    let room : length c.args.buffer.now ≡ 65537 = search rules in
    let whole = prints-input c.args.buffer.now c.args.got _ _ room printed in
    record { prints = printed; demand = prints-demand _ _ _ printed; fits = (sized, fits); whole = whole }
