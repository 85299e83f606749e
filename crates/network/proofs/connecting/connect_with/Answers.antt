-- `connecting::connect_with` meets its contract: the words that it makes are cleared, and there are enough of them.
use Rattle.std.proofs.Common.{arith}
use Rattle.std.proofs.lemmas.Result.{err_from_is_err_and}
use Rattle.network.specs.Laws.Connecting.{cleared-workspace, fillable, startable, start_between, connected}
use Rattle.network.specs.Laws.Connecting.{start-refused}
use Rattle.network.proofs.connecting.connect_with.Goals as goal

pub fill_index-requires : goal.fill_index-requires
fill_index-requires g c = let (given, enough) = c.requires in fillable given (cleared-workspace enough)

pub whole_as_slice-start : goal.whole_as_slice-start
whole_as_slice-start g c = let (_, enough) = c.requires in omega (arith, enough.chains_small)

pub start-requires : goal.start-requires
start-requires g c =
    let (given, enough) = c.requires in startable given (cleared-workspace enough) c.fill_index.ensures

pub returns-in_err-sizes : goal.returns-in_err-sizes
returns-in_err-sizes g c =
    let (given, enough) = c.requires in
    let p = err_from_is_err_and c.from_residual.result c.from_residual.ensures.1 in
    rw (p.1, p.2)
    (start-refused (startable given (cleared-workspace enough) c.fill_index.ensures) c.start.ensures c.args.limit
    c.in_err-sizes.was)

pub whole_as_slice-take_turns : goal.whole_as_slice-take_turns
whole_as_slice-take_turns g c = let (_, enough) = c.requires in omega (arith, enough.chains_small)

pub whole_as_slice-take_turns-2 : goal.whole_as_slice-take_turns-2
whole_as_slice-take_turns-2 g c = let (_, enough) = c.requires in omega (arith, enough.spans_small)

pub take_turns-requires : goal.take_turns-requires
take_turns-requires g c =
    let (given, enough) = c.requires in
    start_between (startable given (cleared-workspace enough) c.fill_index.ensures) c.start.ensures c.in_ok-sizes.was
    (cleared-workspace enough)

pub returns : goal.returns
returns g c =
    let (given, enough) = c.requires in
    connected (startable given (cleared-workspace enough) c.fill_index.ensures) c.start.ensures c.in_ok-sizes.was c.args.limit
    c.take_turns.ensures
