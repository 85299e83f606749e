-- `building::build` meets its contract: combining refuses, or what it left is connected.
use Rattle.std.proofs.Common.{rules, ◌≡◌, length}
use Rattle.std.proofs.lemmas.Result.{err_from_is_err_and}
use Rattle.definitions.specs.Lists.{cleared}
use Rattle.network.specs.Laws.Building.{connect-ready, connect-returns, combine-returns}
use Rattle.network.proofs.building.build.Goals as goal
use Rattle.network.proofs.building.build.Goals.{After-fill-2}

-- the words that were cleared
none-metastates : (c : goal.After-fill-2) → c.fill.new.self ≡ cleared (length c.args.metastates.now)
none-metastates c = search rules

none-arcs : (c : goal.After-fill-2) → c.fill-2.new.self ≡ cleared (length c.args.arcs.now)
none-arcs c = search rules

pub returns-in_err-found : goal.returns-in_err-found
returns-in_err-found c =
    let a = c.args in
    let clear = (goal.at.returns-in_err-found c).After-fill-2 in
    let p = err_from_is_err_and c.from_residual.result c.from_residual.ensures.1 in
    let all =
    combine-returns a.header a.nodes.now a.classes.now a.roots.now a.plains.now a.combinations.now a.metastates.now
    a.arcs.now (none-metastates clear) (none-arcs clear) c.combine.ensures.answer c.combine.ensures.leaves a.limit _
    c.in_err-found.was in
    record { answer = rw (p.1, p.2) all.0; leaves = all.1 }

pub connect_in-requires : goal.connect_in-requires
connect_in-requires c =
    let a = c.args in
    let clear = (goal.at.connect_in-requires c).After-fill-2 in
    connect-ready a.header a.nodes.now a.classes.now a.roots.now a.plains.now a.combinations.now a.metastates.now
    a.arcs.now (none-metastates clear) (none-arcs clear) c.combine.ensures.answer c.combine.ensures.leaves _
    c.in_ok-found.was

pub returns : goal.returns
returns c =
    let a = c.args in
    let clear = (goal.at.returns c).After-fill-2 in
    let all =
    connect-returns a.header a.nodes.now a.classes.now a.roots.now a.plains.now a.combinations.now a.metastates.now
    a.arcs.now (none-metastates clear) (none-arcs clear) c.combine.ensures.answer c.combine.ensures.leaves _
    c.in_ok-found.was a.limit c.connect_in.ensures in
    record { answer = all.0; leaves = all.1 }
