-- `building::build_read` meets its contract: what the build leaves, and the tables cleared where it refuses.
use Rattle.definitions.specs.Tables.{Tables}
use Rattle.tables.specs.Lending.{lent_tables}
use Rattle.builder.specs.Laws.Keeping.{left-kept, clear-kept}
use Rattle.std.proofs.Common.{rules, sym}
use Rattle.builder.proofs.building.build_read.Goals as goal
use Rattle.builder.proofs.building.build_read.Goals.{After-build-built}

abbrev tables : goal.After-build-built → Tables
tables c =
    let a = c.args in
    lent_tables a.nodes.now a.classes.now a.roots.now a.plains.now

pub returns-else-is_err : goal.returns-else-is_err
returns-else-is_err c =
    let k = left-kept _ _ (tables (goal.at.returns-else-is_err c).After-build-built) c.build-built.ensures.answer
    (sym c.if-is_err.ensures.value) in
    record { answer = c.build-built.ensures.answer; tables = k; leaves = c.build-built.ensures.leaves }

pub returns-then-is_err : goal.returns-then-is_err
returns-then-is_err c =
    let k = clear-kept _ _ (tables (goal.at.returns-then-is_err c).After-build-built) c.build-built.ensures.answer
    (sym c.if-is_err.ensures.value) _ _ _ _ (search rules) (search rules) (search rules) (search rules) in
    record { answer = c.build-built.ensures.answer; tables = k; leaves = c.build-built.ensures.leaves }
