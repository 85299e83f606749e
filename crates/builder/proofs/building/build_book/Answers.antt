-- `building::build_book` meets its contract: reading, then building from the tables that it left.
use Rattle.definitions.specs.BookReading.{Lent}
use Rattle.definitions.specs.Building.{Space}
use Rattle.tables.specs.Lending.{lengths_of}
use Rattle.network.specs.Answers.{lent_space}
use Rattle.builder.specs.Laws.Building.{accepted-returns, refused-returns}
use borrow.Author.Rules.{rules}
use Rattle.builder.proofs.building.build_book.Goals as goal
use Rattle.builder.proofs.building.build_book.Goals.{Start}

abbrev lent : goal.Start → Lent
lent c =
    let a = c.args in
    lengths_of a.nodes.now a.classes.now a.roots.now a.plains.now

abbrev space : goal.Start → Space
space c = lent_space c.args.combinations.now c.args.metastates.now c.args.arcs.now

pub returns-in-Ok : goal.returns-in-Ok
returns-in-Ok c =
    let start = (goal.at.returns-in-Ok c).Start in
    let all =
    accepted-returns (lent start) (space start) c.args.limit c.args.text.now
    c.read.ensures.answer c.read.ensures.tables _ c.in-Ok.is _ _ _
    (search rules) (search rules) (search rules) (search rules)
    c.build_read.ensures.answer c.build_read.ensures.tables c.build_read.ensures.leaves in
    record { answer = all.0; tables = all.1.0; leaves = all.1.1.0; demand = all.1.1.1.0; ending = all.1.1.1.1 }

pub returns-in-Err : goal.returns-in-Err
returns-in-Err c =
    let start = (goal.at.returns-in-Err c).Start in
    let all =
    refused-returns (lent start) (space start) c.args.limit c.args.text.now
    c.read.ensures.answer c.read.ensures.tables _ c.in-Err.is _ _ _
    (search rules) (search rules) (search rules) in
    record { answer = all.0; tables = all.1.0; leaves = all.1.1.0; demand = all.1.1.1.0; ending = all.1.1.1.1 }
