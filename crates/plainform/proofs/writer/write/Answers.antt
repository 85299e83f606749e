-- `writer::write` meets its contract: foreign tables and a short buffer are refused; else the lines of the plain
-- form stand before the zeros.
use mathlib.Core.Path.{◌≡◌, ap, ◌∙◌}
use mathlib.Core.Bool.{true}
use Prim.Native.Nat.{ℕ}
use native.Mathlib.Omega.{arith}
use lib.ListN.{length}
use Rattle.std.specs.Prelude.{Err}
use Rattle.definitions.specs.Lists.{cleared}
use Rattle.definitions.specs.Tables.{Tables}
use Rattle.definitions.specs.ForeignTables.{tables_known}
use Rattle.definitions.proofs.Laws.Lists.Tests.{held, failed}
use Rattle.tables.specs.Lending.{lent_tables}
use Rattle.plainform.specs.Laws.Writing.{write-foreign, write-short, write_done}
use Rattle.std.proofs.lemmas.Bool.{not_from_true}
use Rattle.std.proofs.lemmas.Bool.{not_from_false}
use Rattle.plainform.proofs.writer.write.Goals as goal
use Rattle.plainform.proofs.writer.write.Goals.{After-put_plain-count, After-tables_known, Else-not-tables_known}

abbrev lent : goal.After-tables_known → Tables
lent c = let a = c.args in lent_tables a.nodes.now a.classes.now a.roots.now a.plains.now

-- the tables are known where the test did not refuse them
known : (c : goal.Else-not-tables_known)
    → let a = c.args in
    tables_known a.header (lent_tables a.nodes.now a.classes.now a.roots.now a.plains.now) ≡ true
known c = held c.tables_known.ensures (not_from_true _ c.if-not-tables_known.false)

pub returns-then-not-tables_known : goal.returns-then-not-tables_known
returns-then-not-tables_known c =
    let a = c.args in
    let all =
    write-foreign a.header (lent (goal.at.returns-then-not-tables_known c).After-tables_known) (length a.text.now)
    (failed c.tables_known.ensures (not_from_false _ c.if-not-tables_known.true)) (ap Err c.into.ensures)
    (c.fill.ensures.after (λ y e. e)) in
    record { answer = all.0; leaves = all.1 }

-- the text that lines were put into is as long as it was
sized : (c : goal.After-put_plain-count)
    → length c.put_plain-count.new.text ≡ length c.args.text.now
sized c = c.put_plain-count.auto.text ∙ c.fill.auto.self

pub returns-then-text-count : goal.returns-then-text-count
returns-then-text-count c =
    let a = c.args in
    let size = sized (goal.at.returns-then-text-count c).After-put_plain-count in
    let all =
    write-short a.header (lent (goal.at.returns-then-text-count c).After-tables_known)
    (known (goal.at.returns-then-text-count c).Else-not-tables_known) (length a.text.now)
    (c.fill.ensures.after (λ y e. e)) c.put_plain-count.ensures
    (omega (arith, size, c.if-text-count.true)) (ap Err c.into-then-text-count.ensures)
    (c.fill-then-text-count.ensures.after (λ y e. e) ∙ ap (λ (n : ℕ). cleared n) size) in
    record { answer = all.0; leaves = all.1 }

pub returns : goal.returns
returns c =
    let a = c.args in
    let all =
    write_done a.header (lent (goal.at.returns c).After-tables_known) (known (goal.at.returns c).Else-not-tables_known)
    (length a.text.now) (c.fill.ensures.after (λ y e. e)) c.put_plain-count.ensures
    (omega (arith, sized (goal.at.returns c).After-put_plain-count, c.if-text-count.false)) in
    record { answer = all.0; leaves = all.1 }
