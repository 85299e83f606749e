-- `taking::finish` meets its contract, by what is missing, chained or misnamed.
use Rattle.std.proofs.Common.{refl, sym, ap, ◌∙◌, rules, arith, take, Err}
use Rattle.std.proofs.Math.Seq.{length-take-le}
use Rattle.definitions.specs.declared.Refusal.{Refusal}
use Rattle.definitions.specs.Lists.{at_least_one}
use Rattle.definitions.specs.BookLines.{node_line_in, boundary_in}
use Rattle.definitions.specs.BookReading.{is_line_of}
use Rattle.tables.specs.Naming.{first_misnamed}
use Rattle.tables.specs.Laws.Naming.{misnamed-some, misnamed-none}
use Rattle.book.specs.Steps.{names_plain_in}
use Rattle.book.specs.Laws.Taking.{finish-early, finish-chained, finish-orphan, finish-fine}
use Rattle.book.proofs.taking.finish.Goals as goal

pub returns-then-not-enough : goal.returns-then-not-enough
returns-then-not-enough c = ap (λ (r : Refusal). Err r) c.at.ensures ∙ finish-early _ _ _ (sym c.if-not-enough.ensures)

pub returns-then-chained : goal.returns-then-chained
unfolding names_plain_in boundary_in at_least_one
returns-then-chained c =
    let line = c.line_where-line.ensures (names_plain_in c.args.s.boundaries) (record { answers = λ entry answer post. search rules; misprint = refl }) in
    ap (λ (r : Refusal). Err r) (rw line at c.at-then-chained.ensures)
    ∙ finish-chained _ _ _ (sym c.if-not-enough.ensures) (sym c.if-chained.ensures)

pub returns-in-Some : goal.returns-in-Some
unfolding is_line_of node_line_in at_least_one
returns-in-Some c =
    let line = c.line_where-line-in-Some.ensures (is_line_of c.in-Some.node) (record { answers = λ entry answer post. search rules; misprint = refl }) in
    let (first, low) = misnamed-some (take c.wide.result c.args.counts.now) (sym c.first_misnamed.ensures ∙ c.in-Some.is) in
    ap (λ (r : Refusal). Err r) (rw line at c.at-in-Some.ensures)
    ∙ finish-orphan _ _ _ _ (sym c.if-not-enough.ensures) (sym c.if-chained.ensures) (rw c.wide.ensures at first)
    (omega (arith, low, length-take-le c.wide.result c.args.counts.now (omega arith)))

pub returns : goal.returns
returns c =
    let none = misnamed-none (take c.wide.result c.args.counts.now) (sym c.first_misnamed.ensures ∙ c.in_default.is) in
    let size = length-take-le c.wide.result c.args.counts.now (omega arith) in
    finish-fine _ _ _ (first_misnamed (take c.args.s.nodes c.args.counts.now)) (sym c.if-not-enough.ensures) (sym c.if-chained.ensures) refl
    (omega (arith, rw c.wide.ensures at (none ∙ size)))
