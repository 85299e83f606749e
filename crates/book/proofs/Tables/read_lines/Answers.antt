-- `Tables::read_lines` meets its contract. The loop's invariant: the first `i` lines were taken.
use Rattle.std.proofs.Common.{ap, sym, ◌∙◌, arith, Err}
use Rattle.definitions.specs.declared.Refusal.{Refusal}
use Rattle.lines.specs.Laws.Judging.{next-bytes}
use Rattle.book.specs.Laws.Reading.{first-turn, turn-ready, turn-endable, turn-next, torn-returns}
use Rattle.book.specs.Laws.Reading.{stop-returns, end_returns}
use Rattle.book.specs.Tables.{same-itself, same-further}
use Rattle.book.proofs.Tables.read_lines.Goals as goal

pub returns-then-not-whole_lines : goal.returns-then-not-whole_lines
returns-then-not-whole_lines c =
    let all = torn-returns _ _ _ _ _ (sym c.if-not-whole_lines.ensures) in
    record { same = same-itself _; answer = ap (λ (r : Refusal). Err r) c.into.ensures ∙ all.0; tables = all.1 }

pub loop-i-init : goal.loop-i-init
loop-i-init c = record {
  same = same-itself _;
  taken = first-turn _ _ _ _ _ _ (sym c.if-not-whole_lines.ensures) c.new-state.ensures c.requires;
}

pub take_line-requires : goal.take_line-requires
take_line-requires c =
    let at = c.loop-i in
    turn-ready at.invariant.taken _ (next-bytes _ at.i) c.loop-i-test.true (omega arith)

pub returns-in-Err : goal.returns-in-Err
returns-in-Err c =
    let at = c.loop-i in
    let taken = c.take_line.ensures in
    let all = stop-returns at.invariant.taken _ _ _ _ _ _ _ (next-bytes _ at.i) c.loop-i-test.true taken.step c.in-Err.is
    taken.nodes taken.classes taken.roots taken.plains in
    record {
      same = same-further taken.same at.invariant.same;
      answer = ap (λ (r : Refusal). Err r) c.at.ensures ∙ all.0;
      tables = all.1;
    }

pub loop-i-preserved : goal.loop-i-preserved
loop-i-preserved c =
    let at = c.loop-i in
    let taken = c.take_line.ensures in
    record {
      same = same-further taken.same at.invariant.same;
      taken = turn-next at.invariant.taken _ _ _ _ _ _ _ _ (next-bytes _ at.i) c.loop-i-test.true taken.step c.in-Ok.is
          taken.nodes taken.classes taken.roots taken.plains taken.counts;
    }

pub finish-requires : goal.finish-requires
finish-requires c = turn-endable c.loop-i.invariant.taken (omega arith)

pub returns : goal.returns
returns c =
    let all = end_returns c.loop-i.invariant.taken _ c.loop-i-test.false c.finish.ensures in
    record { same = c.loop-i.invariant.same; answer = all.0; tables = all.1 }
