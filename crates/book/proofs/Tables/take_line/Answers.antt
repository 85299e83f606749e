-- `Tables::take_line` meets its contract, by what becomes of the line.
use Rattle.std.proofs.Common.{◌≡◌, sym, ap, ◌∙◌, rules, Ok, Err}
use Rattle.definitions.specs.declared.Fault.TheVariants.{Misprint}
use Rattle.book.specs.Tables.{lengths_in}
use Rattle.booklines.specs.States.{next_state}
use Rattle.booklines.specs.Entries.{entry_line}
use Rattle.book.specs.Steps.{book_taken, verdict_in, step_of, where_taken}
use Rattle.lines.specs.Laws.Rows.{none-parsed, some-parsed, whole_row}
use Rattle.lines.specs.Laws.Judging.{verdict-full, verdict-misprint, verdict-line}
use Rattle.book.specs.Laws.Finding.{row-taken}
use Rattle.book.specs.Laws.Taking.{step-failed, step-passed}
use Rattle.book.proofs.Tables.take_line.Goals as goal
use Rattle.book.proofs.Tables.take_line.Goals.{After-judge_line}

-- the verdict on the line is what its tests gave
verdict : (c : goal.After-judge_line) → let a = c.args in
    let t = c.args.self.now in
    verdict_in (lengths_in t) a.s a.bytes.now ≡ c.judge_line.result
verdict c =
    verdict-line _ _ _ (sym c.if-full.ensures) (some-parsed _ (sym c.in_ok-row.ensures.ok_part ∙ c.parse.ensures))
    ∙ rw (← c.entry_of-entry.ensures) (sym c.judge_line.ensures)

-- the line that the bytes are taken for is what the row says
said : (c : goal.After-judge_line) → entry_line c.entry_of-entry.result ≡ book_taken c.args.bytes.now
said c = c.entry_of-entry.ensures ∙ sym (row-taken _ (sym c.in_ok-row.ensures.ok_part ∙ c.parse.ensures))

taken : (c : goal.After-judge_line) → c.judge_line.result ≡ Ok tt → let a = c.args in
    let t = c.args.self.now in
    step_of (lengths_in t) a.s a.bytes.now
    ≡ Ok (next_state a.s (book_taken a.bytes.now))
taken c passed = sym (step-passed _ _ _ (verdict c ∙ passed))

pub returns-then-full-clause-step : goal.returns-then-full-clause-step
returns-then-full-clause-step c = step-failed _ _ _ (verdict-full _ _ _ (sym c.if-full.ensures))

pub returns-in_err-row-clause-step : goal.returns-in_err-row-clause-step
returns-in_err-row-clause-step c =
    let unformed = none-parsed _ (sym c.in_err-row.ensures.ok_part ∙ c.parse.ensures) in
    let z : c.from_residual.result ≡ Err Misprint = search rules in
    z ∙ step-failed _ _ _ (verdict-misprint _ _ _ (sym c.if-full.ensures) unformed)

pub entry_of-entry-requires : goal.entry_of-entry-requires
entry_of-entry-requires c = whole_row _ (sym c.in_ok-row.ensures.ok_part ∙ c.parse.ensures)

pub returns-in_err-judge_line-clause-step : goal.returns-in_err-judge_line-clause-step
returns-in_err-judge_line-clause-step c =
    let z : c.from_residual-in_err-judge_line.result ≡ Err c.in_err-judge_line.field-0.0 = search rules in
    z ∙ step-failed _ _ _ (verdict (goal.at.returns-in_err-judge_line-clause-step c).After-judge_line ∙ c.in_err-judge_line.was)

pub store-requires : goal.store-requires
store-requires c =
    let at = (goal.at.store-requires c).After-judge_line in
    rw (said at) (c.requires.room _ (taken at c.in_ok-judge_line.was))

pub next-requires : goal.next-requires
next-requires c =
    let at = (goal.at.next-requires c).After-judge_line in
    (c.requires.counts, rw (said at) (c.requires.phones _ (taken at c.in_ok-judge_line.was)))

pub returns : goal.returns
unfolding where_taken
returns c =
    let at = (goal.at.returns c).After-judge_line in
    let stored = c.store.ensures in
    rw (← said at) (record {
      same = stored.same;
      step = ap (λ (s : _). Ok s) c.next.ensures ∙ rw (said at) (sym (taken at c.in_ok-judge_line.was));
      nodes = stored.nodes;
      classes = stored.classes;
      roots = stored.roots;
      plains = stored.plains;
      counts = stored.counts;
    })
