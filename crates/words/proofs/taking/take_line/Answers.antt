-- `taking::take_line` meets its contract, by what becomes of the line.
use Rattle.std.proofs.Common.{◌≡◌, refl, sym, ap, ◌∙◌, rules, Ok, Err}
use Rattle.definitions.specs.declared.Fault.TheVariants.{Misprint}
use Rattle.definitions.specs.Forms.{word_forms}
use Rattle.definitions.specs.WordBooks.{WordLine, word_line}
use Rattle.lines.specs.Judging.{taken_by}
use Rattle.lines.specs.Laws.Rows.{none-parsed, some-parsed, whole_row}
use Rattle.lines.specs.Laws.Judging.{verdict-misprint, verdict-line}
use Rattle.words.specs.Entries.{entry_line, entry_of}
use Rattle.words.specs.Taking.{verdict_in, words_taken}
use Rattle.words.specs.Laws.Taking.{step-failed, step-passed, verdict-fits}
use Rattle.words.proofs.taking.take_line.Goals as goal
use Rattle.words.proofs.taking.take_line.Goals.{After-judge_line}

-- the verdict on the line is what its tests gave
verdict : (c : goal.After-judge_line) → let a = c.args in
    verdict_in (entry_line a.last) a.bytes.now ≡ c.judge_line.result
verdict c =
    verdict-line _ _ _ refl (some-parsed _ (sym c.in_ok-row.ensures.ok_part ∙ c.parse.ensures))
    ∙ rw (← c.entry_of-line.ensures) (sym c.judge_line.ensures)

-- the line that the bytes are taken for is what the row says
said : (c : goal.After-judge_line)
    → entry_line c.entry_of-line.result ≡ taken_by word_forms word_line c.args.bytes.now
said c = rw (sym c.parse.ensures ∙ c.in_ok-row.ensures.ok_part) c.entry_of-line.ensures

pub returns-in_err-row-clause-step : goal.returns-in_err-row-clause-step
returns-in_err-row-clause-step c =
    let unformed = none-parsed _ (sym c.in_err-row.ensures.ok_part ∙ c.parse.ensures) in
    let z : c.from_residual.result ≡ Err Misprint = search rules in
    z ∙ step-failed _ _ (verdict-misprint _ _ _ refl unformed)

pub returns-in_err-row-clause-words : goal.returns-in_err-row-clause-words
unfolding words_taken
returns-in_err-row-clause-words c =
    let z : c.from_residual.result ≡ Err Misprint = search rules in
    rw z refl

pub entry_of-line-requires : goal.entry_of-line-requires
entry_of-line-requires c = whole_row _ (sym c.in_ok-row.ensures.ok_part ∙ c.parse.ensures)

pub returns-in_err-judge_line-clause-step : goal.returns-in_err-judge_line-clause-step
returns-in_err-judge_line-clause-step c =
    let z : c.from_residual-in_err-judge_line.result ≡ Err c.in_err-judge_line.field-0.0 = search rules in
    z ∙ step-failed _ _ (verdict (goal.at.returns-in_err-judge_line-clause-step c).After-judge_line ∙ c.in_err-judge_line.was)

pub returns-in_err-judge_line-clause-words : goal.returns-in_err-judge_line-clause-words
unfolding words_taken
returns-in_err-judge_line-clause-words c =
    let z : c.from_residual-in_err-judge_line.result ≡ Err c.in_err-judge_line.field-0.0 = search rules in
    rw z refl

pub store-requires : goal.store-requires
store-requires c =
    let at = (goal.at.store-requires c).After-judge_line in
    let fits = verdict-fits _ _ (verdict at ∙ c.in_ok-judge_line.was) in
    let place = ap (λ (line : WordLine). line.place) (said at) in
    rw place (fits.place_range.low, fits.place_range.high)

pub returns-clause-step : goal.returns-clause-step
returns-clause-step c =
    let at = (goal.at.returns-clause-step c).After-judge_line in
    ap (λ (line : WordLine). Ok (entry_of line)) (said at) ∙ step-passed _ _ (verdict at ∙ c.in_ok-judge_line.was)

pub returns-clause-words : goal.returns-clause-words
unfolding words_taken
returns-clause-words c = c.store.ensures
