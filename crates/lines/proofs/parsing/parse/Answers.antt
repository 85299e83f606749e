-- `parsing::parse` meets its contract. The loop's invariant: `numbers` has the entries before `field`.
use mathlib.Core.Path.{◌≡◌, refl, ap, sym, ◌∙◌}
use native.Mathlib.Omega.{arith}
use lib.ListN.{length}
use Rattle.std.specs.Prelude.{option_copied, Some, None}
use Rattle.std.specs.List.{slice_get}
use Rattle.std.proofs.lemmas.Option.{MatchOption-at_none, MatchOption-at_some}
use Rattle.definitions.specs.Lists.{◌!◌}
use Rattle.definitions.specs.Lines.{form_of}
use Rattle.lines.specs.Rows.{forms_of, option_of}
use Rattle.lines.specs.Places.{form_at}
use Rattle.lines.specs.Laws.Rows.{no-letter, the-letter, of-none, of-some}
use Rattle.lines.specs.Laws.Parsing.{Letter, entries-start, entry_found, entry-wrong}
use Rattle.lines.specs.Laws.Parsing.{entries-end, parsed-empty, parsed-unknown, parsed-wrong, parsed-row}
use Rattle.lines.proofs.parsing.parse.Goals as goal
use Rattle.lines.proofs.parsing.parse.Goals.{In_ok-letter, After-used_at-used}

pub returns-in_err-letter : goal.returns-in_err-letter
unfolding option_of
returns-in_err-letter c =
    let none-there = sym c.first.ensures.value ∙ ap option_copied c.in_err-letter.was in
    c.from_residual.ensures ∙ sym (parsed-empty c.args.letters c.args.bytes.now (no-letter _ none-there))

-- the line's letter
its : (c : goal.In_ok-letter) → c.in_ok-letter.field-0.now ≡ c.args.bytes.now ! 0
its c = the-letter _ (sym c.first.ensures.value ∙ ap option_copied c.in_ok-letter.was)

pub returns-in_err-place : goal.returns-in_err-place
unfolding option_of
returns-in_err-place c =
    let unknown = ap (form_of (forms_of c.args.letters)) (sym (its (goal.at.returns-in_err-place c).In_ok-letter)) ∙ c.in_err-place.ensures in
    c.from_residual-in_err-place.ensures ∙ sym (parsed-unknown _ _ unknown)

pub loop-field-init : goal.loop-field-init
loop-field-init c = entries-start _ _ _ refl

-- it is known
letter : (c : goal.After-used_at-used)
    → Letter (forms_of c.args.letters) c.args.bytes.now c.in_ok-place.place c.used_at-used.result
letter c =
    let its = the-letter _ (sym c.first.ensures.value ∙ ap option_copied c.in_ok-letter.was) in
    record {
      known = c.in_ok-place.ensures.0;
      found = c.in_ok-place.ensures.1 ∙ ap (form_of (forms_of c.args.letters)) its;
      many = c.used_at-used.ensures;
    }

pub returns-in_err-numbers : goal.returns-in_err-numbers
unfolding option_of
returns-in_err-numbers c =
    let wrong = of-none _ _ (sym c.entry_at.ensures ∙ c.in_err-numbers.was) in
    c.from_residual-in_err-numbers.ensures
    ∙ sym (parsed-wrong (letter (goal.at.returns-in_err-numbers c).After-used_at-used) (entry-wrong c.loop-field.invariant c.loop-field-test.true wrong))

pub loop-field-preserved : goal.loop-field-preserved
loop-field-preserved c =
    entry_found c.loop-field.invariant _ c.loop-field-test.true
    (of-some _ (sym c.entry_at.ensures ∙ c.in_ok-numbers.was))

pub returns : goal.returns
returns c =
    let at = (goal.at.returns c) in
    ap (λ b. Some (record { letter = b; used = c.used_at-used.result; numbers = c.loop-field.numbers })) (its at.In_ok-letter)
    ∙ sym (parsed-row (letter at.After-used_at-used) _ (entries-end c.loop-field.invariant c.loop-field-test.false))
