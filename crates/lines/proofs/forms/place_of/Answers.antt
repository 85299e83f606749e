-- `forms::place_of` meets its contract. The loop's invariant: the letter is not before `place`.
use mathlib.Core.Path.{ap, sym, ◌∙◌}
use native.Mathlib.Omega.{arith}
use Rattle.definitions.specs.Lines.{form_of}
use Rattle.lines.specs.Laws.Tables.{letter-found, letter-passed, letter-nowhere}
use Rattle.lines.proofs.forms.place_of.Goals as goal

pub returns-then-place-letter : goal.returns-then-place-letter
returns-then-place-letter c =
    let placed = c.places_of-places.ensures in
    let found = letter-found _ _ _ c.loop-place-test.true placed.within c.if-place-letter.true in
    (omega (arith, placed.within, c.loop-place-test.true), found ∙ sym c.loop-place.invariant ∙ sym (ap (λ f. form_of f c.args.letter) placed.tables))

pub loop-place-preserved : goal.loop-place-preserved
loop-place-preserved c =
    c.loop-place.invariant
    ∙ letter-passed _ _ _ c.loop-place-test.true c.places_of-places.ensures.within c.if-place-letter.false

pub returns : goal.returns
returns c =
    ap (λ f. form_of f c.args.letter) c.places_of-places.ensures.tables
    ∙ c.loop-place.invariant ∙ letter-nowhere _ _ _ c.loop-place-test.false
