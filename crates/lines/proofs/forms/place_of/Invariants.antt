-- `forms::place_of` meets its contract. The loop's invariant: the letter is not before `place`.
use mathlib.Core.Path.{◌≡◌}
use Rattle.definitions.specs.Lines.{form_of}
use Rattle.lines.specs.Places.{forms_between}
use Rattle.lines.proofs.forms.place_of.Given as goal

abbrev pub invariant-loop-place : goal.invariant-loop-place
invariant-loop-place l =
    form_of (forms_between l.initial.place l.place-end) l.letter ≡ form_of (forms_between l.place l.place-end) l.letter
