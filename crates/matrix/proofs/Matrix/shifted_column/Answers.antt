-- `shifted_column` meets its contract, by where the column stands.
use mathlib.Core.Path.{◌≡◌}
use native.Mathlib.Numerals.{add-one}
use native.Mathlib.Omega.{arith}
use lib.ListN.{length}
use Rattle.matrix.specs.Laws.Shapes.{shifted-last, shifted-beyond, shifted_end, shifted_next}
use borrow.Author.Rules.{rules}
use Rattle.matrix.proofs.Matrix.shifted_column.Goals as goal

pub returns-then-column-last : goal.returns-then-column-last
returns-then-column-last c = shifted-last _ _ _ _ (search rules)

pub returns-then-last-column : goal.returns-then-last-column
returns-then-last-column c = shifted-beyond _ _ _ _ (search rules)

pub returns-then-column-eq6 : goal.returns-then-column-eq6
returns-then-column-eq6 c =
    let a = c.args in
    let sized : length a.self.columns ≡ 7 = search rules in
    shifted_end _ _ _ _ (search rules) (omega (arith, sized, c.if-column-eq6.true))

pub returns-else-column-eq6 : goal.returns-else-column-eq6
returns-else-column-eq6 c =
    rw add-one (shifted_next _ _ _ _ (search rules))
