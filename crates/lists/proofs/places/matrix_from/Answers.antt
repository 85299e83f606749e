-- `places::matrix_from` meets its contract: the columns stand before zeros.
use Rattle.std.proofs.Common.{◌≡◌, ◌∙◌, sym, ap, arith, ◌++◌, ◌+◌, ◌-◌, take, drop, ℕ, List}
use Rattle.definitions.specs.Lists.{cleared}
use Rattle.definitions.specs.Matrices.{most_columns}
use Rattle.matrix.specs.Shapes.{width_of}
use Rattle.lists.specs.Held.{columns_at}
use Rattle.lists.specs.Laws.Held.{columns-length}
use Rattle.lists.specs.Laws.Values.{over-zeros}
use Rattle.lists.proofs.places.matrix_from.Goals as goal

pub returns : goal.returns
returns c =
    let a = c.args in
    let width = c.width_of-width.result in
    let e = columns-length a.half a.words.now a.from c.requires.1 in
    let size : a.from + width - a.from ≡ width_of a.half = omega arith in
    ap (λ (l : List ℕ). l ++ drop width (cleared most_columns))
    (c.copy_from_slice.ensures.after ∙ ap (λ (n : ℕ). take n (drop a.from a.words.now)) size)
    ∙ over-zeros (columns_at a.half a.words.now a.from) (omega (arith, e)) (c.width_of-width.ensures.0 ∙ sym e)
