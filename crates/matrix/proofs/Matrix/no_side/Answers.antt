-- `no_side` meets its contract: the cut by what is not in the class.
use Rattle.std.proofs.Common.{rules, ◌∙◌, Fits, w64}
use Rattle.definitions.specs.Lists.{◌!◌}
use Rattle.matrix.specs.Laws.Columns.{no_cut}
use Rattle.matrix.proofs.Matrix.no_side.Goals as goal

pub returns : goal.returns
returns c =
    let a = c.args in
    let word : Fits w64 (a.self.columns ! a.position) = search rules in
    c.cut.ensures ∙ no_cut a.position a.class a.self.columns word.fits c.ranges.class.fits
