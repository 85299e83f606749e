-- `valid` meets its contract: `all` is `every`.
use Rattle.std.proofs.Common.{rules, ◌≡◌, ◌∙◌, sym, take}
use Rattle.std.specs.List.{list_all}
use Rattle.std.proofs.lemmas.Iterator.{YieldsList-from_slice, YieldsList-from_take}
use Rattle.std.proofs.lemmas.Iterator.Search.{all_from_yields_List}
use Rattle.definitions.specs.Matrices.{valid}
use Rattle.lines.specs.Laws.Chains.{every_is}
use Rattle.matrix.specs.Laws.Columns.{some_member}
use Rattle.matrix.proofs.Matrix.valid.Goals as goal

pub returns : goal.returns
unfolding valid
returns c =
    let all : c.all.result ≡ list_all some_member (take c.args.width c.args.self.columns) =
    all_from_yields_List some_member _ _ _ c.all.ensures.ran
    (YieldsList-from_take c.args.width (YieldsList-from_slice c.args.self.columns (search rules)) (search rules))
    (λ x b q k. search rules) in
    all ∙ sym (every_is some_member (take c.args.width c.args.self.columns))
