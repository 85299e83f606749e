-- `ends_here` meets its contract: `all` is `every`.
use Rattle.std.proofs.Common.{rules, ◌≡◌, ◌∙◌, sym, ◌+◌, ◌*◌, take, drop}
use Rattle.std.specs.List.{list_all}
use Rattle.std.proofs.lemmas.Iterator.{YieldsList-from_slice, YieldsList-from_take}
use Rattle.std.proofs.lemmas.Iterator.Adapters.{YieldsList-from_skip}
use Rattle.std.proofs.lemmas.Iterator.Search.{all_from_yields_List}
use Rattle.definitions.specs.PhoneSets.{has}
use Rattle.definitions.specs.Matrices.{ends_here}
use Rattle.lines.specs.Laws.Chains.{every_is}
use Rattle.matrix.proofs.Matrix.ends_here.Goals as goal

pub returns : goal.returns
unfolding ends_here
returns c =
    let a = c.args in
    let all : c.all.result ≡ list_all (has 1) (drop (a.half + 1) (take (2 * a.half + 1) a.self.columns)) =
    all_from_yields_List (has 1) _ _ _ c.all.ensures.ran
    (YieldsList-from_skip (a.half + 1)
    (YieldsList-from_take (2 * a.half + 1) (YieldsList-from_slice a.self.columns (search rules)) (search rules)) (search rules))
    (λ x b q k. search rules) in
    all ∙ sym (every_is (has 1) (drop (a.half + 1) (take (2 * a.half + 1) a.self.columns)))
