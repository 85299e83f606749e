-- `walking::put_leaf` meets its contract: the record's eight words are written over.
use mathlib.Core.Path.{◌≡◌, ap, ◌∙◌}
use mathlib.Core.List.{List, ◌∷◌}
use Prim.Native.Nat.{ℕ, ◌*◌}
use native.Mathlib.Omega.{arith}
use lib.ListN.{length}
use Rattle.matrix.specs.Words.{overwritten}
use Rattle.matrix.specs.Laws.Words.{overwritten-there}
use Rattle.leafsets.specs.Leaves.{leaf_size}
use borrow.Author.Rules.{rules}
use Rattle.leafsets.proofs.walking.put_leaf.Goals as goal

pub returns : goal.returns
returns c =
    let a = c.args in
    let row : List ℕ = 1 ∷ a.m.columns in
    let columns : length a.m.columns ≡ 7 = search rules in
    c.put_numbered.ensures
    ∙ ap (λ (n : ℕ). overwritten a.table.now (leaf_size * n) row) c.wide.ensures
    ∙ overwritten-there a.table.now (leaf_size * a.node) row (omega (arith, columns)) c.requires
