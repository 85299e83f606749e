-- `collecting::take_leaf` meets its contract: the eight words at the place are written over by the node and the
-- seven words after its mark, and the mark is 0.
use mathlib.Core.Path.{refl, ◌∙◌}
use Rattle.leafsets.specs.Laws.CollectingLeaves.{leaf-copied}
use Rattle.leafsets.proofs.collecting.take_leaf.Goals as goal

pub returns : goal.returns
returns c =
    let a = c.args in record {
      table = refl;
      list = c.put_numbered.ensures
          ∙ leaf-copied a.table.now a.node c.requires.0 a.list.now a.place c.requires.1
          c.whole_matrix-m.ensures;
    }
