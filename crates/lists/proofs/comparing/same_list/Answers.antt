-- `comparing::same_list` meets its contract: from the first column on the matrices are whole.
use mathlib.Core.Path.{ap₂, ◌∙◌}
use Rattle.definitions.specs.MatrixLists.{same_list}
use Rattle.lists.specs.Laws.Comparing.{drop-none}
use Rattle.lists.proofs.comparing.same_list.Goals as goal

pub returns : goal.returns
returns c =
    c.same_beyond.ensures ∙ ap₂ same_list (drop-none _) (drop-none _)
