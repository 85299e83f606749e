-- `places::matrix_at` meets its contract: the matrix at a place of a list is there.
use Rattle.std.proofs.Common.{refl, sym, ap, ◌∙◌}
use Rattle.definitions.specs.Matrices.{matrix_words}
use Rattle.lists.specs.Laws.Held.{Turn, turn-of}
use Rattle.lists.proofs.places.matrix_at.Goals as goal
use Rattle.lists.proofs.places.matrix_at.Goals.{After-start_of}

turn : (c : goal.After-start_of) → Turn c.args.half c.args.list.now c.args.place c.start_of.result
turn c = turn-of c.requires.0 refl _ c.requires.1 c.start_of.ensures

pub matrix_from-requires : goal.matrix_from-requires
matrix_from-requires c =
    (c.requires.0.space.narrow, (turn (goal.at.matrix_from-requires c).After-start_of).there)

pub returns : goal.returns
returns c =
    c.matrix_from.ensures ∙ ap matrix_words (sym (turn (goal.at.returns c).After-start_of).its)
