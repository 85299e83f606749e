-- Document 02, P3, on small matrices: how many columns a meeting meets, and then the seven words of its matrix.
use Rattle.std.specs.Prelude.{refl, List, [], ◌∷◌}
use Rattle.definitions.specs.Matrices.{Matrix}
use Rattle.definitions.specs.Meeting.{columns_met, met_words}
use Rattle.definitions.proofs.Examples.Everything.{everything}
use Rattle.definitions.proofs.Examples.Example.{Result, gives, Case, ◌is◌, Holds, example}

meeting : Matrix → Matrix → Result
meeting m n = gives (columns_met m n ∷ met_words m n)

pub meetings : List Case
meetings =
    -- three columns, none empty
    meeting (3 ∷ 1 ∷ 7 ∷ []) (3 ∷ 1 ∷ 5 ∷ []) is gives (3 ∷ 3 ∷ 1 ∷ 5 ∷ 0 ∷ 0 ∷ 0 ∷ 0 ∷ [])
    -- "the empty one counted": all three are met here too, but the last is empty
    ∷ meeting (3 ∷ 1 ∷ 1 ∷ []) (3 ∷ 1 ∷ 2 ∷ []) is gives (3 ∷ 0 ∷ 0 ∷ 0 ∷ 0 ∷ 0 ∷ 0 ∷ 0 ∷ [])
    -- "end at the first empty column"
    ∷ meeting (3 ∷ 1 ∷ 1 ∷ []) (3 ∷ 2 ∷ 2 ∷ []) is gives (2 ∷ 0 ∷ 0 ∷ 0 ∷ 0 ∷ 0 ∷ 0 ∷ 0 ∷ [])
    ∷ meeting (1 ∷ 3 ∷ 3 ∷ 3 ∷ 3 ∷ []) (2 ∷ 3 ∷ 3 ∷ 3 ∷ 3 ∷ []) is gives (1 ∷ 0 ∷ 0 ∷ 0 ∷ 0 ∷ 0 ∷ 0 ∷ 0 ∷ [])
    -- one column and seven
    ∷ meeting (3 ∷ []) (2 ∷ []) is gives (1 ∷ 2 ∷ 0 ∷ 0 ∷ 0 ∷ 0 ∷ 0 ∷ 0 ∷ [])
    ∷ meeting (6 ∷ 6 ∷ 6 ∷ 6 ∷ 6 ∷ 6 ∷ 6 ∷ []) (3 ∷ 3 ∷ 3 ∷ 3 ∷ 3 ∷ 3 ∷ 3 ∷ [])
    is gives (7 ∷ 2 ∷ 2 ∷ 2 ∷ 2 ∷ 2 ∷ 2 ∷ 2 ∷ [])
    ∷ []

pub met : Holds meetings
unfolding everything example meeting meetings
met = (refl, (refl, (refl, (refl, (refl, (refl, tt))))))
