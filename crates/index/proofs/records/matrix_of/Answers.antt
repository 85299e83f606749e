-- `records::matrix_of` meets its contract: the words of the record from the fourth on.
use mathlib.Core.Path.{ap, ◌∙◌}
use mathlib.Core.List.{List}
use Prim.Native.Nat.{ℕ}
use lib.ListN.{drop}
use Rattle.definitions.specs.Combinations.{combination_size}
use Rattle.matrix.specs.Words.{first_seven}
use Rattle.index.specs.RecordWords.{IsRecord}
use Rattle.index.specs.Laws.CutRecords.{cut-within, cut-is}
use Rattle.index.proofs.records.matrix_of.Goals as goal
use Rattle.index.proofs.records.matrix_of.Goals.{After-record_at}

-- the record that is cut out
own : (c : goal.After-record_at)
    → IsRecord (combination_size c.args.half)
    c.args.combinations.now
    c.args.number c.record_at.result.now
own c = cut-is c.combination_size.ensures c.record_at.ensures

pub record_at-requires : goal.record_at-requires
record_at-requires c =
    cut-within c.combination_size.ensures c.args.combinations.now c.args.number
    c.requires

pub returns : goal.returns
returns c = c.matrix_at.ensures ∙ ap (λ (l : List ℕ). first_seven (drop 4 l)) (own (goal.at.returns c).After-record_at).is
