-- `records::phone_of` meets its contract: the first word of the record.
use mathlib.Core.Path.{ap}
use mathlib.Core.List.{List}
use Prim.Native.Nat.{ℕ}
use native.Mathlib.Omega.{arith}
use Rattle.definitions.specs.Lists.{◌!◌}
use Rattle.definitions.specs.Combinations.{combination_size}
use Rattle.index.specs.RecordWords.{IsRecord}
use Rattle.index.specs.Laws.CutRecords.{cut-within, cut-is}
use Rattle.index.proofs.records.phone_of.Goals as goal
use Rattle.index.proofs.records.phone_of.Goals.{After-record_at}

-- the record that is cut out
own : (c : goal.After-record_at)
    → IsRecord (combination_size c.args.half)
    c.args.combinations.now
    c.args.number c.record_at.result.now
own c = cut-is c.combination_size.ensures c.record_at.ensures

pub record_at-requires : goal.record_at-requires
record_at-requires c =
    cut-within c.combination_size.ensures c.args.combinations.now c.args.number
    c.requires.within

pub overflow_cast-result : goal.overflow_cast-result
overflow_cast-result c =
    let first = ap (λ (l : List ℕ). l ! 0) (own (goal.at.overflow_cast-result c).After-record_at).is in
    record { fits = omega (arith, first, c.requires.few) }

pub returns : goal.returns
returns c = ap (λ (l : List ℕ). l ! 0) (own (goal.at.returns c).After-record_at).is
