-- `chains::stands_at` meets its contract: the words that are compared are the record's, and those of the metastate.
use Rattle.std.proofs.Common.{◌∷◌, ℕ, ap, ap₂, ◌∙◌, take}
use Rattle.definitions.specs.Lists.{same}
use Rattle.index.specs.Laws.CutRecords.{cut-within, cut-is}
use Rattle.metastates.specs.Laws.HeldBack.{metastate-row}
use Rattle.metastates.proofs.chains.stands_at.Goals as goal

pub record_at-record-requires : goal.record_at-record-requires
record_at-record-requires c =
    cut-within c.metastate_size.ensures c.args.metastates.now c.args.place c.requires.0

pub returns : goal.returns
returns c =
    let a = c.args in
    let (_, wide, few) = c.requires in
    let is = cut-is c.metastate_size.ensures c.record_at-record.ensures in
    c.is_numbered.ensures
    ∙ ap₂ same is.is (ap (λ (k : ℕ). take k (a.number ∷ a.m.columns)) is.sized
    ∙ metastate-row a.half a.number a.m.columns few wide)
