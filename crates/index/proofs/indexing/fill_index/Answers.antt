-- `indexing::fill_index` meets its contract.
use Rattle.definitions.proofs.Laws.Books.AcceptedKnown.{header-ranges}
use Rattle.index.specs.Laws.Filling.{filled}
use Rattle.index.proofs.indexing.fill_index.Goals as goal

pub mark_all-requires : goal.mark_all-requires
mark_all-requires c =
    let ranges = header-ranges c.args.header c.requires.header-known in
    (record { phones_few = ranges.phones_range.high; half_few = ranges.half_range.high }, c.requires.few)

pub returns : goal.returns
returns c =
    filled c.note_ends.ensures c.mark_all.ensures
