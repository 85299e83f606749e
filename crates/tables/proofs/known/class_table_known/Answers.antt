-- `known::class_table_known` meets its contract.
use Rattle.definitions.proofs.Laws.Books.AcceptedKnown.{header-ranges}
use Rattle.tables.proofs.known.class_table_known.Goals as goal

pub sets_within-requires : goal.sets_within-requires
sets_within-requires c =
    let ranges = header-ranges _ c.requires in
    (ranges.phones_range.low, ranges.phones_range.high)
