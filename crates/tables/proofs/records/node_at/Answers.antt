-- `records::node_at` meets its contract: the five words are those of the record.
use Prim.Native.Nat.{◌*◌}
use Rattle.definitions.specs.BookReading.{node_size}
use Rattle.tables.specs.Laws.Records.{node-from-words}
use Rattle.tables.proofs.records.node_at.Goals as goal

pub returns : goal.returns
returns c =
    let args = c.args in
    node-from-words args.words.now (node_size * args.node)
    c.word_at.ensures c.word_at-2.ensures c.word_at-3.ensures
    c.word_at-4.ensures c.word_at-5.ensures
