-- `writer::write` meets its contract: foreign arcs and a short buffer are refused; else the W line and the
-- A lines stand before the zeros.
use mathlib.Core.Path.{◌≡◌}
use mathlib.Core.Bool.{true}
use native.Mathlib.Omega.{arith}
use lib.ListN.{length}
use Rattle.std.proofs.Common.{ap, Err}
use Rattle.definitions.specs.Lists.{cleared}
use Rattle.definitions.specs.NetworkText.{network_known}
use Rattle.definitions.proofs.Laws.Lists.Tests.{held, failed}
use Rattle.arcs.specs.Laws.KnownArcs.{known-taken}
use Rattle.nettext.specs.Laws.Writing.{lent-ready, counts-written, write-foreign, write-short, write_done}
use Rattle.std.proofs.lemmas.Bool.{not_from_true}
use Rattle.std.proofs.lemmas.Bool.{not_from_false}
use borrow.Author.Rules.{rules}
use Rattle.nettext.proofs.writer.write.Goals as goal
use Rattle.nettext.proofs.writer.write.Goals.{After-counts_row, After-fill, Else-not-network_known}

-- the text is cleared
clear : (c : goal.After-fill) → c.fill.new.self ≡ cleared (length c.args.text.now)
clear c = search rules

-- the arcs are known where the test did not refuse them
known : (c : goal.Else-not-network_known)
    → network_known c.args.counts c.args.arcs.now ≡ true
known c = held c.network_known.ensures (not_from_true _ c.if-not-network_known.false)

pub returns-then-not-network_known : goal.returns-then-not-network_known
returns-then-not-network_known c =
    let a = c.args in
    let all =
    write-foreign a.counts a.arcs.now (length a.text.now)
    (failed c.network_known.ensures (not_from_false _ c.if-not-network_known.true)) (ap Err c.into.ensures)
    (clear (goal.at.returns-then-not-network_known c).After-fill) in
    record { answer = all.0; leaves = all.1 }

pub returns-then-text-end : goal.returns-then-text-end
returns-then-text-end c =
    let a = c.args in
    let all =
    write-short a.counts a.arcs.now (length a.text.now) (known (goal.at.returns-then-text-end c).Else-not-network_known) c.wide-count.ensures
    (omega arith) (ap Err c.into-then-text-end.ensures) (clear (goal.at.returns-then-text-end c).After-fill) in
    record { answer = all.0; leaves = all.1 }

pub slice_bounds-write_arcs-end : goal.slice_bounds-write_arcs-end
slice_bounds-write_arcs-end c =
    let a = c.args in
    known-taken a.counts a.arcs.now c.wide-count.ensures (known (goal.at.slice_bounds-write_arcs-end c).Else-not-network_known)

pub write_arcs-requires : goal.write_arcs-requires
write_arcs-requires c =
    let a = c.args in
    lent-ready a.counts a.arcs.now (known (goal.at.write_arcs-requires c).Else-not-network_known) c.wide-count.ensures
    c.write.new.bytes (omega arith)

-- a row has five numbers
five : (c : goal.After-counts_row) → length c.counts_row.result.numbers ≡ 5
five c = search rules

pub returns : goal.returns
returns c =
    let a = c.args in
    let text = c.write in
    let size = length a.text.now in
    let line =
    counts-written a.counts a.arcs.now (known (goal.at.returns c).Else-not-network_known) size c.fill.new.self text.new.bytes
    c.counts_row.result (omega arith) (clear (goal.at.returns c).After-fill) (five (goal.at.returns c).After-counts_row) c.counts_row.ensures
    (text.ensures.answer, text.ensures.leaves) in
    let all =
    write_done a.counts a.arcs.now size (known (goal.at.returns c).Else-not-network_known) c.wide-count.ensures (omega arith)
    text.new.bytes c.write_arcs.new.text line c.write_arcs.ensures in
    record { answer = all.0; leaves = all.1 }
