-- `known::network_known` meets its contract.
use Rattle.std.proofs.Common.{sym, ◌∙◌, true≢false}
use Rattle.definitions.specs.ForeignTables.{holds_only}
use Rattle.tables.specs.Laws.TableTests.{holds-taken}
use Rattle.arcs.specs.Laws.KnownArcs.{network-miscounted, network-unheld, network-judged}
use Rattle.arcs.proofs.known.network_known.Goals as goal
use Rattle.arcs.proofs.known.network_known.Goals.{then-counts_known, else-counts_known}

pub slice_bounds-arcs_known-end : goal.slice_bounds-arcs_known-end
unfolding holds_only
slice_bounds-arcs_known-end c =
    elim c.if-counts_known.branch [
      | then-counts_known w ↦ holds-taken _ _ (sym w.holds_only.ensures ∙ sym w.value-is ∙ c.if-holds_only.true)
      | else-counts_known w ↦ absurd (true≢false (sym c.if-holds_only.true ∙ w.value-is ∙ w.if-counts_known.false))
    ]

pub returns-then-holds_only : goal.returns-then-holds_only
unfolding holds_only
returns-then-holds_only c =
    elim c.if-counts_known.branch [
      | then-counts_known w ↦
          c.arcs_known.ensures
          ∙ network-judged _ _ c.wide-used.ensures (sym w.holds_only.ensures ∙ sym w.value-is ∙ c.if-holds_only.true)
          (sym c.counts_known.ensures ∙ w.if-counts_known.true)
      | else-counts_known w ↦ absurd (true≢false (sym c.if-holds_only.true ∙ w.value-is ∙ w.if-counts_known.false))
    ]

pub returns-else-holds_only : goal.returns-else-holds_only
unfolding holds_only
returns-else-holds_only c =
    elim c.if-counts_known.branch [
      | then-counts_known w ↦
          c.if-holds_only.false
          ∙ network-unheld _ _ c.wide-used.ensures (sym w.holds_only.ensures ∙ sym w.value-is ∙ c.if-holds_only.false)
          (sym c.counts_known.ensures ∙ w.if-counts_known.true)
      | else-counts_known w ↦
          c.if-holds_only.false
          ∙ network-miscounted _ _ (sym c.counts_known.ensures ∙ w.if-counts_known.false)
    ]
