-- `foreign::tables_known` meets its contract: where the count of names is asked for, the other tests hold.
use mathlib.Core.Path.{sym, ◌∙◌}
use mathlib.Core.Bool.{true≢false}
use Rattle.tables.specs.Laws.TableTests.{once-asks}
use Rattle.tables.proofs.foreign.tables_known.Goals as goal
use Rattle.tables.proofs.foreign.tables_known.Goals.{then-records_known, else-records_known}
use Rattle.tables.proofs.foreign.tables_known.Goals.{then-plain_table_known, else-plain_table_known}

pub named_once-requires : goal.named_once-requires
named_once-requires c =
    elim c.if-plain_table_known.branch [
      | then-plain_table_known w ↦
          elim c.if-records_known.branch [
            | then-records_known v ↦
                once-asks _ _ _ _ _ (sym c.records_known.ensures ∙ v.if-records_known.true)
                (sym w.root_table_known.ensures ∙ sym w.value-is ∙ c.if-root_table_known.true)
            | else-records_known v ↦
                absurd (true≢false (sym w.if-plain_table_known.true ∙ v.value-is ∙ v.if-records_known.false))
          ]
      | else-plain_table_known w ↦
          absurd (true≢false (sym c.if-root_table_known.true ∙ w.value-is ∙ w.if-plain_table_known.false))
    ]
