-- `combining::combine` meets its contract, test by test.
use mathlib.Core.Path.{◌≡◌, refl, sym, ap, ◌∙◌}
use mathlib.Core.Bool.{true}
use Rattle.std.proofs.Common.{rules, Err}
use Rattle.definitions.specs.declared.Refusal.{Refusal}
use lib.Dec.{T}
use lib.ListN.{length}
use Rattle.definitions.specs.Lists.{cleared}
use Rattle.definitions.specs.ForeignTables.{tables_known}
use Rattle.tables.specs.Lending.{lent_tables}
use Rattle.tables.specs.Laws.KnownTables.{known-forceable, tables-fit, forced-book}
use Rattle.combinations.specs.Laws.Combining.{leaves-foreign, leaves-stopped, leaves-combined}
use Rattle.combinations.proofs.combining.combine.Goals as goal
use Rattle.combinations.proofs.combining.combine.Goals.{Else-not-tables_known}

known : (c : goal.Else-not-tables_known)
    → tables_known c.args.header
    (lent_tables c.args.nodes.now c.args.classes.now c.args.roots.now c.args.plains.now) ≡ true
known c = sym c.tables_known.ensures ∙ c.if-not-tables_known.false

holds : (c : goal.Else-not-tables_known)
    → T (tables_known c.args.header
    (lent_tables c.args.nodes.now c.args.classes.now c.args.roots.now c.args.plains.now))
holds c = rw (known c) tt

pub returns-then-not-tables_known : goal.returns-then-not-tables_known
returns-then-not-tables_known c =
    let a = c.args in
    let all = leaves-foreign a.header (lent_tables a.nodes.now a.classes.now a.roots.now a.plains.now)
    (length a.space.now) _ c.fill.new.self
    (sym c.tables_known.ensures ∙ c.if-not-tables_known.true) (ap (λ (r : Refusal). Err r) c.at.ensures) (search rules) in
    record { answer = all.0; leaves = all.1 }

pub roots_in_force-requires : goal.roots_in_force-requires
roots_in_force-requires c = known-forceable _ _ _ _ _ (holds (goal.at.roots_in_force-requires c).Else-not-tables_known)

pub invariant_of-trees : goal.invariant_of-trees
invariant_of-trees c =
    record {
      fit = tables-fit _ _ _ _ _ (holds (goal.at.invariant_of-trees c).Else-not-tables_known) _
          c.roots_in_force.ensures;
    }

pub choose_all-requires : goal.choose_all-requires
choose_all-requires c = record { space_clear = search rules; ends_clear = refl }

pub returns-in-Ok : goal.returns-in-Ok
returns-in-Ok c =
    let a = c.args in
    let clear : c.fill.new.self ≡ cleared (length c.fill.new.self) = search rules in
    let all = leaves-combined a.header (lent_tables a.nodes.now a.classes.now a.roots.now a.plains.now)
    (length a.space.now) _ _ (known (goal.at.returns-in-Ok c).Else-not-tables_known) _
    (forced-book _ _ _ _ _ (holds (goal.at.returns-in-Ok c).Else-not-tables_known) _ c.roots_in_force.ensures)
    clear (search rules) c.choose_all.ensures c.in-Ok.is refl refl in
    record { answer = all.0; leaves = all.1 }

pub returns-in-Err : goal.returns-in-Err
returns-in-Err c =
    let a = c.args in
    let clear : c.fill.new.self ≡ cleared (length c.fill.new.self) = search rules in
    let all = leaves-stopped a.header (lent_tables a.nodes.now a.classes.now a.roots.now a.plains.now)
    (length a.space.now) _ _ (known (goal.at.returns-in-Err c).Else-not-tables_known) _
    (forced-book _ _ _ _ _ (holds (goal.at.returns-in-Err c).Else-not-tables_known) _ c.roots_in_force.ensures)
    clear (search rules) c.choose_all.ensures c.in-Err.is (ap (λ (r : Refusal). Err r) c.at-in-Err.ensures)
    (search rules) in
    record { answer = all.0; leaves = all.1 }
