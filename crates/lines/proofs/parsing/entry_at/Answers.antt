-- `parsing::entry_at` meets its contract, by the field and whether the letter uses it.
use mathlib.Core.Path.{ap₂, sym, ◌∙◌}
use borrow.Author.Tests.{lt-ltb, le-ltb}
use lib.Dec.{ltb}
use Rattle.definitions.proofs.Laws.Lists.Tests.{by-test}
use Rattle.lines.specs.Rows.{field_in, option_of}
use Rattle.lines.specs.Entries.{field_entry}
use Rattle.lines.proofs.parsing.entry_at.Goals as goal

pub returns-in-Number : goal.returns-in-Number
unfolding field_in option_of field_entry
returns-in-Number c = rw (← c.in-Number.ensures, lt-ltb _ _ c.if-field-used.true)

pub returns-in-Blank : goal.returns-in-Blank
unfolding field_in option_of field_entry
returns-in-Blank c = rw (← c.in-Blank.ensures, le-ltb _ _ c.if-used-field.true)

pub returns-in_default : goal.returns-in_default
unfolding field_in option_of field_entry
returns-in_default c = rw (← c.in-Number.ensures, le-ltb _ _ c.if-field-used.false)

pub returns-in_default-2 : goal.returns-in_default-2
unfolding field_in option_of field_entry
returns-in_default-2 c = rw (← c.in-Blank.ensures, lt-ltb _ _ c.if-used-field.false)

pub returns-in_default-3 : goal.returns-in_default-3
unfolding field_in option_of field_entry
returns-in_default-3 c =
    rw (← c.in_default.ensures) (by-test (ltb c.args.field c.args.used) (λ t. rw t) (λ t. rw t))
