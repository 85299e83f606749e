-- `taking::finish` meets its contract, by whether the table has a record for the last word.
use Rattle.std.proofs.Common.{ap, ◌∙◌, Err}
use Rattle.definitions.specs.declared.Refusal.{Refusal}
use Rattle.words.specs.Laws.Taking.{finish-many, finish-fine}
use Rattle.words.proofs.taking.finish.Goals as goal

pub returns-then-lent-count : goal.returns-then-lent-count
returns-then-lent-count c = ap (λ (r : Refusal). Err r) c.into.ensures ∙ finish-many _ _ c.wide-count.ensures c.if-lent-count.true

pub returns : goal.returns
returns c = finish-fine _ _ c.wide-count.ensures c.if-lent-count.false
