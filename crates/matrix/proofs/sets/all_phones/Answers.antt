-- `sets::all_phones` meets its contract: a shifted 1 less 1 is all phones.
use Rattle.matrix.specs.Laws.Sets.{all-of-word, shifted-some, all-shifted}
use Rattle.matrix.proofs.sets.all_phones.Goals as goal

pub returns-then-phones-ge64 : goal.returns-then-phones-ge64
returns-then-phones-ge64 c = all-of-word c.args.phones c.if-phones-ge64.true

pub overflow_sub-result : goal.overflow_sub-result
overflow_sub-result c = shifted-some c.args.phones c.if-phones-ge64.false

pub returns-else-phones-ge64 : goal.returns-else-phones-ge64
returns-else-phones-ge64 c = all-shifted c.args.phones c.if-phones-ge64.false
