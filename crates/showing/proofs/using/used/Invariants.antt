-- `using::used` meets its contract. The loop's invariant: what is used lies before `i`.
use Rattle.std.proofs.Common.{map}
use Rattle.showing.specs.Laws.Using.{UsedBefore}
use Rattle.showing.proofs.using.used.Given as goal

abbrev pub invariant-loop-i : goal.invariant-loop-i
invariant-loop-i g l = UsedBefore (map g.N.Number.value l.numbers) l.i
