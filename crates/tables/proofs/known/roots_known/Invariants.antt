-- `known::roots_known` meets its contract. The loop's invariant: the roots of the phones before `i` are known.
use Rattle.tables.specs.Laws.PhoneTests.{RootsPassed}
use Rattle.tables.proofs.known.roots_known.Given as goal

abbrev pub invariant-loop-i : goal.invariant-loop-i
invariant-loop-i l = RootsPassed l.header l.plains l.roots l.i
