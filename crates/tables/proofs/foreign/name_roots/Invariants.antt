-- `foreign::name_roots` meets its contract. The loop's invariant: the roots before `i` are counted.
use Rattle.tables.specs.Laws.NamingTables.{RootsNamed}
use Rattle.tables.proofs.foreign.name_roots.Given as goal

abbrev pub invariant-loop-root : goal.invariant-loop-root
invariant-loop-root l = RootsNamed l.initial.counts l.counts l.roots l.root-index
