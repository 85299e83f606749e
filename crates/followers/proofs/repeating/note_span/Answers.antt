-- `repeating::note_span` meets its contract.
use mathlib.Core.Path.{refl}
use native.Mathlib.Omega.{arith}
use lib.ListN.{length-set}
use Rattle.followers.proofs.repeating.note_span.Goals as goal

pub bounds-spans-at-2 : goal.bounds-spans-at-2
bounds-spans-at-2 c = simp length-set (omega arith)

pub bounds-spans-at-3 : goal.bounds-spans-at-3
bounds-spans-at-3 c = simp length-set (omega arith)

pub returns : goal.returns
returns c = refl
