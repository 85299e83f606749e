-- `indexing::mark_column` meets its contract. The loop's invariant: the phones below `from` are marked.
use mathlib.Core.Path.{refl}
use native.Mathlib.Omega.{arith}
use Rattle.index.specs.Laws.Filling.{phones-first, phones-next, phones-last}
use Rattle.index.proofs.indexing.mark_column.Goals as goal

pub loop-phone-init : goal.loop-phone-init
loop-phone-init c = phones-first _

pub row_at-requires : goal.row_at-requires
row_at-requires c =
    let (near, few) = c.requires in (near, omega (arith, c.in-Some.ensures.some))

pub mark-requires : goal.mark-requires
mark-requires c =
    record { later = omega (arith, c.row_at.ensures.0); some = omega arith; few = omega arith }

pub next_member-requires : goal.next_member-requires
next_member-requires c = (c.loop-phone.invariant.some, c.loop-phone.invariant.within)

pub loop-phone-preserved : goal.loop-phone-preserved
loop-phone-preserved c =
    phones-next c.loop-phone.invariant c.in-Some.ensures.next c.in-Some.ensures.some c.row_at.ensures.0 refl
    c.mark.ensures

pub returns : goal.returns
returns c = phones-last c.loop-phone.invariant c.in_default.ensures.next
