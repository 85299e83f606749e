-- `forcing::roots_in_force` meets its contract. The loop's invariant: the words before the place are roots in force.
use mathlib.Core.Path.{refl}
use Prim.Native.Nat.{◌≤◌}
use native.Mathlib.Omega.{arith}
use lib.Dec.{T}
use Rattle.definitions.specs.declared.Header.{Header}
use Rattle.definitions.specs.BookLines.{root_count}
use Rattle.definitions.specs.ForeignTables.{header_known}
use Rattle.definitions.proofs.Laws.Books.Books.{roots_few}
use Rattle.definitions.proofs.Laws.Books.AcceptedKnown.{header-ranges}
use Rattle.tables.specs.Laws.Forcing.{forcing-start, forcing-more, forcing-end}
use Rattle.tables.proofs.forcing.roots_in_force.Goals as goal

-- there are few roots
few : (header : Header) → T (header_known header) → root_count header ≤ 192
few header h = roots_few header (header-ranges header h)

pub overflow_mul-count : goal.overflow_mul-count
unfolding root_count
overflow_mul-count c = record { fits = omega (arith, few _ c.requires.0.header-known) }

pub loop-place-init : goal.loop-place-init
unfolding root_count
loop-place-init c = (refl, forcing-start _ _ _ _)

pub root_in_force-requires : goal.root_in_force-requires
root_in_force-requires c =
    (c.requires.0, omega (arith, c.loop-place.invariant.0))

pub bounds-forced-wide : goal.bounds-forced-wide
bounds-forced-wide c =
    let inv = c.loop-place.invariant in
    omega (arith, c.wide.ensures, inv.0, inv.1.filled.sized, c.requires.1)

pub loop-place-preserved : goal.loop-place-preserved
loop-place-preserved c =
    let inv = c.loop-place.invariant in (
      inv.0,
      rw c.wide.ensures (forcing-more _ _ _ inv.1 c.requires.1 (omega (arith, inv.0))
          c.root_in_force.ensures),
    )

pub shape_of-forced : goal.shape_of-forced
shape_of-forced c = c.loop-place.invariant.1.filled.sized

pub returns : goal.returns
returns c =
    forcing-end _ _ _ c.loop-place.invariant.1 c.requires.1 (omega (arith, c.loop-place.invariant.0))
