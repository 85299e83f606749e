-- Laws about a line's tests: every table is wide enough where there is no header, and a header stands before
-- a root.
use Rattle.std.specs.Prelude.{◌≡◌, true, ℕ, ◌<◌, T, ltb, eqb}
use Rattle.std.proofs.Common.{arith, ltb→lt, le-leb}
use Rattle.definitions.specs.BookLines.{R, no_header, root_count}
use Rattle.definitions.specs.BookReading.{Lent, wide_enough}
use Rattle.booklines.specs.declared.State.{State}
use Rattle.booklines.specs.States.{follows_in}
use Rattle.definitions.proofs.Laws.Lists.Tests.{T_and}

pub no_header_fits : (lent : Lent) → wide_enough lent no_header ≡ true
unfolding wide_enough root_count
no_header_fits lent =
    rw (
      le-leb 0 lent.nodes (omega arith),
      le-leb 0 lent.classes (omega arith),
      le-leb 0 lent.roots (omega arith),
    )
    (le-leb 0 lent.plains (omega arith))

pub root_after_header : (s : State) (phone state root : ℕ) → T (follows_in s (R phone state root))
    → 0 < s.lines
unfolding follows_in
root_after_header s phone state root h =
    ltb→lt 0 s.lines ((T_and (ltb 0 s.lines) (eqb s.nodes s.header.nodes)).0 h).0
