-- Laws about what every line that is taken keeps: it makes the next line safe to take, and the end safe to
-- judge.
use Rattle.std.specs.Prelude.{◌≡◌, List, ℕ, ◌<◌, length}
use Rattle.std.proofs.Common.{arith}
use Rattle.definitions.specs.BookLines.{BookLine}
use Rattle.definitions.specs.BookReading.{Lent}
use Rattle.booklines.specs.States.{state_of}
use Rattle.book.specs.Steps.{book_taken}
use Rattle.book.specs.Taking.{Ready, Endable}
use Rattle.book.specs.Laws.Keeping.{Kept, kept-few, kept-room, kept-states, fits-phones}
use Rattle.book.specs.Laws.Steps.{step-next}

pub kept-ready : (lent : Lent) (before : List BookLine) (bytes : List ℕ) → Kept lent before
    → length before < 18446744073709551615 → Ready lent (state_of before) bytes
unfolding state_of
kept-ready lent before bytes k l =
    let (nodes, roots) = kept-few lent before k in
    record {
      states = kept-states lent before k;
      counts = record { lines = l; nodes = omega arith };
      room = λ next e.
          kept-room lent before (book_taken bytes) k (step-next lent before bytes next e).fits;
      phones = λ next e. fits-phones lent before (book_taken bytes) (step-next lent before bytes next e).fits;
    }

pub kept-endable : (lent : Lent) (before : List BookLine) (counts : List ℕ) → Kept lent before
    → length before < 18446744073709551615 → length counts ≡ 4096 → Endable (state_of before) counts
unfolding state_of
kept-endable lent before counts k l e =
    let (nodes, roots) = kept-few lent before k in
    record { states = kept-states lent before k; counted = omega arith; lines = l }
