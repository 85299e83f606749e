-- Laws about taking a line, and about judging after the last: the answer on each way that the code goes.
use Rattle.std.specs.Prelude.{◌≡◌, true, false, List, ℕ, ◌+◌, ◌≤◌, ◌<◌, take, Ok, Err}
use borrow.Author.Tests.{lt-ltb, le-ltb}
use Rattle.definitions.specs.declared.Fault.{Fault}
use Rattle.definitions.specs.declared.Fault.TheVariants.{Orphan, Count, Chained}
use Rattle.definitions.specs.BookReading.{Lent, is_line_of}
use Rattle.tables.specs.Naming.{first_misnamed}
use Rattle.booklines.specs.declared.State.{State}
use Rattle.booklines.specs.States.{enough_in, chained_in, next_state}
use Rattle.book.specs.Steps.{book_taken, verdict_in, step_after, step_of, names_plain_in, finish_of, line_number_of}

module _ (lent : Lent) (s : State) (bytes : List ℕ) where
  pub step-failed : {fault : Fault} → verdict_in lent s bytes ≡ Err fault → Err fault ≡ step_of lent s bytes
  unfolding step_of step_after
  step-failed v = rw v

  pub step-passed : verdict_in lent s bytes ≡ Ok tt → Ok (next_state s (book_taken bytes)) ≡ step_of lent s bytes
  unfolding step_of step_after
  step-passed v = rw v

-- ---- after the last line

module _ (text : List ℕ) (s : State) (counts : List ℕ) where
  pub finish-early : enough_in s ≡ false
      → Err (record { fault = Count; line = s.lines + 1 }) ≡ finish_of text s counts
  unfolding finish_of
  finish-early e = rw e

  pub finish-chained : enough_in s ≡ true → chained_in s ≡ true
      → Err (record { fault = Chained; line = line_number_of text (names_plain_in s.boundaries) })
      ≡ finish_of text s counts
  unfolding finish_of
  finish-chained all chained = rw (all, chained)

  module _ (node : ℕ) (all : enough_in s ≡ true) (plain : chained_in s ≡ false)
      (found : node ≡ first_misnamed (take s.nodes counts))
    where
      pub finish-orphan : node < s.nodes
          → Err (record { fault = Orphan; line = line_number_of text (is_line_of node) }) ≡ finish_of text s counts
      unfolding finish_of
      finish-orphan l = rw (all, plain, ← found, lt-ltb node s.nodes l)

      pub finish-fine : s.nodes ≤ node → Ok s.header ≡ finish_of text s counts
      unfolding finish_of
      finish-fine l = rw (all, plain, ← found, le-ltb node s.nodes l)
