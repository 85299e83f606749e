-- What the steps of reading can rely on, and what they leave in each table.
use Rattle.std.specs.Prelude.{◌≡◌, List, ℕ, ◌≤◌, ◌<◌, length, Ok}
use Rattle.definitions.specs.Faults.{answered}
use Rattle.definitions.specs.Lists.{cleared}
use Rattle.definitions.specs.BookLines.{BookLine}
use Rattle.definitions.specs.BookReading.{Lent, read_book}
use Rattle.definitions.specs.Tables.{tables_of, contents_of}
use Rattle.tables.specs.Lending.{lengths_of, lent_tables}
use Rattle.booklines.specs.declared.State.{State}
use Rattle.booklines.specs.States.{HasStates, Countable, PhonesFit}
use Rattle.book.specs.Storing.{HasRoom, nodes_after, classes_after, roots_after, plains_after, counts_after}
use Rattle.book.specs.Steps.{Step, book_taken, step_of, where_taken}

-- tables after they were cleared
pub record ClearedFrom (nodes classes roots plains nodes' classes' roots' plains' : List ℕ) : Type 0 where
  pub nodes_clear : nodes' ≡ cleared (length nodes)
  pub classes_clear : classes' ≡ cleared (length classes)
  pub roots_clear : roots' ≡ cleared (length roots)
  pub plains_clear : plains' ≡ cleared (length plains)

-- tables that are cleared as they stand
abbrev pub Cleared : (nodes classes roots plains : List ℕ) → Type 0
Cleared nodes classes roots plains = ClearedFrom nodes classes roots plains nodes classes roots plains

-- tables after reading: of the lent lengths, and holding the book if it is accepted
pub record Read (lent : Lent) (text nodes classes roots plains : List ℕ) : Type 0 where
  pub lengths : lengths_of nodes classes roots plains ≡ lent
  pub book : (lines : List BookLine) → read_book lent text ≡ answered lines
      → lent_tables nodes classes roots plains ≡ tables_of lent (contents_of lines)

-- a state in which a line can be taken: its counts do not overflow, and a line that passes has room
pub record Ready (lent : Lent) (s : State) (bytes : List ℕ) : Type 0 where
  pub states : HasStates s
  pub counts : Countable s
  pub room : (next : State) → step_of lent s bytes ≡ Ok next
      → HasRoom s.header.states lent (book_taken bytes)
  pub phones : (next : State) → step_of lent s bytes ≡ Ok next → PhonesFit (book_taken bytes)

-- a state after which can be judged: each node has a count, and the next line's number does not overflow
pub record Endable (s : State) (counts : List ℕ) : Type 0 where
  pub states : HasStates s
  pub counted : s.nodes ≤ length counts
  pub lines : s.lines < 18446744073709551615

-- each table after a line of these bytes, where this became of it
abbrev pub nodes_taken : Step → (bytes table : List ℕ) → List ℕ
nodes_taken step bytes table = where_taken step table (nodes_after (book_taken bytes) table)

abbrev pub classes_taken : Step → (bytes table : List ℕ) → List ℕ
classes_taken step bytes table = where_taken step table (classes_after (book_taken bytes) table)

abbrev pub roots_taken : (states : ℕ) → Step → (bytes table : List ℕ) → List ℕ
roots_taken states step bytes table = where_taken step table (roots_after states (book_taken bytes) table)

abbrev pub plains_taken : Step → (bytes table : List ℕ) → List ℕ
plains_taken step bytes table = where_taken step table (plains_after (book_taken bytes) table)

abbrev pub counts_taken : Step → (bytes counts : List ℕ) → List ℕ
counts_taken step bytes counts = where_taken step counts (counts_after (book_taken bytes) counts)
