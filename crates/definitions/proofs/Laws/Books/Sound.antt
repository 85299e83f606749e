-- Sound books, what demand 3 asks of a book: its counts, and trees whose questions and leaves are in range and
-- whose children are greater nodes of the book. Accepted books are sound (laws/books/Accepted.antt).
use Rattle.std.specs.Prelude.{◌≡◌, List, ℕ, ◌+◌, ◌≤◌, ◌<◌, T, length}
use Rattle.definitions.specs.Lists.{every}
use Rattle.definitions.specs.BookLines.{is_phone, question, leaf, Asked}
use Rattle.definitions.specs.Tables.{Book, root_of}
use Rattle.definitions.specs.Lookup.{node_at}
use Rattle.definitions.proofs.Laws.Trees.Walks.{Forward}

-- "A matrix has 2n+1 columns"
abbrev pub columns_of : Book → ℕ
columns_of book = book.half + book.half + 1

-- every one of these is a phone of the book
abbrev pub AllPhones : Book → List ℕ → Type 0
AllPhones book list = T (every (is_phone book.phones) list)

pub record Sound (book : Book) : Type 0 where
  pub some_state : 1 ≤ book.states
  pub some_phone : 1 ≤ book.phones
  pub forward : Forward book.nodes
  -- a question asks about one of the 2n+1 columns
  pub position : (node : ℕ) (asked : Asked) (yes_node no_node : ℕ)
      → node_at book.nodes node ≡ question asked yes_node no_node
      → asked.position < columns_of book
  -- a leaf has a model
  pub model : (node model : ℕ) → node < length book.nodes → node_at book.nodes node ≡ leaf model
      → 1 ≤ model
  -- a root is a node of the book
  pub root : (phone state : ℕ) → root_of book phone state < length book.nodes
