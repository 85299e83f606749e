-- Document 02, P1 with P2's B lines, computed: a book with its classes and nodes in an order of its own, its plain
-- form, and other books beside it. The first book has four classes, of which two are the same and two are not used.
use Rattle.std.specs.Prelude.{refl, List, [], ◌∷◌, ◌++◌, ℕ, ◌*◌, set, replicate}
use Prim.Native.String.{String}
use Rattle.definitions.specs.declared.Header.{Header}
use Rattle.definitions.specs.Faults.{answer_left}
use Rattle.definitions.specs.BookLines.{header_of}
use Rattle.definitions.specs.BookReading.{Lent, node_size, read_book}
use Rattle.definitions.specs.Tables.{tables_left}
use Rattle.definitions.specs.TreesGive.{trees_give}
use Rattle.definitions.specs.PlainForm.{write_plain}
use Rattle.definitions.proofs.Examples.Everything.{everything}
use Rattle.definitions.proofs.Examples.Example.{text_of, Result, gives, refuses, given, Case, ◌is◌, Holds}
use Rattle.definitions.proofs.Examples.Example.{example}
use Rattle.definitions.proofs.Examples.Meaning.{lines_or, models}

book_lines : List String
book_lines =
    "H     1     1     2     4     6"
    ∷ "Q     1     1"
    ∷ "Q     2     2"
    ∷ "Q     4     2"
    ∷ "L     0    10"
    ∷ "N     1     4     0     3     2"
    ∷ "N     2     2     2     5     4"
    ∷ "L     3    20"
    ∷ "L     4    21"
    ∷ "L     5    22"
    ∷ "R     1     1     0"
    ∷ "R     2     1     1"
    ∷ []

plain_lines : List String
plain_lines =
    "H     1     1     2     1     6"
    ∷ "Q     1     2"
    ∷ "L     0    10"
    ∷ "N     1     1     0     2     3"
    ∷ "L     2    20"
    ∷ "N     3     1     2     4     5"
    ∷ "L     4    22"
    ∷ "L     5    21"
    ∷ "R     1     1     0"
    ∷ "R     2     1     1"
    ∷ []

-- the book with an empty class asked for on the no side: it has no Q line, and is a class still; and with two empty
-- classes, which are one
empty_lines : List String
empty_lines = set book_lines 6 "N     2     3     2     5     4"

plain_empty_lines : List String
plain_empty_lines = set (set plain_lines 0 "H     1     1     2     2     6") 5 "N     3     2     2     4     5"

empties_lines : List String
empties_lines =
    "H     0     1     1     3     5"
    ∷ "N     0     3     0     1     2"
    ∷ "L     1     7"
    ∷ "N     2     1     0     3     4"
    ∷ "L     3     8"
    ∷ "L     4     9"
    ∷ "R     1     1     0"
    ∷ []

plain_empties_lines : List String
plain_empties_lines =
    set (set (set empties_lines 0 "H     0     1     1     1     5") 1 "N     0     1     0     1     2") 3
    "N     2     1     0     3     4"

-- a book with questions on both sides, numbered level by level; in its plain form the yes side is numbered first
sides_lines : List String
sides_lines =
    "H     1     1     2     3     8"
    ∷ "Q     1     1"
    ∷ "Q     1     2"
    ∷ "Q     2     2"
    ∷ "Q     3     1"
    ∷ "L     0    10"
    ∷ "N     1     3     0     2     3"
    ∷ "N     2     2     2     4     5"
    ∷ "N     3     1     1     6     7"
    ∷ "L     4    20"
    ∷ "L     5    21"
    ∷ "L     6    22"
    ∷ "L     7    23"
    ∷ "R     1     1     0"
    ∷ "R     2     1     1"
    ∷ []

plain_sides_lines : List String
plain_sides_lines =
    "H     1     1     2     3     8"
    ∷ "Q     1     1"
    ∷ "Q     2     2"
    ∷ "Q     3     1"
    ∷ "Q     3     2"
    ∷ "L     0    10"
    ∷ "N     1     1     0     2     5"
    ∷ "N     2     2     2     3     4"
    ∷ "L     3    20"
    ∷ "L     4    21"
    ∷ "N     5     3     1     6     7"
    ∷ "L     6    22"
    ∷ "L     7    23"
    ∷ "R     1     1     0"
    ∷ "R     2     1     1"
    ∷ []

-- the first book with a third phone, a boundary phone of the second, which has no R lines
edge_lines : List String
edge_lines =
    "H     1     1     3     4     6"
    ∷ "Q     1     1"
    ∷ "Q     2     2"
    ∷ "Q     4     2"
    ∷ "L     0    10"
    ∷ "N     1     4     0     3     2"
    ∷ "N     2     2     2     5     4"
    ∷ "L     3    20"
    ∷ "L     4    21"
    ∷ "L     5    22"
    ∷ "B     3     2"
    ∷ "R     1     1     0"
    ∷ "R     2     1     1"
    ∷ []

plain_edge_lines : List String
plain_edge_lines =
    "H     1     1     3     1     6"
    ∷ "Q     1     2"
    ∷ "L     0    10"
    ∷ "N     1     1     0     2     3"
    ∷ "L     2    20"
    ∷ "N     3     1     2     4     5"
    ∷ "L     4    22"
    ∷ "L     5    21"
    ∷ "B     3     2"
    ∷ "R     1     1     0"
    ∷ "R     2     1     1"
    ∷ []

-- two states: the second phone has no R lines, and those of the fourth are kept though it takes the trees of silence
kept_lines : List String
kept_lines =
    "H     0     2     4     2     8"
    ∷ "Q     1     1"
    ∷ "Q     2     3"
    ∷ "L     0    41"
    ∷ "N     1     2     0     6     3"
    ∷ "L     2    32"
    ∷ "L     3    33"
    ∷ "L     4    12"
    ∷ "L     5    11"
    ∷ "L     6    31"
    ∷ "L     7    42"
    ∷ "B     2     3"
    ∷ "B     4     1"
    ∷ "R     1     1     5"
    ∷ "R     1     2     4"
    ∷ "R     3     1     1"
    ∷ "R     3     2     2"
    ∷ "R     4     1     0"
    ∷ "R     4     2     7"
    ∷ []

plain_kept_lines : List String
plain_kept_lines =
    "H     0     2     4     1     8"
    ∷ "Q     1     3"
    ∷ "L     0    11"
    ∷ "L     1    12"
    ∷ "N     2     1     0     3     4"
    ∷ "L     3    31"
    ∷ "L     4    33"
    ∷ "L     5    32"
    ∷ "L     6    41"
    ∷ "L     7    42"
    ∷ "B     2     3"
    ∷ "B     4     1"
    ∷ "R     1     1     0"
    ∷ "R     1     2     1"
    ∷ "R     3     1     2"
    ∷ "R     3     2     5"
    ∷ "R     4     1     6"
    ∷ "R     4     2     7"
    ∷ []

-- tables that are longer than any of these books
lent : Lent
lent = record { nodes = node_size * 9; classes = 5; roots = 9; plains = 5 }

-- what a book's tables are written as, into a buffer of so many bytes
plain_of : List String → (size : ℕ) → Result
plain_of lines size =
    let read = read_book lent (text_of lines) in
    given (write_plain (header_of (lines_or read)) (tables_left lent read) size)

-- tables with a header that they were not read with
fewer : Header
fewer = record { half = 1; states = 1; phones = 2; classes = 3; nodes = 6 }

trees : List String → (S : List ℕ) → Result
trees lines S = models (trees_give (lines_or (read_book lent (text_of lines))) S)

-- what is left in the buffer
left_of : List String → (size : ℕ) → Result
left_of lines size =
    let read = read_book lent (text_of lines) in
    gives (answer_left size (write_plain (header_of (lines_or read)) (tables_left lent read) size))

pub table : List Case
table =
    plain_of book_lines 320 is gives (text_of plain_lines)
    ∷ plain_of plain_lines 320 is gives (text_of plain_lines)
    ∷ plain_of empty_lines 320 is gives (text_of plain_empty_lines)
    ∷ plain_of empties_lines 224 is gives (text_of plain_empties_lines)
    ∷ plain_of sides_lines 480 is gives (text_of plain_sides_lines)
    -- another model, and the two sides of a question changed over: other trees
    ∷ plain_of (set book_lines 8 "L     4    23") 320 is gives (text_of (set plain_lines 7 "L     5    23"))
    ∷ plain_of (set book_lines 6 "N     2     2     2     4     5") 320
    is gives (text_of (set (set plain_lines 6 "L     4    21") 7 "L     5    22"))
    -- one byte too few, and tables that no text leaves with their header, which is asked first
    ∷ plain_of book_lines 319 is refuses 33 0
    ∷ given (write_plain fewer (tables_left lent (read_book lent (text_of book_lines))) 319) is refuses 18 0
    -- the rest of the buffer is 0, and all of it where the text is refused
    ∷ left_of book_lines 323 is gives (text_of plain_lines ++ (0 ∷ 0 ∷ 0 ∷ []))
    ∷ left_of empties_lines 223 is gives (replicate 223 0)
    -- the models of a sequence
    ∷ trees book_lines (1 ∷ 2 ∷ 2 ∷ 1 ∷ []) is gives (10 ∷ 22 ∷ 20 ∷ 10 ∷ [])
    ∷ trees plain_lines (1 ∷ 2 ∷ 2 ∷ 1 ∷ []) is gives (10 ∷ 22 ∷ 20 ∷ 10 ∷ [])
    ∷ []

pub spellings : Holds table
unfolding everything example lines_or models book_lines plain_lines empty_lines plain_empty_lines empties_lines
    plain_empties_lines sides_lines plain_sides_lines lent plain_of fewer trees left_of table
spellings =
    (refl, (refl, (refl, (refl, (refl, (refl, (refl, (refl, (refl, (refl, (refl, (refl, (refl, tt)))))))))))))

-- books with B lines
pub edge_table : List Case
edge_table =
    plain_of edge_lines 352 is gives (text_of plain_edge_lines)
    ∷ plain_of kept_lines 576 is gives (text_of plain_kept_lines)
    ∷ plain_of plain_kept_lines 576 is gives (text_of plain_kept_lines)
    -- another plain phone is another book
    ∷ plain_of (set edge_lines 10 "B     3     1") 352 is gives (text_of (set plain_edge_lines 8 "B     3     1"))
    -- the models of a sequence: a boundary phone has the trees of its plain phone, with itself in the centre column
    ∷ trees kept_lines (1 ∷ 2 ∷ 3 ∷ 4 ∷ []) is gives (11 ∷ 12 ∷ 33 ∷ 32 ∷ 31 ∷ 32 ∷ 11 ∷ 12 ∷ [])
    ∷ trees plain_kept_lines (1 ∷ 2 ∷ 3 ∷ 4 ∷ []) is gives (11 ∷ 12 ∷ 33 ∷ 32 ∷ 31 ∷ 32 ∷ 11 ∷ 12 ∷ [])
    ∷ []

pub edges : Holds edge_table
unfolding everything example lines_or models edge_lines plain_edge_lines kept_lines plain_kept_lines lent plain_of trees
    edge_table
edges = (refl, (refl, (refl, (refl, (refl, (refl, tt))))))
