-- Document 02, P2, on small books: R lines left out and the lines that may come next, 21 and its line, the
-- fourth table, tables that reading never leaves, and models from the plain phone's trees with the boundary
-- phone itself in the centre column.
use Rattle.std.specs.Prelude.{refl, List, [], ◌∷◌, ◌++◌, ℕ, take, drop, set}
use Rattle.std.proofs.Math.Option.{none, some}
use Prim.Native.String.{String}
use Rattle.definitions.specs.declared.Header.{Header}
use Rattle.definitions.specs.Faults.{Outcome, answered, refused}
use Rattle.definitions.specs.BookLines.{BookLine}
use Rattle.definitions.specs.BookReading.{Lent, read_book}
use Rattle.definitions.specs.Tables.{Tables, tables_left}
use Rattle.definitions.specs.Transcription.{transcribe}
use Rattle.definitions.specs.TreesGive.{trees_give}
use Rattle.definitions.proofs.Examples.Everything.{everything}
use Rattle.definitions.proofs.Examples.Example.{text_of, Result, accepts, nothing, gives, refuses, read}
use Rattle.definitions.proofs.Examples.Example.{transcript, Case, ◌is◌, Holds, example}

-- tables with room for each book here
room : Lent
room = record { nodes = 20; classes = 1; roots = 6; plains = 3 }

-- a word too few for the plain phones of three phones
fewer : Lent
fewer = record { nodes = 20; classes = 1; roots = 6; plains = 2 }

-- three phones, the third a boundary phone without R lines
short : List String
short =
    "H     1     1     3     1     2"
    ∷ "Q     1     2"
    ∷ "L     0    10"
    ∷ "L     1    20"
    ∷ "B     3     2"
    ∷ "R     1     1     0"
    ∷ "R     2     1     1"
    ∷ []

reading : List String → Result
reading lines = read (read_book room (text_of lines))

next : String → Result
next line = reading (short ++ (line ∷ []))

-- "For 17, lines go on only after the last phone's last R line": what else comes next is judged as a line
pub next_lines : List Case
next_lines =
    reading short is accepts
    ∷ next "?" is refuses 12 8
    ∷ next "H     1     1     3     1     2" is refuses 14 8
    ∷ next "R     2     1     1" is refuses 14 8
    ∷ next "R     4     1     0" is refuses 13 8
    ∷ next "R     3     1     1" is refuses 16 4
    ∷ reading (take 6 short) is refuses 17 7
    ∷ reading (set short 4 "B     1     2") is refuses 13 5
    ∷ reading (set short 4 "B     3     3") is refuses 21 5
    ∷ reading (take 3 short ++ ("B     3     2" ∷ drop 3 short)) is refuses 14 4
    ∷ reading (take 6 short ++ ("B     3     2" ∷ [])) is refuses 14 7
    ∷ reading (take 5 short ++ ("B     3     1" ∷ drop 5 short)) is refuses 14 6
    ∷ read (read_book fewer (text_of short)) is refuses 20 1
    ∷ []

pub next_lines-hold : Holds next_lines
unfolding everything example room fewer short reading next next_lines
next_lines-hold =
    (refl, (refl, (refl, (refl, (refl, (refl, (refl, (refl, (refl, (refl, (refl, (refl, (refl, tt)))))))))))))

-- "at the lowest such B line", and before 16
chained : List String
chained =
    "H     1     1     3     0     1"
    ∷ "L     0    10"
    ∷ "B     2     3"
    ∷ "B     3     1"
    ∷ "R     1     1     0"
    ∷ []

-- two states: both R lines of a boundary phone, or none
two_states : List String
two_states =
    "H     0     2     3     0     4"
    ∷ "L     0    10"
    ∷ "L     1    11"
    ∷ "L     2    20"
    ∷ "L     3    21"
    ∷ "B     2     1"
    ∷ "R     1     1     0"
    ∷ "R     1     2     1"
    ∷ "R     3     1     2"
    ∷ "R     3     2     3"
    ∷ []

pub left_out_lines : List Case
left_out_lines =
    reading chained is refuses 21 3
    ∷ reading two_states is accepts
    ∷ reading (set two_states 8 "R     2     2     2") is refuses 14 9
    ∷ reading (set two_states 7 "R     3     1     2") is refuses 14 8
    ∷ reading (take 9 two_states) is refuses 17 10
    ∷ []

pub left_out_lines-hold : Holds left_out_lines
unfolding everything example room reading chained two_states left_out_lines
left_out_lines-hold = (refl, (refl, (refl, (refl, (refl, tt)))))

-- a question about the centre column
centre : List String
centre =
    "H     0     1     3     1     4"
    ∷ "Q     1     2"
    ∷ "L     0    10"
    ∷ "N     1     1     0     2     3"
    ∷ "L     2    20"
    ∷ "L     3    21"
    ∷ "B     3     2"
    ∷ "R     1     1     0"
    ∷ "R     2     1     1"
    ∷ []

header : Header
header = record { half = 0; states = 1; phones = 3; classes = 1; nodes = 4 }

lent : Lent
lent = record { nodes = 20; classes = 1; roots = 3; plains = 3 }

tables : Tables
tables = tables_left lent (read_book lent (text_of centre))

-- what the transcription of 1 2 3 1 answers over these tables with other roots or plain phones
over : (roots plains : List ℕ) → Result
over roots plains =
    transcript (transcribe header
    (record { nodes = tables.nodes; classes = tables.classes; roots = roots; plains = plains })
    (1 ∷ 2 ∷ 3 ∷ 1 ∷ []) 4)

-- what the trees give by lines
by_lines : (S : List ℕ) → Outcome (List BookLine) → Result
by_lines S (answered lines) = elim (trees_give lines S) [ none ↦ nothing | some models ↦ gives models ]
by_lines S (refused r) = nothing

pub in_force : List Case
in_force =
    gives tables.roots is gives (0 ∷ 1 ∷ 4096 ∷ [])
    ∷ gives tables.plains is gives (0 ∷ 0 ∷ 2 ∷ [])
    ∷ over (0 ∷ 1 ∷ 4096 ∷ []) (0 ∷ 0 ∷ 2 ∷ []) is gives (10 ∷ 20 ∷ 21 ∷ 10 ∷ [])
    ∷ by_lines (1 ∷ 2 ∷ 3 ∷ 1 ∷ []) (read_book lent (text_of centre)) is gives (10 ∷ 20 ∷ 21 ∷ 10 ∷ [])
    ∷ over (0 ∷ 1 ∷ 4096 ∷ []) (2 ∷ 0 ∷ 2 ∷ []) is refuses 18 0
    ∷ over (0 ∷ 1 ∷ 4096 ∷ []) (0 ∷ 0 ∷ 4 ∷ []) is refuses 18 0
    ∷ over (0 ∷ 1 ∷ 4096 ∷ []) (0 ∷ 0 ∷ 3 ∷ []) is refuses 18 0
    ∷ over (0 ∷ 1 ∷ 4096 ∷ []) (0 ∷ 0 ∷ 0 ∷ []) is refuses 18 0
    ∷ over (0 ∷ 1 ∷ 4096 ∷ []) (0 ∷ 0 ∷ 2 ∷ 1 ∷ []) is refuses 18 0
    ∷ []

pub in_force-hold : Holds in_force
unfolding everything example centre header lent tables over by_lines in_force
in_force-hold = (refl, (refl, (refl, (refl, (refl, (refl, (refl, (refl, (refl, tt)))))))))

-- "if they are there they are checked and not used": an R line of its own, which names a node
unused : List String
unused =
    "H     0     1     3     0     3"
    ∷ "L     0    10"
    ∷ "L     1    20"
    ∷ "L     2    30"
    ∷ "B     3     2"
    ∷ "R     1     1     0"
    ∷ "R     2     1     1"
    ∷ "R     3     1     2"
    ∷ []

unused_header : Header
unused_header = record { half = 0; states = 1; phones = 3; classes = 0; nodes = 3 }

unused_tables : Tables
unused_tables = tables_left lent (read_book lent (text_of unused))

pub checked_not_used : List Case
checked_not_used =
    reading unused is accepts
    ∷ gives unused_tables.roots is gives (0 ∷ 1 ∷ 2 ∷ [])
    ∷ transcript (transcribe unused_header unused_tables (1 ∷ 3 ∷ 1 ∷ []) 3) is gives (10 ∷ 20 ∷ 10 ∷ [])
    ∷ by_lines (1 ∷ 3 ∷ 1 ∷ []) (read_book lent (text_of unused)) is gives (10 ∷ 20 ∷ 10 ∷ [])
    ∷ reading (set unused 7 "R     3     1     3") is refuses 13 8
    ∷ reading (set unused 7 "R     3     1     1") is refuses 16 3
    ∷ reading (take 7 unused) is refuses 16 4
    ∷ reading (unused ++ ("?" ∷ [])) is refuses 17 9
    ∷ []

pub checked_not_used-hold : Holds checked_not_used
unfolding everything example room reading lent by_lines unused unused_header unused_tables checked_not_used
checked_not_used-hold = (refl, (refl, (refl, (refl, (refl, (refl, (refl, (refl, tt))))))))
