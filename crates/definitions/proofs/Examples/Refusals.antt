-- A case for each fault of document 01, on its example with a line altered, and for the order of two faults
-- at once. The numbers 31, 32 and 41 stand among the ★ cases.
use Rattle.std.specs.Prelude.{refl, List, [], ◌∷◌, ◌++◌, ℕ, ◌-◌, ◌*◌, take, drop, set, replicate}
use Prim.Native.String.{String}
use Rattle.definitions.specs.declared.Header.{Header}
use Rattle.definitions.specs.declared.Counts.{Counts}
use Rattle.definitions.specs.BookReading.{Lent, node_size, read_book}
use Rattle.definitions.specs.Tables.{node_records}
use Rattle.definitions.specs.Lookup.{leaf_lookup}
use Rattle.definitions.specs.Arcs.{arc_size}
use Rattle.definitions.specs.Building.{build}
use Rattle.definitions.specs.NetworkText.{read_network, arcs_left, write_network}
use Rattle.definitions.specs.Leaving.{leaving}
use Rattle.definitions.specs.Transcription.{transcribe}
use Rattle.definitions.specs.Program.{program}
use Rattle.definitions.proofs.Examples.Everything.{everything}
use Rattle.definitions.proofs.Examples.Example.{text_of, input_lines, input, output, header, lent}
use Rattle.definitions.proofs.Examples.Example.{tables, space_for}
use Rattle.definitions.proofs.Examples.Example.{Result, accepts, gives, finishes, refuses, read, given}
use Rattle.definitions.proofs.Examples.Example.{transcript}
use Rattle.definitions.proofs.Examples.Example.{built}
use Rattle.definitions.proofs.Examples.Example.{Case, ◌is◌, Holds, example}

-- a book of these lines, and the example with one line altered
reading : List String → Result
reading lines = read (read_book lent (text_of lines))

line : (number : ℕ) → String → Result
line number altered = reading (set input_lines (number - 1) altered)

-- tables one word too short for the example's nodes
narrow : Lent
narrow = record { nodes = node_size * 4 - 1; classes = 1; roots = 2; plains = 2 }

-- the example's header with one node less, which its tables do not fit
fewer : Header
fewer = record { half = 1; states = 1; phones = 2; classes = 1; nodes = 3 }

-- the network of the example, read into arc space that it fills
counts : Counts
counts = record { states = 1; metastates = 4; arcs = 11 }

arcs : List ℕ
arcs = arcs_left (arc_size * 11) (read_network (arc_size * 11) output)

-- 11, 12 and 13: the text, the line, the range
pub lines : List Case
lines =
    reading input_lines is accepts
    ∷ reading [] is refuses 11 0
    ∷ read (read_book lent (drop 1 input)) is refuses 11 0
    ∷ line 2 "Z     1     1" is refuses 12 2
    ∷ line 3 "L     0    01" is refuses 12 3
    ∷ line 3 "L     0    10     0" is refuses 12 3
    ∷ line 1 "H     4     1     2     1     4" is refuses 13 1
    ∷ line 1 "H     3     1     2     1     4" is accepts
    ∷ line 3 "L     0     0" is refuses 13 3
    ∷ line 2 "Q     1     3" is refuses 13 2
    ∷ []

pub lines-hold : Holds lines
unfolding everything example reading line narrow fewer counts arcs lines
lines-hold = (refl, (refl, (refl, (refl, (refl, (refl, (refl, (refl, (refl, (refl, tt))))))))))

-- 14 to 17, and 20: the order, the children, the names, the counts, the tables
pub order : List Case
order =
    line 3 "R     1     1     0" is refuses 14 3
    ∷ line 3 "Q     1     1" is refuses 14 3
    ∷ line 5 "L     3    20" is refuses 14 5
    ∷ line 8 "R     1     1     1" is refuses 14 8
    ∷ line 4 "N     1     1     0     2     1" is refuses 15 4
    ∷ line 4 "N     1     1     0     3     3" is refuses 16 5
    ∷ reading (take 7 input_lines) is refuses 17 8
    ∷ reading (input_lines ++ ("?" ∷ [])) is refuses 17 9
    ∷ read (read_book narrow input) is refuses 20 1
    ∷ []

pub order-hold : Holds order
unfolding everything example reading line narrow fewer counts arcs order
order-hold = (refl, (refl, (refl, (refl, (refl, (refl, (refl, (refl, (refl, tt)))))))))

-- two faults in one line: 12 before 14, 14 for the letter before 13, 13 before 14 for the numbers, 13
-- before 15
pub two_faults : List Case
two_faults =
    line 3 "R     1     1" is refuses 12 3
    ∷ line 3 "R     9     1     0" is refuses 14 3
    ∷ line 5 "L     4    20" is refuses 13 5
    ∷ line 4 "N     1     2     0     1     3" is refuses 13 4
    ∷ []

pub two_faults-hold : Holds two_faults
unfolding everything example reading line narrow fewer counts arcs two_faults
two_faults-hold = (refl, (refl, (refl, (refl, tt))))

-- outside reading
pub elsewhere : List Case
elsewhere =
    transcript (transcribe fewer tables (1 ∷ []) 4) is refuses 18 0
    ∷ built (build fewer tables (space_for 3 4 11) 4) is refuses 18 0
    ∷ read (leaf_lookup header (1 ∷ []) (node_records header tables.nodes) 4 (1 ∷ 2 ∷ 1 ∷ [])) is refuses 18 0
    ∷ read (leaf_lookup header (1 ∷ []) (node_records header tables.nodes) 1 (1 ∷ 2 ∷ [])) is refuses 13 0
    ∷ built (build header tables (space_for 2 4 11) 4) is refuses 30 0
    ∷ built (build header tables (space_for 3 4 11) 5) is finishes 4 4 11
    ∷ transcript (transcribe header tables (1 ∷ []) 0) is refuses 33 0
    ∷ read (leaving counts arcs 5) is accepts
    ∷ read (leaving counts arcs 6) is refuses 42 0
    ∷ gives (program (replicate 65537 0)) is gives (text_of ("X    22     0" ∷ []))
    ∷ []

pub elsewhere-hold : Holds elsewhere
unfolding everything example reading line narrow fewer counts arcs elsewhere
elsewhere-hold = (refl, (refl, (refl, (refl, (refl, (refl, (refl, (refl, (refl, (refl, tt))))))))))

-- network text and the arcs that leave a state: 20 at line 1, 18 before 33, and before 42
pub networks : List Case
networks =
    read (read_network (arc_size * 11) output) is accepts
    ∷ read (read_network (arc_size * 11 - 1) output) is refuses 20 1
    ∷ given (write_network counts arcs 384) is gives output
    ∷ given (write_network counts arcs 383) is refuses 33 0
    ∷ given (write_network counts (set arcs 0 6) 383) is refuses 18 0
    ∷ read (leaving counts (set arcs 0 6) 6) is refuses 18 0
    ∷ []

pub networks-hold : Holds networks
unfolding everything example counts arcs networks
networks-hold = (refl, (refl, (refl, (refl, (refl, (refl, tt))))))
