-- Document 02, P5, on document 01's example and on a book of two states whose trees are deeper: how many questions a
-- walk meets, and how many a transcription puts in all, by the tables and by the lines.
use Rattle.std.specs.Prelude.{◌≡◌, refl, List, [], ◌∷◌, ℕ, ◌<◌, length}
use Rattle.std.proofs.Math.Option.{none, some}
use Prim.Native.String.{String}
use Rattle.definitions.specs.declared.Header.{Header}
use Rattle.definitions.specs.declared.Fault.TheVariants.{Utterance}
use Rattle.definitions.specs.Faults.{Outcome, answered, refused, refuse, and_then}
use Rattle.definitions.specs.BookLines.{BookLine, Reached}
use Rattle.definitions.specs.BookReading.{Lent, read_book}
use Rattle.definitions.specs.Tables.{Tables, tables_left, node_records}
use Rattle.definitions.specs.Lookup.{leaf_lookup, leaf_lookup_in_table}
use Rattle.definitions.specs.Transcription.{Transcribed, most_sounds, transcribe}
use Rattle.definitions.specs.QuestionsPut.{questions_put}
use Rattle.definitions.proofs.Laws.Trees.Utterances.{long-refused}
use Rattle.definitions.proofs.Examples.Everything.{everything}
use Rattle.definitions.proofs.Examples.Example.{text_of, input, header, lent, tables, Result, nothing, gives}
use Rattle.definitions.proofs.Examples.Example.{refuses, given, Case, ◌is◌, Holds, example}

-- leaf and questions of a walk; the questions of a transcription
walk_from : Outcome Reached → Result
walk_from found = given (and_then found (λ r. answered (r.leaf ∷ r.questions ∷ [])))

sum_for : Outcome Transcribed → Result
sum_for made = given (and_then made (λ t. answered (t.questions ∷ [])))

-- what the lines say
by_lines : (S : List ℕ) → Outcome (List BookLine) → Result
by_lines S (answered lines) = elim (questions_put lines S) [ none ↦ nothing | some sum ↦ gives (sum ∷ []) ]
by_lines S (refused r) = nothing

-- both lookups, over document 01's example
in_table : (root : ℕ) → (context : List ℕ) → Result
in_table root context = walk_from (leaf_lookup_in_table header tables.classes tables.nodes root context)

in_list : (root : ℕ) → (context : List ℕ) → Result
in_list root context =
    walk_from (leaf_lookup header tables.classes (node_records header tables.nodes) root context)

-- a leaf that is a root is reached without a question
pub walks : List Case
walks =
    in_table 0 (1 ∷ 1 ∷ 1 ∷ []) is gives (0 ∷ 0 ∷ [])
    ∷ in_table 1 (1 ∷ 2 ∷ 1 ∷ []) is gives (2 ∷ 1 ∷ [])
    ∷ in_table 1 (2 ∷ 2 ∷ 1 ∷ []) is gives (3 ∷ 1 ∷ [])
    ∷ in_list 0 (1 ∷ 1 ∷ 1 ∷ []) is gives (0 ∷ 0 ∷ [])
    ∷ in_list 1 (2 ∷ 2 ∷ 1 ∷ []) is gives (3 ∷ 1 ∷ [])
    ∷ in_list 4 (2 ∷ 2 ∷ 1 ∷ []) is refuses 18 0
    ∷ []

pub walks-hold : Holds walks
unfolding everything example walk_from in_table in_list walks
walks-hold = (refl, (refl, (refl, (refl, (refl, (refl, tt))))))

-- the sums of document 01's sequences
asked : (S : List ℕ) → Result
asked S = sum_for (transcribe header tables S 4)

pub sums : List Case
sums =
    asked (1 ∷ []) is gives (0 ∷ [])
    ∷ asked (1 ∷ 2 ∷ 1 ∷ []) is gives (1 ∷ [])
    ∷ asked (1 ∷ 2 ∷ 2 ∷ 1 ∷ []) is gives (2 ∷ [])
    ∷ by_lines (1 ∷ 2 ∷ 2 ∷ 1 ∷ []) (read_book lent input) is gives (2 ∷ [])
    ∷ by_lines (1 ∷ 3 ∷ 1 ∷ []) (read_book lent input) is nothing
    ∷ asked [] is refuses 41 0
    ∷ []

pub sums-hold : Holds sums
unfolding everything example sum_for by_lines asked sums
sums-hold = (refl, (refl, (refl, (refl, (refl, (refl, tt))))))

-- each sequence of more than 1000000 phones
pub long : (S : List ℕ) → most_sounds < length S → transcribe header tables S 4 ≡ refuse Utterance 0
unfolding everything example
long S h = long-refused header tables tt S h 4

-- two states: silence has leaves alone; phone 2 has a tree of two questions and one of a single one
deeper : List String
deeper =
    "H     1     2     2     2    10"
    ∷ "Q     1     1"
    ∷ "Q     2     2"
    ∷ "L     0    10"
    ∷ "L     1    11"
    ∷ "N     2     1     0     3     4"
    ∷ "L     3    20"
    ∷ "N     4     2     2     5     6"
    ∷ "L     5    21"
    ∷ "L     6    22"
    ∷ "N     7     1     2     8     9"
    ∷ "L     8    23"
    ∷ "L     9    24"
    ∷ "R     1     1     0"
    ∷ "R     1     2     1"
    ∷ "R     2     1     2"
    ∷ "R     2     2     7"
    ∷ []

deeper_header : Header
deeper_header = record { half = 1; states = 2; phones = 2; classes = 2; nodes = 10 }

deeper_lent : Lent
deeper_lent = record { nodes = 50; classes = 2; roots = 4; plains = 2 }

deeper_tables : Tables
deeper_tables = tables_left deeper_lent (read_book deeper_lent (text_of deeper))

-- 1 2 2 2 1: the first 2 meets 1 and 1 questions, the second and the third 2 and 1 each
pub deep : List Case
deep =
    sum_for (transcribe deeper_header deeper_tables (1 ∷ 2 ∷ 1 ∷ []) 6) is gives (2 ∷ [])
    ∷ sum_for (transcribe deeper_header deeper_tables (1 ∷ 2 ∷ 2 ∷ 2 ∷ 1 ∷ []) 10) is gives (8 ∷ [])
    ∷ by_lines (1 ∷ 2 ∷ 2 ∷ 2 ∷ 1 ∷ []) (read_book deeper_lent (text_of deeper)) is gives (8 ∷ [])
    ∷ sum_for (transcribe deeper_header deeper_tables (1 ∷ 2 ∷ 2 ∷ 2 ∷ 1 ∷ []) 9) is refuses 33 0
    ∷ []

pub deep-hold : Holds deep
unfolding everything example sum_for by_lines deeper deeper_header deeper_lent deeper_tables deep
deep-hold = (refl, (refl, (refl, (refl, tt))))
