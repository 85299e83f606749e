-- Lent tables and buffers on document 01's example: tables a word away from those that reading leaves are 18, 18 comes
-- before 13 and 41, 41 before 33, and what is left in the tables and in a model buffer.
use Rattle.std.specs.Prelude.{refl, List, [], ◌∷◌, ◌++◌, ℕ, take, drop, set, replicate}
use Rattle.definitions.specs.declared.Header.{Header}
use Rattle.definitions.specs.BookReading.{Lent, read_book}
use Rattle.definitions.specs.Tables.{Tables, tables_left}
use Rattle.definitions.specs.Lookup.{leaf_lookup_in_table}
use Rattle.definitions.specs.Transcription.{transcribe, models_left}
use Rattle.definitions.proofs.Examples.Everything.{everything}
use Rattle.definitions.proofs.Examples.Example.{input, header, tables}
use Rattle.definitions.proofs.Examples.Example.{Result, gives, refuses, read, transcript}
use Rattle.definitions.proofs.Examples.Example.{Case, ◌is◌, Holds, example}

-- what the transcription of silence answers over the example's tables with other nodes, classes or roots
silence : Tables → Result
silence lent-tables = transcript (transcribe header lent-tables (1 ∷ []) 4)

with_nodes : List ℕ → Tables
with_nodes words =
    record { nodes = words; classes = tables.classes; roots = tables.roots; plains = tables.plains }

with_classes : List ℕ → Tables
with_classes words =
    record { nodes = tables.nodes; classes = words; roots = tables.roots; plains = tables.plains }

with_roots : List ℕ → Tables
with_roots words =
    record { nodes = tables.nodes; classes = tables.classes; roots = words; plains = tables.plains }

-- words that reading leaves, and words that it never leaves
pub known : List Case
known =
    silence tables is gives (10 ∷ [])
    ∷ silence (with_nodes (tables.nodes ++ (0 ∷ []))) is gives (10 ∷ [])
    ∷ silence (with_nodes (tables.nodes ++ (1 ∷ []))) is refuses 18 0
    ∷ silence (with_nodes (drop 1 tables.nodes)) is refuses 18 0
    ∷ silence (with_nodes (set tables.nodes 0 3)) is refuses 18 0
    ∷ silence (with_nodes (set tables.nodes 2 1)) is refuses 18 0
    ∷ silence (with_nodes (set tables.nodes 8 1)) is refuses 18 0
    ∷ silence (with_nodes (set tables.nodes 9 2)) is refuses 18 0
    ∷ silence (with_classes (4 ∷ [])) is refuses 18 0
    ∷ silence (with_classes (3 ∷ [])) is gives (10 ∷ [])
    ∷ silence (with_roots (4 ∷ 1 ∷ [])) is refuses 18 0
    ∷ silence (with_roots (1 ∷ 0 ∷ [])) is gives (20 ∷ [])
    ∷ []

-- a header with one node less, which the example's tables do not fit
fewer : Header
fewer = record { half = 1; states = 1; phones = 2; classes = 1; nodes = 3 }

leaf_from : (root : ℕ) → (context : List ℕ) → Result
leaf_from root context = read (leaf_lookup_in_table header tables.classes tables.nodes root context)

-- 18, then 13 or 41, then 33
pub order : List Case
order =
    leaf_from 4 (1 ∷ 2 ∷ []) is refuses 18 0
    ∷ leaf_from 1 (1 ∷ 2 ∷ []) is refuses 13 0
    ∷ leaf_from 1 (0 ∷ 2 ∷ 1 ∷ []) is refuses 13 0
    ∷ transcript (transcribe fewer tables [] 4) is refuses 18 0
    ∷ transcript (transcribe header tables (2 ∷ 1 ∷ []) 0) is refuses 41 0
    ∷ transcript (transcribe header tables (1 ∷ 2 ∷ []) 4) is refuses 41 0
    ∷ transcript (transcribe header tables (1 ∷ 3 ∷ 1 ∷ []) 4) is refuses 41 0
    ∷ transcript (transcribe header tables (1 ∷ 2 ∷ 1 ∷ []) 2) is refuses 33 0
    ∷ transcript (transcribe header tables (1 ∷ 2 ∷ 1 ∷ []) 3) is gives (10 ∷ 20 ∷ 10 ∷ [])
    ∷ []

-- what a transcription leaves in a buffer of three words, and reading in tables of 22, 2 and 3 words
buffer : (S : List ℕ) → Result
buffer S = gives (models_left 3 (transcribe header tables S 3))

wider : Lent
wider = record { nodes = 22; classes = 2; roots = 3; plains = 3 }

leaves : List ℕ → Tables
leaves text = tables_left wider (read_book wider text)

pub left : List Case
left =
    buffer (1 ∷ []) is gives (10 ∷ 0 ∷ 0 ∷ [])
    ∷ buffer (2 ∷ 1 ∷ []) is gives (0 ∷ 0 ∷ 0 ∷ [])
    ∷ gives (leaves input).nodes is gives
    (2 ∷ 10 ∷ 0 ∷ 0 ∷ 0 ∷ 1 ∷ 1 ∷ 0 ∷ 2 ∷ 3 ∷ 2 ∷ 20 ∷ 0 ∷ 0 ∷ 0 ∷ 2 ∷ 21 ∷ 0 ∷ 0 ∷ 0 ∷ 0 ∷ 0 ∷ [])
    ∷ gives (leaves input).classes is gives (1 ∷ 0 ∷ [])
    ∷ gives (leaves input).roots is gives (0 ∷ 1 ∷ 0 ∷ [])
    ∷ gives (leaves (drop 32 input)).nodes is gives (replicate 22 0)
    ∷ gives (leaves (take 224 input)).classes is gives (0 ∷ 0 ∷ [])
    ∷ gives (leaves (take 224 input)).roots is gives (0 ∷ 0 ∷ 0 ∷ [])
    ∷ []

pub known-hold : Holds known
unfolding everything example silence with_nodes with_classes with_roots known
known-hold =
    (refl, (refl, (refl, (refl, (refl, (refl, (refl, (refl, (refl, (refl, (refl, (refl, tt))))))))))))

pub order-hold : Holds order
unfolding everything example fewer leaf_from order
order-hold = (refl, (refl, (refl, (refl, (refl, (refl, (refl, (refl, (refl, tt)))))))))

pub left-hold : Holds left
unfolding everything example buffer wider leaves left
left-hold = (refl, (refl, (refl, (refl, (refl, (refl, (refl, (refl, tt))))))))
