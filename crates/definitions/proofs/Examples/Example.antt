-- Document 01, "A whole example": its book, its network, and how the tables of cases ask about them.
use Rattle.std.specs.Prelude.{◌≡◌, List, [], ◌∷◌, ◌++◌, ℕ, ◌-◌, ◌*◌, length, replicate}
use Prim.Native.Char.{code}
use Prim.Native.String.{String, [] as no_text, ◌∷◌ as ◌then◌}
use Rattle.definitions.specs.declared.Header.{Header}
use Rattle.definitions.specs.Faults.{Outcome, answered, refused, number_of}
use Rattle.definitions.specs.Lists.{concat_map}
use Rattle.definitions.specs.Lines.{space as blank, line_feed}
use Rattle.definitions.specs.BookReading.{Lent, node_size, read_book}
use Rattle.definitions.specs.Tables.{Tables, tables_left}
use Rattle.definitions.specs.Combinations.{combination_size}
use Rattle.definitions.specs.Arcs.{arc_size}
use Rattle.definitions.specs.Metastates.{metastate_size}
use Rattle.definitions.specs.Growing.{finished, stopped}
use Rattle.definitions.specs.Connecting.{Built}
use Rattle.definitions.specs.Building.{Space}
use Rattle.definitions.specs.Transcription.{Transcribed}

-- Texts. A line is written as in the document, "with blank fields to the line's end".
unfoldable pub bytes_of : String → List ℕ
bytes_of no_text = []
bytes_of (first then rest) = code first ∷ bytes_of rest

unfoldable pub line_bytes : String → List ℕ
line_bytes line = bytes_of line ++ replicate (31 - length (bytes_of line)) blank ++ (line_feed ∷ [])

unfoldable pub text_of : List String → List ℕ
text_of lines = concat_map line_bytes lines

-- "Input and output"
unfoldable pub input_lines : List String
input_lines =
    "H     1     1     2     1     4"
    ∷ "Q     1     1"
    ∷ "L     0    10"
    ∷ "N     1     1     0     2     3"
    ∷ "L     2    20"
    ∷ "L     3    21"
    ∷ "R     1     1     0"
    ∷ "R     2     1     1"
    ∷ []

unfoldable pub input : List ℕ
input = text_of input_lines

unfoldable pub output : List ℕ
output =
    text_of
    ("W     1     4    11"
    ∷ "A     0     2    10     1"
    ∷ "A     2     1     0     0"
    ∷ "A     2     2    10     1"
    ∷ "A     2     3    20     2"
    ∷ "A     3     4    10     1"
    ∷ "A     3     5    21     2"
    ∷ "A     4     1     0     0"
    ∷ "A     4     2    10     1"
    ∷ "A     4     3    20     2"
    ∷ "A     5     4    10     1"
    ∷ "A     5     5    21     2"
    ∷ [])

-- the example read into tables that it fills
unfoldable pub header : Header
header = record { half = 1; states = 1; phones = 2; classes = 1; nodes = 4 }

unfoldable pub lent : Lent
lent = record { nodes = node_size * 4; classes = 1; roots = 2; plains = 2 }

unfoldable pub tables : Tables
tables = tables_left lent (read_book lent input)

-- space for so many combinations, metastates and arcs, in records of the example
unfoldable pub space_for : (combinations metastates arcs : ℕ) → Space
space_for combinations metastates arcs =
    record {
      combinations = combination_size 1 * combinations;
      metastates = metastate_size 1 * metastates;
      arcs = arc_size * arcs;
    }

-- What an entry answers, in the document's numbers.
pub data Result : Type 0 where
  accepts nothing : Result
  gives : List ℕ → Result
  finishes stops : (turns metastates arcs : ℕ) → Result
  refuses : (number line : ℕ) → Result

unfoldable pub read : {A : Type 0} → Outcome A → Result
read (answered a) = accepts
read (refused r) = refuses (number_of r.fault) r.line

unfoldable pub given : Outcome (List ℕ) → Result
given (answered numbers) = gives numbers
given (refused r) = refuses (number_of r.fault) r.line

-- the models of a transcription alone
unfoldable pub transcript : Outcome Transcribed → Result
transcript (answered t) = gives t.models
transcript (refused r) = refuses (number_of r.fault) r.line

unfoldable pub built : Outcome Built → Result
built (answered (finished turns net)) = finishes turns (length net.table) (length net.arcs)
built (answered (stopped turns net)) = stops turns (length net.table) (length net.arcs)
built (refused r) = refuses (number_of r.fault) r.line

-- A table of cases: what is asked, and what the document says to it. It holds row by row.
pub record Case : Type 0 where
  pub asked : Result
  pub said : Result

infix 68 ◌is◌
abbrev pub ◌is◌ : Result → Result → Case
asked is said = record { asked = asked; said = said }

abbrev pub Holds : List Case → Type 0
Holds [] = Unit {0}
Holds (case ∷ table) = (case.asked ≡ case.said) × Holds table

-- opens all of this file, for the tables
unfoldable pub example : Unit {0}
unfolding bytes_of line_bytes text_of input_lines input output header lent tables space_for read given transcript
    built
example = tt
