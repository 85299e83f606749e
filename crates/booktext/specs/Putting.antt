-- Lines written one after the other into a text, each where there is room for it, and counted in any case.
use Rattle.std.specs.Prelude.{if◌then◌else◌, ◌≡◌, List, [], ◌∷◌, ◌++◌, Bool, ◌&&◌, ℕ, zero, suc, Option, Some, None, ◌+◌, ◌*◌, ◌≤◌, leb, ltb, length}
use Rattle.definitions.specs.Lists.{every}
use Rattle.definitions.specs.Lines.{Line, line_text}
use Rattle.lines.specs.Putting.{put_at}
use Rattle.lines.specs.Rows.{line_in}
use Rattle.lines.specs.declared.Row.{Row}

-- a line whose numbers have room in their fields: at most six digits each
abbrev pub line_fits : Line → Bool
line_fits line = every (λ n. ltb n 1000000) line.numbers

-- a text after a line was written as number `count`, from 0, where there is room for it
unfoldable pub put_line : Line → (count : ℕ) → (text : List ℕ) → List ℕ
put_line line count text =
    if leb (32 * count + 32) (length text) && line_fits line then put_at (32 * count) (line_text line) text else text

unfoldable pub put_lines : List Line → (count : ℕ) → (text : List ℕ) → List ℕ
put_lines [] count text = text
put_lines (line ∷ lines) count text = put_lines lines (suc count) (put_line line count text)

-- lines that a 64-bit word counts, after so many
abbrev pub Countable : List Line → (count : ℕ) → Type 0
Countable lines count = count + length lines ≤ 18446744073709551615

-- a text and a count before and after lines were written
pub record Put (lines : List Line) (before : List ℕ) (count : ℕ) (after : List ℕ) (next : ℕ) : Type 0 where
  pub counts : next ≡ count + length lines
  pub puts : after ≡ put_lines lines count before

-- the line of a row, where there is one; and a row that is for a line, or for none
abbrev pub row_lines : Option Row → List Line
row_lines None = []
row_lines (Some row) = line_in row ∷ []

abbrev pub Narrow : Option Row → Type 0
Narrow None = Unit {0}
Narrow (Some row) = row.used ≤ 5

pub record RowFor (lines : List Line) (row : Option Row) : Type 0 where
  pub narrow : Narrow row
  pub says : row_lines row ≡ lines

-- the lines of the rows that are given at the first places, in order
abbrev pub Given : (gives : ℕ → Option Row → Type 0) → (places : ℕ) → List Line → Type 0
Given gives zero lines = lines ≡ []
Given gives (suc place) lines =
    (before : List Line) × (row : Option Row) × Given gives place before × gives place row
    × (lines ≡ before ++ row_lines row)
