-- What the program has read of its input when it prints.
use Rattle.std.specs.Prelude.{◌≡◌, List, ℕ, length, take}
use Rattle.definitions.specs.Program.{program}
use Rattle.program.specs.Printing.{Prints}

-- an input is read into a buffer, until it ends or the buffer is full: so many bytes of the buffer are read, and
-- they are as many of the input's first as the buffer has room for
abbrev pub ReadInto : (buffer : List ℕ) → (read : ℕ) → (input : List ℕ) → Type 0
ReadInto buffer read input = take read buffer ≡ take (length buffer) input

-- what is printed is right for the whole of every input that is read so, however long it is
abbrev pub PrintsInput : (buffer : List ℕ) → (read : ℕ) → (output : List ℕ) → (count : ℕ) → Type 0
PrintsInput buffer read output count =
    (input : List ℕ) → ReadInto buffer read input → Prints (program input) output count
