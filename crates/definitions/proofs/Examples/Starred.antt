-- The ★ cases of document 01, proved together as one table about the definitions that contracts cite.
use Rattle.std.specs.Prelude.{refl, List, [], ◌∷◌, ℕ}
use Rattle.definitions.specs.Building.{Space, build}
use Rattle.definitions.specs.Transcription.{transcribe}
use Rattle.definitions.specs.Program.{program}
use Rattle.definitions.proofs.Examples.Everything.{everything}
use Rattle.definitions.proofs.Examples.Example.{input, output, header, tables, space_for, transcript, built}
use Rattle.definitions.proofs.Examples.Example.{Result, gives, finishes, stops, refuses, Case, ◌is◌}
use Rattle.definitions.proofs.Examples.Example.{Holds, example}

-- a sequence transcribed, into a buffer for four models
phones : (S : List ℕ) → Result
phones S = transcript (transcribe header tables S 4)

-- the network built, with so much space and so many turns
building : Space → (turns : ℕ) → Result
building space turns = built (build header tables space turns)

-- the document's cases in its order; space and turns are the program's where a case names no others
pub table : List Case
table =
    gives (program input) is gives output
    ∷ phones (1 ∷ []) is gives (10 ∷ [])
    ∷ phones (1 ∷ 2 ∷ 1 ∷ []) is gives (10 ∷ 20 ∷ 10 ∷ [])
    ∷ phones (1 ∷ 2 ∷ 2 ∷ 1 ∷ []) is gives (10 ∷ 20 ∷ 21 ∷ 10 ∷ [])
    ∷ phones [] is refuses 41 0
    ∷ phones (2 ∷ 1 ∷ []) is refuses 41 0
    ∷ building (space_for 512 4 2000) 512 is finishes 4 4 11
    ∷ building (space_for 512 3 2000) 512 is refuses 31 0
    ∷ building (space_for 512 512 11) 512 is finishes 4 4 11
    ∷ building (space_for 512 512 10) 512 is refuses 32 0
    ∷ building (space_for 512 3 5) 512 is refuses 31 0
    ∷ building (space_for 512 512 2000) 4 is finishes 4 4 11
    ∷ building (space_for 512 512 2000) 3 is stops 3 4 9
    ∷ []

pub starred : Holds table
unfolding everything example phones building table
starred =
    (refl, (refl, (refl, (refl, (refl, (refl, (refl, (refl, (refl, (refl, (refl, (refl, (refl, tt)))))))))))))
