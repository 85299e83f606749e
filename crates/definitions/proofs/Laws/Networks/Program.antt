-- Laws about the build program: an input that is too long prints the same as its first 65537 bytes, so the
-- program need read no more than those; and the line that tells a refusal has 32 bytes. The program's proofs use
-- them.
use Rattle.std.specs.Prelude.{◌≡◌, List, [], ◌∷◌, Bool, ℕ, ◌≤◌, ◌<◌, T, ltb, length, take}
use Rattle.std.proofs.Common.{sym, ap, ◌∙◌, arith, lt→ltb, lit≤, length-take-le, take_all, lt-ltb, le-ltb, ltb-true, ltb-false}
use Prim.Native.Char.{code}
use Rattle.definitions.specs.declared.Fault.{Fault}
use Rattle.definitions.specs.declared.Fault.TheVariants.{Ragged, Misprint, Range, Order, Backward}
use Rattle.definitions.specs.declared.Fault.TheVariants.{Orphan, Count, Foreign, Narrow, Long, Choices}
use Rattle.definitions.specs.declared.Fault.TheVariants.{Crowd, Tangle, Short, Utterance, State, Vocabulary}
use Rattle.definitions.specs.declared.Refusal.{Refusal}
use Rattle.definitions.specs.Lists.{every}
use Rattle.definitions.specs.Faults.{number_of}
use Rattle.definitions.specs.BookBuilding.{build_book}
use Rattle.definitions.specs.Program.{program_lent, program_space, program_turns, network_of, refusal_text}
use Rattle.definitions.specs.Program.{printed, program}
use Rattle.definitions.proofs.Laws.Lists.Tests.{by-test}
use Rattle.definitions.proofs.Laws.Lists.Lists.{every-cons}
use Rattle.definitions.proofs.Laws.Text.LineFields.{all_fit}
use Rattle.definitions.proofs.Laws.Text.Lines.{line-length}
use Rattle.definitions.specs.declared.Fault.TheVariants.{Chained}

-- ---- the length of the input

-- 22 before all others, or the book's network or refusal
pub program-long : (input : List ℕ) → 65536 < length input
    → program input ≡ refusal_text (record { fault = Long; line = 0 })
unfolding program printed
program-long input h = rw (lt-ltb 65536 (length input) h, program)

pub program-short : (input : List ℕ) → length input ≤ 65536
    → program input ≡ printed (network_of (build_book program_lent program_space program_turns input))
unfolding program
program-short input h = rw (le-ltb 65536 (length input) h, program)

-- what lies beyond the byte that makes it too long does not count
program-cut : (input : List ℕ) → 65536 < length input → program (take 65537 input) ≡ program input
program-cut input h =
    let cut : length (take 65537 input) ≡ 65537 = length-take-le 65537 input (omega arith) in
    program-long (take 65537 input) (omega (arith, cut)) ∙ sym (program-long input h)

-- so it is enough to read so many bytes of any input
pub program-read : (input : List ℕ) → program (take 65537 input) ≡ program input
program-read input =
    by-test (ltb 65536 (length input))
    (λ e. program-cut input (ltb-true 65536 (length input) e))
    (λ e. ap program (take_all 65537 input (omega (arith, ltb-false 65536 (length input) e))))

-- ---- the line of a refusal

-- a fault's number is at most 51, so it has room in a field
pub fault-small : (fault : Fault) → number_of fault ≤ 51
fault-small Ragged = lit≤ tt
fault-small Misprint = lit≤ tt
fault-small Range = lit≤ tt
fault-small Order = lit≤ tt
fault-small Backward = lit≤ tt
fault-small Orphan = lit≤ tt
fault-small Count = lit≤ tt
fault-small Foreign = lit≤ tt
fault-small Narrow = lit≤ tt
fault-small Chained = lit≤ tt
fault-small Long = lit≤ tt
fault-small Choices = lit≤ tt
fault-small Crowd = lit≤ tt
fault-small Tangle = lit≤ tt
fault-small Short = lit≤ tt
fault-small Utterance = lit≤ tt
fault-small State = lit≤ tt
fault-small Vocabulary = lit≤ tt

pub refusal-length : (r : Refusal) → r.line ≤ 999999 → length (refusal_text r) ≡ 32
unfolding refusal_text every
refusal-length r h =
    let number : ℕ = number_of r.fault in
    let small : ℕ → Bool = λ n. ltb n 1000000 in
    let second : T (all_fit (r.line ∷ [])) =
    (every-cons small r.line []).1 (lt→ltb r.line 1000000 (omega arith), tt) in
    let fit : T (all_fit (number ∷ r.line ∷ [])) =
    (every-cons small number (r.line ∷ [])).1
    (lt→ltb number 1000000 (omega (arith, fault-small r.fault)), second) in
    line-length (record { letter = code "X"; numbers = number ∷ r.line ∷ [] }) (lit≤ tt) fit
