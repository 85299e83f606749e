-- Laws about rows that fit a line, and what writing a row leaves.
use Rattle.std.specs.Prelude.{◌≡◌, refl, List, [], ◌∷◌, Bool, true, false, ◌&&◌, ℕ, ◌≤◌, ◌<◌, T, leb, ltb, length, take}
use Rattle.std.proofs.Common.{sym, subst, ◌∙◌, arith, leb→le, le→leb, ltb→lt, lt→ltb, le-leb}
use Rattle.std.proofs.lemmas.Bool.{lt-leb}
use Rattle.definitions.specs.Lists.{if◌then◌else◌, every}
use Rattle.definitions.proofs.Laws.Lists.Tests.{T_and, same_tests}
use Rattle.definitions.proofs.Laws.Text.LineFields.{all_fit}
use Rattle.lines.specs.Rows.{line_in}
use Rattle.lines.specs.declared.Row.{Row}
use Rattle.writing.specs.Writing.{writable, written}

-- a number of at most six digits
abbrev pub is_small : ℕ → Bool
is_small n = leb n 999999

pub writable-many : (row : Row) → 5 < row.used → false ≡ writable row
unfolding writable
writable-many row h = rw (lt-leb row.used 5 h)

pub writable-few : (row : Row) → row.used ≤ 5
    → every is_small (take row.used row.numbers) ≡ writable row
unfolding writable line_in
writable-few row h = rw (le-leb row.used 5 h)

-- what a row that fits a line has: at most five numbers, of at most six digits
pub writable-parts : (row : Row) → writable row ≡ true
    → (row.used ≤ 5) × T (every is_small (line_in row).numbers)
unfolding writable
writable-parts row h =
    let few = leb row.used 5 in
    let small = every is_small (line_in row).numbers in
    let (a, b) = (T_and few small).0 (subst T (sym h) tt) in
    (leb→le row.used 5 a, b)

-- numbers of at most six digits are those that have room in a field
small-fit : (numbers : List ℕ) → every is_small numbers ≡ all_fit numbers
unfolding every
small-fit [] = refl
small-fit (n ∷ numbers) =
    let own : is_small n ≡ ltb n 1000000 =
    same_tests (is_small n) (ltb n 1000000) (λ t. lt→ltb n 1000000 (omega (arith, leb→le n 999999 t)))
    (λ t. le→leb n 999999 (omega (arith, ltb→lt n 1000000 t))) in
    rw (own, small-fit numbers)

-- what writing a row into bytes answers and leaves
abbrev pub LineLeft : Row → (bytes : List ℕ) → (done : Bool) → (after : List ℕ) → Type 0
LineLeft row bytes done after =
    (done ≡ (leb 32 (length bytes) && writable row)) × (after ≡ (if done then written row bytes else bytes))

-- where there is room, that is the line if its numbers have room in their fields
pub line-left : (row : Row) (bytes : List ℕ) {after : List ℕ} {done : Bool} → row.used ≤ 5 → 32 ≤ length bytes
    → LineLeft row bytes done after
    → after ≡ (if all_fit (line_in row).numbers then written row bytes else bytes)
unfolding line_in
line-left row bytes few room (answer, leaves) =
    let own : writable row ≡ all_fit (line_in row).numbers =
    sym (writable-few row few) ∙ small-fit (line_in row).numbers in
    leaves ∙ rw (answer, le-leb 32 (length bytes) room, own)
