-- `words::matrix_at` meets its contract: as many words as there are, 0 after them.
use Rattle.std.proofs.Common.{◌∙◌, ap, ◌+◌, ◌-◌, ◌≡◌, ℕ, List, min, ◌++◌, length, length-drop, drop, arith}
use Rattle.definitions.specs.Lists.{cleared}
use Rattle.matrix.specs.Laws.Words.{seven-read}
use Rattle.matrix.proofs.words.matrix_at.Goals as goal

pub returns-then-from-words : goal.returns-then-from-words
returns-then-from-words c =
    let a = c.args in
    let n : ℕ = c.min-there.result in
    let few : n ≡ min (length (drop a.from a.words.now)) 7 = rw length-drop c.min-there.ensures in
    let read : a.from + n - a.from ≡ n = omega arith in
    ap (λ (l : List ℕ). l ++ drop n (cleared 7)) (c.copy_from_slice.ensures.after ∙ rw read)
    ∙ seven-read (drop a.from a.words.now) n few

pub returns-else-from-words : goal.returns-else-from-words
returns-else-from-words c =
    let a = c.args in
    seven-read (drop a.from a.words.now) 0 (rw length-drop (omega (arith, c.if-from-words.false)))
