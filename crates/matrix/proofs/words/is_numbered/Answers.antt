-- `words::is_numbered` meets its contract: `==` and `starts_with` compare place by place.
use Rattle.std.proofs.Common.{ap, ◌∙◌, List, ℕ, eqb, length, take}
use Rattle.std.specs.Cmp.Lexicographic.{pointwise}
use Rattle.std.proofs.lemmas.List.{take_rest}
use Rattle.matrix.specs.Laws.Words.{numbered-none, numbered-rest, numbered-other}
use Rattle.matrix.proofs.words.is_numbered.Goals as goal

pub returns-in-empty : goal.returns-in-empty
returns-in-empty c = numbered-none c.args.words.now _ c.in-empty.len_below

pub returns-then-first-number : goal.returns-then-first-number
returns-then-first-number c =
    let a = c.args in
    numbered-rest a.words.now a.number a.m.columns c.in-len1-up.len_at_least c.if-first-number.true
    (c.starts_with.ensures.value
    ∙ ap (λ (l : List ℕ). pointwise eqb l (take (length l) a.m.columns)) (take_rest a.words.now 1))

pub returns-else-first-number : goal.returns-else-first-number
returns-else-first-number c =
    let a = c.args in
    numbered-other a.words.now a.number a.m.columns c.in-len1-up.len_at_least c.if-first-number.false
