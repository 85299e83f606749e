-- `words::put_numbered` meets its contract: a number, and as many columns after it as have room.
use Rattle.std.proofs.Common.{rules, sym, ◌∙◌, ◌+◌, ◌-◌, ◌≡◌, ℕ, min, length, length-set, length-take-le, take, set, arith}
use Rattle.std.proofs.lemmas.Slice.{put_mid-paste}
use Rattle.matrix.specs.Laws.Words.{overwritten-none, numbered-put}
use Rattle.matrix.proofs.words.put_numbered.Goals as goal

pub returns-then-at-words : goal.returns-then-at-words
returns-then-at-words c =
    let a = c.args in
    let n : ℕ = c.min-there.result in
    let sized : length a.m.columns ≡ 7 = search rules in
    let few : n ≡ min (length a.words.now - a.at - 1) (length a.m.columns) =
    let m = rw length-set at c.min-there.ensures in rw sized m in
    put_mid-paste (a.at + 1) (a.at + 1 + n - (a.at + 1)) (set a.words.now a.at a.number) c.copy_from_slice.new.self
    (take n a.m.columns) n c.copy_from_slice.ensures.after (omega arith) (sym (length-take-le n a.m.columns (omega (arith, few, sized))))
    ∙ numbered-put a.words.now a.at a.number a.m.columns c.if-at-words.true n few

pub returns-else-at-words : goal.returns-else-at-words
returns-else-at-words c =
    let a = c.args in
    sym (overwritten-none a.words.now a.at _ c.if-at-words.false)
