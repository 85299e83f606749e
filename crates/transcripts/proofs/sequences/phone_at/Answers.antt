-- `sequences::phone_at` meets its contract: before the sequence, within it, after it.
use mathlib.Core.Path.{◌≡◌, sym, ◌∙◌}
use Prim.Native.Nat.{ℕ, ◌+◌, ◌-◌}
use lib.Dec.{ltb}
use lib.ListN.{length, get_or, get_or-eq_default}
use borrow.Author.Tests.{ltb-true, ltb-false}
use Rattle.std.proofs.lemmas.List.{get_or_default}
use Rattle.definitions.proofs.Laws.Lists.Tests.{by-test}
use Rattle.definitions.proofs.Laws.Trees.Contexts.{context-before, context-within, context-after}
use borrow.Author.Rules.{rules}
use Rattle.transcripts.proofs.sequences.phone_at.Goals as goal

pub returns-then-around-half : goal.returns-then-around-half
returns-then-around-half c =
    let a = c.args in
    sym (context-before a.half _ a.place (search rules) a.column (search rules) c.if-around-half.true)

pub returns : goal.returns
returns c =
    let a = c.args in
    let at : ℕ = a.place + a.column - a.half in
    let found : c.unwrap_or.result ≡ get_or a.sequence.now at 1 = search rules in
    found ∙ by-test (ltb at (length a.sequence.now))
    (λ t. let inside = ltb-true _ _ t in
    get_or_default _ _ _ _ inside
    ∙ sym (context-within a.half _ a.place (search rules) a.column (search rules) (search rules) inside))
    (λ t. let beyond = ltb-false _ _ t in
    get_or-eq_default a.sequence.now 1 beyond
    ∙ sym (context-after a.half _ a.place (search rules) a.column (search rules) (search rules) beyond))
