-- `titles::place` meets its contract.
use Rattle.std.proofs.Common.{◌≡◌, ◌∙◌, sym, rules}
use borrow.Author.Tests.{tests}
use Rattle.std.proofs.lemmas.Iterator.{IsFirst-from_position, YieldsList-from_slice}
use Rattle.showing.specs.Laws.Titles.{place-first}
use Rattle.showing.proofs.titles.place.Goals as goal

pub returns-clause-found : goal.returns-clause-found
returns-clause-found c =
    let byte = c.args.byte in
    c.unwrap_or.ensures
    ∙ sym (place-first byte c.args.text.now c.position.result
    (IsFirst-from_position _ _ _ (λ y. y ≡ byte) (λ y. y ≡ byte → ⊥) c.position.ensures.ran
    (YieldsList-from_slice _ c.iter.ensures.rest) (λ x q k. search (rules, tests)) (λ x q k. search (rules, tests))))
