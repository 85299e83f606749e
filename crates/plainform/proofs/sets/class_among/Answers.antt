-- `sets::class_among` meets its contract: a place is at most the number of sets, so its number fits a word.
use Rattle.std.proofs.Common.{◌≡◌, ◌∙◌, sym, rules, arith, eqb}
use borrow.Author.Tests.{tests}
use Rattle.std.proofs.lemmas.Iterator.{IsFirst-from_position, YieldsList-from_slice}
use Rattle.definitions.specs.Lists.{place_of}
use Rattle.plainform.specs.Laws.Sets.{place-first}
use Rattle.plainform.proofs.sets.class_among.Goals as goal
use Rattle.plainform.proofs.sets.class_among.Goals.{After-unwrap_or}

-- the place that was found, or the number of sets
found : (c : goal.After-unwrap_or) → c.unwrap_or.result ≡ place_of eqb c.args.sets.now c.set_of-set.result
found c =
    let set = c.set_of-set.result in
    c.unwrap_or.ensures
    ∙ sym (place-first set c.args.sets.now c.position-place.result
    (IsFirst-from_position _ _ _ (λ y. y ≡ set) (λ y. y ≡ set → ⊥) c.position-place.ensures.ran
    (YieldsList-from_slice _ c.iter.ensures.rest) (λ x q k. search (rules, tests)) (λ x q k. search (rules, tests))))

pub returns : goal.returns
returns c = rw (← c.set_of-set.ensures) (omega (arith, found (goal.at.returns c).After-unwrap_or))
