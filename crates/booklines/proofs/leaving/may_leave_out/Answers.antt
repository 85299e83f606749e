-- `leaving::may_leave_out` meets its contract: the phones between are the numbers that the code goes through, one more.
use Rattle.std.proofs.Common.{◌≡◌, ◌∙◌, ◌+◌, ◌-◌, ◌/◌, refl, rules, arith}
use Rattle.std.proofs.lemmas.Grind.{common_steps}
use Rattle.std.proofs.lemmas.Iterator.{YieldsList-from_range}
use Rattle.std.proofs.lemmas.Iterator.Search.{all_from_yields_List}
use Rattle.definitions.specs.Lists.{every, up_from}
use Rattle.definitions.specs.BookReading.{left_out}
use Rattle.definitions.specs.PhoneSets.{has}
use Rattle.booklines.specs.Laws.LeavingOut.{every-from}
use Rattle.booklines.proofs.leaving.may_leave_out.Goals as goal

pub returns-then-to-states-eq0 : goal.returns-then-to-states-eq0
unfolding left_out
returns-then-to-states-eq0 c =
    let a = c.args in
    let states = c.wide-states.result in
    let whole : c.all.result ≡ every (λ p. has p a.boundaries) (up_from (a.from / states + 1) (a.to / states - a.from / states)) =
    all_from_yields_List (λ x. has (x + 1) a.boundaries) _ _ _ c.all.ensures.ran
    (YieldsList-from_range _ _ _ refl refl) (λ x b q k. search rules)
    ∙ every-from (λ p. has p a.boundaries) _ _ in
    grind (arith, common_steps, whole)
