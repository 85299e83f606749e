-- `opening::open_words` meets its contract. The loop's invariant: the words before `word` are entered, and it is the
-- next that begins with the phone.
use Rattle.std.proofs.Common.{rules, ap, ◌∙◌, arith, ℕ, ◌+◌, ◌-◌}
use Rattle.std.proofs.lemmas.Result.{err_from_is_err_and}
use Rattle.definitions.specs.Lists.{◌!◌}
use Rattle.joined.specs.Joins.{stepped}
use Rattle.moves.specs.Laws.Opening.{opening-done, opening-word}
use Rattle.moves.specs.Laws.Opening.{opening-link, opening-less, opening-more, opening-stop}
use Rattle.moves.proofs.opening.open_words.Goals as goal

pub spoken_to-requires : goal.spoken_to-requires
spoken_to-requires c =
    let o = c.requires in
    (o.followable.lexicon, opening-word o c.loop-word.invariant.0 c.loop-word-test.true)

pub returns-in_err-move_into-clause-left : goal.returns-in_err-move_into-clause-left
returns-in_err-move_into-clause-left c =
    let p = err_from_is_err_and c.from_residual.result c.from_residual.ensures.1 in
    rw (p.1, p.2)
    (opening-stop c.requires c.loop-word.invariant.0 c.loop-word-test.true c.spoken_to.ensures c.move_into.ensures.left
    (ap (λ r. stepped r c.move_into.new.join.sizes) c.in_err-move_into.was))

pub overflow_add-word : goal.overflow_add-word
overflow_add-word c =
    let few = (opening-word c.requires c.loop-word.invariant.0 c.loop-word-test.true).high in
    let most = c.requires.followable.lexicon.few in
    let is = c.wide-in-loop-word.ensures in
    search rules

pub offset_bounds-index-wide-in-loop-word : goal.offset_bounds-index-wide-in-loop-word
offset_bounds-index-wide-in-loop-word c =
    let few = (opening-word c.requires c.loop-word.invariant.0 c.loop-word-test.true).high in
    let most = c.requires.followable.lexicon.few in
    let is = c.wide-in-loop-word.ensures in
    search rules

pub bounds-index-wide-in-loop-word : goal.bounds-index-wide-in-loop-word
bounds-index-wide-in-loop-word c =
    let link = opening-link c.requires c.loop-word.invariant.0 c.loop-word-test.true in
    omega (arith, link, c.wide-in-loop-word.ensures)

pub loop-word-smaller : goal.loop-word-smaller
loop-word-smaller c =
    let index = c.args.known.index.now in
    opening-less c.requires c.loop-word.invariant.0 c.loop-word-test.true
    (ap (λ (n : ℕ). index ! (64 + n - 1)) c.wide-in-loop-word.ensures)

pub loop-word-preserved : goal.loop-word-preserved
loop-word-preserved c =
    let index = c.args.known.index.now in
    let same = c.move_into.ensures.same in
    let before = c.loop-word.invariant.1 in (
      opening-more c.requires c.loop-word.invariant.0 c.loop-word-test.true
          c.spoken_to.ensures c.move_into.ensures.left
          (ap (λ r. stepped r c.move_into.new.join.sizes) c.in_ok-move_into.was)
          (ap (λ (n : ℕ). index ! (64 + n - 1)) c.wide-in-loop-word.ensures),
      (same.0 ∙ before.0, same.1 ∙ before.1, same.2 ∙ before.2),
    )

pub returns-clause-left : goal.returns-clause-left
returns-clause-left c = opening-done c.requires c.loop-word.invariant.0 c.loop-word-test.false
