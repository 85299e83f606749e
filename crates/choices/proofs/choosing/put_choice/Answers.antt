-- `choosing::put_choice` meets its contract: the phone, its leaves, and as many columns as have room.
use Rattle.std.proofs.Common.{◌≡◌, length, rules}
use Rattle.choices.specs.Laws.Adding.{row-written}
use Rattle.choices.proofs.choosing.put_choice.Goals as goal

pub returns : goal.returns
returns c =
    let a = c.args in
    let three : length a.choice.leaves ≡ 3 = search rules in
    rw (c.from.ensures, c.copy_from_slice.ensures.after, c.copy_from_slice-2.ensures.after)
    (row-written a.choice.phone a.choice.leaves a.choice.matrix.columns a.words.now three c.requires.0)
