-- `classes::put_classes` meets its contract. The loop's invariant: what is left to write, from the next class on.
use native.Mathlib.Omega.{arith}
use Rattle.booktext.specs.Laws.ClassLines.{classes-next, classes-end}
use Rattle.booktext.specs.Laws.Putting.{left-countable, left-more, left_end}
use Rattle.booktext.proofs.classes.put_classes.Goals as goal

pub put_class-next-requires : goal.put_class-next-requires
put_class-next-requires c =
    let at = c.loop-i in
    let a = c.args in
    left-countable at.invariant (classes-next a.phones at.i a.sets.now (omega arith)) c.requires.1

pub loop-i-preserved : goal.loop-i-preserved
loop-i-preserved c =
    let at = c.loop-i in
    let a = c.args in
    let done = c.put_class-next in
    left-more at.invariant (classes-next a.phones at.i a.sets.now (omega arith))
    done.auto.text done.ensures

pub returns : goal.returns
returns c =
    let at = c.loop-i in
    let a = c.args in
    left_end at.invariant (classes-end a.phones at.i a.sets.now (omega arith))
