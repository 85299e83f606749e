-- `storing::store` meets its contract, by whether the table has a record for the line's word.
use native.Mathlib.Omega.{arith}
use lib.ListN.{length-set}
use Rattle.words.specs.Laws.Storing.{after-past, after-room}
use Rattle.words.proofs.storing.store.Goals as goal

pub returns-then-words-before : goal.returns-then-words-before
returns-then-words-before c = after-past _ _ c.from_zero-before.ensures c.if-words-before.true

pub bounds-words-phones : goal.bounds-words-phones
bounds-words-phones c =
    simp length-set (omega (arith, c.from_zero.ensures, c.requires, c.if-words-before.false))

pub returns : goal.returns
returns c =
    after-room _ _ c.from_zero-before.ensures c.if-words-before.false c.requires.0 c.from_zero.ensures
