-- `State::new` meets its contract: no line says nothing.
use mathlib.Core.Path.{refl}
use Rattle.definitions.specs.BookLines.{header_of, next_place}
use Rattle.definitions.specs.PhoneSets.{set_of}
use Rattle.booklines.specs.States.{state_of, last_of, after_of}
use Rattle.definitions.proofs.Laws.Books.SaidLines.{none-says}
use Rattle.booklines.proofs.State.new.Goals as goal

pub returns : goal.returns
unfolding state_of last_of after_of header_of next_place set_of
returns c =
    rw (none-says.members-said, none-says.nodes-said, none-says.boundaries-said, none-says.roots-said) refl
