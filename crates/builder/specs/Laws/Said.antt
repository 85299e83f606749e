-- What reading and building say determines what they answer.
use Rattle.std.specs.Prelude.{◌≡◌, refl, Result}
use Rattle.std.proofs.Common.{sym, ap, ◌∙◌}
use Rattle.definitions.specs.declared.Refusal.{Refusal}
use Rattle.definitions.specs.Faults.{Outcome, answered, refused}
use Rattle.definitions.specs.BookBuilding.{BookBuilt}
use Rattle.definitions.specs.Said.{result_of, said_of, no_progress, book_progress}
use Rattle.network.specs.declared.Build.{Build}
use Rattle.network.specs.Answers.{build_said}
use Rattle.network.specs.Laws.Said.{build-says, build-same}
use Rattle.definitions.specs.BookLines.{header_of}
use Rattle.builder.specs.Answers.{book_answer}

book-says : (o : Outcome BookBuilt) → build_said (book_answer o) ≡ said_of book_progress no_progress o
unfolding result_of said_of
book-says (answered b) = build-says (header_of b.lines).states (answered b.built)
book-says (refused r) = refl

module _ {answer : Result Build Refusal} (o : Outcome BookBuilt) where
  pub book-said : answer ≡ book_answer o → build_said answer ≡ said_of book_progress no_progress o
  book-said e = ap build_said e ∙ book-says o

  pub book-told : build_said answer ≡ said_of book_progress no_progress o → answer ≡ book_answer o
  book-told h = build-same (h ∙ sym (book-says o))
