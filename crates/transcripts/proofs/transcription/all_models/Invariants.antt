-- `transcription::all_models` meets its contract. The loop's invariant: the buffer begins with the models of
-- the places before `place`, the other words are as they were; and the questions put for these places were summed.
use Rattle.tables.specs.Usable.{book_with}
use Rattle.transcripts.specs.Laws.Questions.{PlacesSoFar}
use Rattle.transcripts.proofs.transcription.all_models.Given as goal

abbrev pub invariant-loop-place : goal.invariant-loop-place
invariant-loop-place l =
    PlacesSoFar (book_with l.trees.header l.trees.nodes.now l.trees.classes.now l.trees.roots.now) l.sequence l.initial.models l.place l.models l.questions
