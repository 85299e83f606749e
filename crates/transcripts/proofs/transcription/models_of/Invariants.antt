-- `transcription::models_of` meets its contract. The loop's invariant: the words before `state` hold the models
-- of their states, the others are as they were; and the questions met for these states were counted.
use Rattle.tables.specs.Usable.{book_with}
use Rattle.transcripts.specs.Laws.Questions.{StatesSoFar}
use Rattle.transcripts.proofs.transcription.models_of.Given as goal

abbrev pub invariant-loop-state : goal.invariant-loop-state
invariant-loop-state l =
    StatesSoFar (book_with l.trees.header l.trees.nodes.now l.trees.classes.now l.trees.roots.now) l.context l.initial.models l.state l.models l.questions
