-- `sequences::fill_context` meets its contract. The loop's invariant: the columns before `column` hold the
-- context's phones, the others are as they were.
use Rattle.definitions.proofs.Laws.Trees.Contexts.{context_at}
use Rattle.lines.specs.Laws.Filling.{Filled}
use Rattle.transcripts.proofs.sequences.fill_context.Given as goal

abbrev pub invariant-loop-column : goal.invariant-loop-column
invariant-loop-column l =
    Filled (context_at l.half l.sequence l.place) l.initial.context l.column l.context
