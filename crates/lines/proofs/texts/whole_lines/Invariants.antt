-- `texts::whole_lines` meets its contract. The loop's invariant: the text is in whole lines where its lines
-- from `i` on end in a line feed.
use Rattle.definitions.specs.Lines.{lines_of, ends_in_line_feed, whole_lines}
use Rattle.lines.specs.Laws.Passing.{Passed}
use Rattle.lines.proofs.texts.whole_lines.Given as goal

abbrev pub invariant-loop-i : goal.invariant-loop-i
invariant-loop-i l = Passed ends_in_line_feed (lines_of l.text) (whole_lines l.text) l.i
