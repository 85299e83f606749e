-- `writer::write_arcs` meets its contract. The loop's invariant: the lines before `i` are written, the other
-- bytes as they were.
use Prim.Native.Nat.{◌*◌}
use Rattle.lines.specs.Laws.Filling.{Filled}
use Rattle.arcs.specs.Whole.{all_arcs}
use Rattle.nettext.specs.Laws.Writing.{arcs_text}
use Rattle.nettext.proofs.writer.write_arcs.Given as goal

abbrev pub invariant-loop-i : goal.invariant-loop-i
invariant-loop-i l = Filled (arcs_text (all_arcs l.arcs)) l.initial.text (32 * l.i) l.text
