-- `fields::after_spaces` meets its contract. The loop's invariant: the bytes before `i` are spaces.
use mathlib.Core.Path.{sym, ◌∙◌}
use native.Mathlib.Omega.{arith}
use lib.ListN.{length, drop, length-drop, drop_of_length-le}
use lib.Seq.{take_all}
use Prim.Native.Nat.{◌-◌, ◌≤◌}
use Rattle.lines.specs.Laws.Fields.{space-passed, space-stops, spaces-end}
use Rattle.lines.proofs.fields.after_spaces.Goals as goal

pub returns-then-byte-ne32 : goal.returns-then-byte-ne32
returns-then-byte-ne32 c =
    let s = c.args.bytes.now in
    let i = c.loop-i.i in
    let whole : length (drop i s) ≤ length s - i = rw length-drop (omega arith) in
    let all = take_all (length s - i) (drop i s) whole in
    record {
      within = rw (all, length-drop) (omega arith);
      found = all ∙ space-stops s i c.loop-i-test.true c.if-byte-ne32.true ∙ sym c.loop-i.invariant;
    }

pub loop-i-preserved : goal.loop-i-preserved
loop-i-preserved c = c.loop-i.invariant ∙ space-passed _ _ c.loop-i-test.true c.if-byte-ne32.false

pub returns : goal.returns
returns c =
    let s = c.args.bytes.now in
    record {
      within = omega arith;
      found = sym (drop_of_length-le s {i = c.loop-i.i} c.loop-i-test.false) ∙ spaces-end _ _ c.loop-i-test.false ∙ sym c.loop-i.invariant;
    }
