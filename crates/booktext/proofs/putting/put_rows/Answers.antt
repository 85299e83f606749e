-- `putting::put_rows` meets its contract. The loop's invariant: the rows of the places so far are written.
use Rattle.std.proofs.Common.{◌≡◌, ◌+◌, ◌++◌, [], Some, refl, arith}
use Rattle.booktext.specs.Putting.{row_lines}
use Rattle.booktext.specs.Laws.Putting.{put-none, put_then, countable-then, given-more}
use Rattle.booktext.proofs.putting.put_rows.Goals as goal
use Rattle.booktext.proofs.putting.put_rows.Goals.{in-Some, in_default}

pub put_line-next-requires : goal.put_line-next-requires
put_line-next-requires g c =
    let at = c.loop-place in
    let (lines, given, put) = at.invariant in
    let some = row_lines (Some c.in-Some.row) in
    let more = given-more (goal.F-post g c.args.row_at) at.place lines (Some c.in-Some.row) given c.in-Some.ensures in (
      c.requires.narrow at.place c.in-Some.row c.loop-place-test.true c.in-Some.ensures,
      countable-then lines some put (c.requires.countable (at.place + 1) (lines ++ some) (omega arith) more),
    )

pub loop-place-init : goal.loop-place-init
loop-place-init g c = ([], refl, put-none c.args.text.now c.args.count)

pub loop-place-preserved : goal.loop-place-preserved
loop-place-preserved g c =
    let at = c.loop-place in
    let (lines, given, put) = at.invariant in (
      lines ++ row_lines c.row_at.result,
      given-more (goal.F-post g c.args.row_at) at.place lines c.row_at.result given c.row_at.ensures,
      put_then put
          (elim c.match-row_at.branch [
            | in-Some w ↦ rw (w.in-Some.is, w.text-is, w.next-is) w.put_line-next.ensures
            | in_default w ↦ rw (w.in_default.is, w.text-is, w.next-is) (put-none at.text at.next)
          ]),
    )

pub returns : goal.returns
returns g c =
    let all : c.loop-place.place ≡ c.args.places = omega arith in rw all at c.loop-place.invariant
