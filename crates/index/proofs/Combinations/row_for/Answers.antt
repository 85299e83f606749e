-- `row_for` meets its contract: no row, or the row of the phone that the column has alone.
use native.Mathlib.Omega.{arith}
use Rattle.definitions.proofs.Laws.Books.AcceptedKnown.{header-ranges}
use Rattle.index.specs.Laws.RecordWords.{combinations-length}
use Rattle.index.specs.Laws.Rows.{no_row, row-admits}
use Rattle.index.proofs.Combinations.row_for.Goals as goal

pub returns-then-wide-column : goal.returns-then-wide-column
returns-then-wide-column c =
    let (s, left) = c.requires in no_row s

pub returns-in_default : goal.returns-in_default
returns-in_default c =
    let (s, left) = c.requires in no_row s

pub row_at-requires : goal.row_at-requires
row_at-requires c =
    let a = c.args in
    let (s, left) = c.requires in (
      record {
        phones_few = (header-ranges a.self.header s.usable.header-known).phones_range.high;
        blocks_few =
            omega (
              arith,
              c.blocks_in.ensures,
              s.usable.few,
              combinations-length a.self.header a.self.words.now,
            );
        left = left;
      },
      omega (arith, c.in-Some.ensures.some),
    )

pub returns-in-Some : goal.returns-in-Some
returns-in-Some c =
    let (s, few) = c.requires in
    row-admits s
    (omega (arith, c.if-wide-column.false, c.wide.ensures)) c.in-Some.ensures.next.after
    c.alone.ensures c.if-set-alone.true c.blocks_in.ensures c.row_at.ensures.0
    c.row_at.ensures.1
