-- Laws about a line written into a text as number `count`: it is passed over where the text is too short, and stands
-- in its 32 bytes else, if its numbers have room in their fields.
use Rattle.std.specs.Prelude.{◌≡◌, Bool, true, false, ℕ, ◌+◌, ◌-◌, ◌*◌, ◌/◌, ◌≤◌, ◌<◌, T, length, take}
use Rattle.std.proofs.Math.Path.{refl}
use Rattle.std.proofs.Common.{◌∙◌, arith, take-append-drop}
use mathlib.Core.List.{List, [], ◌∷◌, append-nil}
use Rattle.std.proofs.Math.ListN.{drop, length-take, drop_of_length-le}
use borrow.Author.Tests.{le-leb, lt-leb}
use borrow.Rule.Slice.PartMut.{put_mid}
use Rattle.definitions.specs.Lines.{Line, line_text}
use Rattle.definitions.proofs.Laws.Lists.Tests.{by-test}
use Rattle.definitions.proofs.Laws.Text.Lines.{line-length}
use Rattle.lines.specs.Putting.{put_at}
use Rattle.lines.specs.Rows.{line_in}
use Rattle.lines.specs.declared.Row.{Row}
use Rattle.lines.specs.Laws.Putting.{part_length, part-put}
use Rattle.writing.specs.Writing.{written}
use Rattle.writing.specs.Laws.Rows.{LineLeft, line-left}
use Rattle.booktext.specs.Putting.{line_fits, put_line, put_lines, Put}

pub line-short : (line : Line) (text : List ℕ) (count : ℕ) → length text / 32 ≤ count
    → Put (line ∷ []) text count text (count + 1)
unfolding put_lines put_line
line-short line text count h =
    let short : length text < 32 * count + 32 = omega arith in
    record { counts = refl; puts = rw (lt-leb (32 * count + 32) (length text) short) }

module _ (row : Row) (text : List ℕ) (count : ℕ) (few : row.used ≤ 5) (room : count < length text / 32) where
  abbrev from : ℕ
  from = 32 * count

  abbrev lent : List ℕ
  lent = take (from + 32 - from) (drop from text)

  long : from + 32 ≤ length text
  long = omega arith

  lent-size : length lent ≡ 32
  lent-size = part_length text from 32 refl long

  line-size : T (line_fits (line_in row)) → length (line_text (line_in row)) ≡ 32
  unfolding line_in
  line-size fits = line-length (line_in row) (omega (arith, length-take row.used row.numbers)) fits

  -- the bytes that were lent, as they came back
  module _ {part : List ℕ} {done : Bool} (left : LineLeft row lent done part) where
    put-fitting : line_fits (line_in row) ≡ true
        → put_mid from (from + 32 - from) text part ≡ put_at from (line_text (line_in row)) text
    unfolding put_at written
    put-fitting fits =
        let none : drop 32 lent ≡ [] = drop_of_length-le lent {i = 32} (omega (arith, lent-size)) in
        let whole : part ≡ line_text (line_in row) =
        line-left row lent few (omega (arith, lent-size)) left ∙ rw (fits, none) (append-nil _) in
        part-put text part (line_text (line_in row)) from 32 refl whole ∙ rw (line-size (rw fits tt))

    put-unfitting : line_fits (line_in row) ≡ false → put_mid from (from + 32 - from) text part ≡ text
    put-unfitting fits =
        let whole : part ≡ lent = line-left row lent few (omega (arith, lent-size)) left ∙ rw fits in
        let own : from + 32 - from ≡ 32 = omega arith in
        rw (whole, own, take-append-drop 32 (drop from text)) (take-append-drop from text)

    pub line-put : Put (line_in row ∷ []) text count (put_mid from (from + 32 - from) text part) (count + 1)
    unfolding put_lines put_line
    line-put =
        let there = le-leb (from + 32) (length text) long in
        record {
          counts = refl;
          puts =
              by-test (line_fits (line_in row)) (λ e. put-fitting e ∙ rw (there, e))
              (λ e. put-unfitting e ∙ rw (there, e));
        }
