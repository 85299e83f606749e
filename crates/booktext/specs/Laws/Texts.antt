-- Laws about lines written into a cleared text with room for all of them: it holds their text then. So of a book that
-- its header states, the count of its lines tells how long its text is, and whether all of it was written.
use Rattle.std.specs.Prelude.{◌≡◌, ℕ, suc, ◌+◌, ◌*◌, ◌≤◌, T, length}
use Rattle.std.proofs.Math.Path.{refl, ap}
use Rattle.std.proofs.Common.{◌∙◌, inl, inr, arith, length-append, le-leb}
use mathlib.Core.List.{List, [], ◌∷◌, ◌++◌, map, append-nil, append_assoc}
use Rattle.std.proofs.Math.ListN.{length-map}
use Rattle.definitions.specs.declared.Header.{Header}
use Rattle.definitions.specs.Lists.{concat_map, cleared, padded, IsIn}
use Rattle.definitions.specs.Lines.{Line, line_text}
use Rattle.definitions.specs.BookLines.{BookLine}
use Rattle.definitions.specs.BookReading.{Lent, wide_enough}
use Rattle.definitions.specs.Tables.{Contents}
use Rattle.definitions.specs.BookText.{book_line_for, lines_of_book, text_of_book}
use Rattle.definitions.proofs.Laws.Lists.Tests.{if-true}
use Rattle.definitions.proofs.Laws.Lists.Lists.{concat_map-map, padded-none, padded-length}
use Rattle.definitions.proofs.Laws.Lists.Members.{of_map, in-every}
use Rattle.definitions.proofs.Laws.Text.Lines.{line-length}
use Rattle.definitions.proofs.Laws.Text.WrittenTexts.{ranged, few, fit, text-length}
use Rattle.definitions.proofs.Laws.Books.KnownBooks.{Stated}
use Rattle.definitions.proofs.Laws.Books.WrittenBooks.{book_writer}
use Rattle.definitions.proofs.Laws.Books.BookTexts.{book-ranged}
use Rattle.lines.specs.Putting.{put_at}
use Rattle.lines.specs.Laws.Putting.{put-after}
use Rattle.booktext.specs.Putting.{line_fits, put_line, put_lines, Put}

-- ---- lines that fit

abbrev Fits : Line → Type 0
Fits line = (length line.numbers ≤ 5) × T (line_fits line)

fitting-put : (line : Line) (size count : ℕ) (used : List ℕ) → Fits line → length used ≡ 32 * count
    → 32 * count + 32 ≤ size → put_line line count (padded size used) ≡ padded size (used ++ line_text line)
unfolding put_line
fitting-put line size count used (narrow, fits) e room =
    let sized : length (padded size used) ≡ size = padded-length size used (omega arith) in
    let put : put_at (32 * count) (line_text line) (padded size used) ≡ padded size (used ++ line_text line) =
    rw (← e) (put-after size used (line_text line)) in
    rw (le-leb (32 * count + 32) (length (padded size used)) (omega arith))
    (if-true (line_fits line) _ _ fits ∙ put)

lines-put : (lines : List Line) (size count : ℕ) (used : List ℕ) → ((line : Line) → IsIn line lines → Fits line)
    → length used ≡ 32 * count → 32 * (count + length lines) ≤ size
    → put_lines lines count (padded size used) ≡ padded size (used ++ concat_map line_text lines)
unfolding put_lines concat_map
lines-put [] size count used fits e room = rw append-nil
lines-put (line ∷ lines) size count used fits e room =
    let (narrow, fit) = fits line (inl refl) in
    let long : length (line_text line) ≡ 32 = line-length line narrow fit in
    rw (fitting-put line size count used (narrow, fit) e (omega arith))
    (lines-put lines size (suc count) (used ++ line_text line) (λ l i. fits l (inr i))
    (length-append used (line_text line) ∙ omega arith) (omega arith)
    ∙ ap (padded size) (append_assoc used (line_text line) (concat_map line_text lines)))

-- ---- a book that its header states

module _ (lent : Lent) (header : Header) (contents : Contents) (s : Stated header contents)
    (wide : T (wide_enough lent header)) where
  abbrev lines : List BookLine
  lines = lines_of_book header contents

  lines_fit : (line : Line) → IsIn line (map book_line_for lines) → Fits line
  lines_fit line i =
      let w = book_writer lent in
      let (x, own, e) = of_map book_line_for line lines i in
      rw e (few w x, fit w x (in-every (ranged w) lines (book-ranged lent header contents s wide) x own))

  module _ (size : ℕ) {count : ℕ} {after : List ℕ}
      (p : Put (map book_line_for lines) (cleared size) 0 after count) where
    pub text-counted : length (text_of_book header contents) ≡ 32 * count
    unfolding text_of_book
    text-counted =
        text-length (book_writer lent) lines (book-ranged lent header contents s wide)
        ∙ omega (arith, p.counts, length-map lines book_line_for)

    pub text-put : 32 * count ≤ size → after ≡ padded size (text_of_book header contents)
    unfolding text_of_book
    text-put room =
        p.puts
        ∙ rw (padded-none size)
        (lines-put (map book_line_for lines) size 0 [] lines_fit refl (omega (arith, p.counts))
        ∙ ap (padded size) (concat_map-map line_text book_line_for lines))
