-- Laws about the lines of a word book: which lines pass their tests after those before them, and how a line is written.
-- What accepted word books say and that known words are read again stand on them.
use Rattle.std.specs.Prelude.{◌≡◌, refl, ◌⊎◌, ◌↔◌, List, [], ◌∷◌, Bool, true, false, ◌&&◌, ℕ, suc, ◌<◌, T, eqb}
use Rattle.std.proofs.Math.Logic.{⊎_map}
use Rattle.std.proofs.Math.Option.{none, some}
use Prim.Native.Char.{code}
use Rattle.std.proofs.Common.{eqb→eq, lit<}
use Rattle.definitions.specs.Lists.{if◌then◌else◌, every}
use Rattle.definitions.specs.Forms.{◌‥◌, form_v, word_forms, most_words, most_places, most_phone}
use Rattle.definitions.specs.Lines.{Line, form_of, in_ranges, in_fixed_ranges}
use Rattle.definitions.specs.Ranges.{Within}
use Rattle.definitions.specs.Reading.{line_tests}
use Rattle.definitions.specs.WordBooks.{WordLine, word_line, last_line, comes_next, word_kind}
use Rattle.definitions.proofs.Laws.Lists.Tests.{T_and, T-or, eq→eqb}
use Rattle.definitions.proofs.Laws.Text.Judging.{test_at, passes_at}
use Rattle.definitions.proofs.Laws.Text.Ranges.{ranges-at, range_none, range-more}
use Rattle.definitions.proofs.Laws.Text.Reading.{Passed}
use Rattle.definitions.proofs.Laws.Text.WrittenTexts.{Writes, Writer, Next}

-- what comes next: the next place of the same word, or the first of the next word
pub next-line : (last line : WordLine)
    → T (comes_next last line)
    ↔ (((line.word ≡ last.word) × (line.place ≡ suc last.place))
    ⊎ ((line.word ≡ suc last.word) × (line.place ≡ 1)))
unfolding comes_next
next-line last line =
    let same = both line.word last.word line.place (suc last.place) in
    let new = both line.word (suc last.word) line.place 1 in
    let either =
    T-or (eqb line.word last.word && eqb line.place (suc last.place))
    (eqb line.word (suc last.word) && eqb line.place 1) in
    (λ h. ⊎_map same.0 new.0 (either.0 h), λ h. either.1 (⊎_map same.1 new.1 h))
  where
    both : (a b c d : ℕ) → T (eqb a b && eqb c d) ↔ ((a ≡ b) × (c ≡ d))
    both a b c d =
        let two = T_and (eqb a b) (eqb c d) in (
          λ h. let (l, r) = two.0 h in (eqb→eq a b l, eqb→eq c d r),
          λ (l, r). two.1 (eq→eqb a b l, eq→eqb c d r),
        )

-- what a line says that passed its tests after another
pub record Fits (last line : WordLine) : Type 0 where
  pub word_range : Within (1 ‥ most_words) line.word
  pub place_range : Within (1 ‥ most_places) line.place
  pub phone_range : Within (1 ‥ most_phone) line.phone
  pub next : T (comes_next last line)

-- the numbers of a line in the ranges of its fields
line-ranged : (line : Line) → T (in_fixed_ranges word_forms line) → T (in_ranges form_v.fields line.numbers)
unfolding in_fixed_ranges form_of
line-ranged line h = go (eqb (code "V") line.letter) h
  where
    go : (own : Bool)
        → T (elim (if own then some form_v else none) [
          | none ↦ false
          | some form ↦ in_ranges form.fields line.numbers
        ])
        → T (in_ranges form_v.fields line.numbers)
    go true t = t
    go false t = absurd t

pub line-fits : (lent : ℕ) (before : List WordLine) (bytes : List ℕ) (line : Line)
    → Passed (word_kind lent) before bytes line → Fits (last_line before) (word_line line)
unfolding word_kind line_tests word_line
line-fits lent before bytes line p =
    let passed : (i : ℕ) → i < 4 → T (test_at (line_tests (word_kind lent) before line) i).passes =
    passes_at (line_tests (word_kind lent) before line) p.tested in
    let ranged = line-ranged line (passed 1 (lit< tt)) in
    record {
      word_range = ranges-at form_v.fields line.numbers ranged 0 (lit< tt);
      place_range = ranges-at form_v.fields line.numbers ranged 1 (lit< tt);
      phone_range = ranges-at form_v.fields line.numbers ranged 2 (lit< tt);
      next = passed 3 (lit< tt);
    }

-- ---- how a word book is written

abbrev line_for : WordLine → Line
line_for line = record { letter = code "V"; numbers = line.word ∷ line.place ∷ line.phone ∷ [] }

pub word-writes : (lent : ℕ) (line : WordLine) → Writes (word_kind lent) line (line_for line) form_v
unfolding word_kind word_line form_of every
word-writes lent line = record { again = refl; known = refl; many = refl; fits = tt }

abbrev pub word_writer : (lent : ℕ) → Writer (word_kind lent)
word_writer lent = record { line_for = line_for; form = λ line. form_v; writes = word-writes lent }

-- a line that fits passes its tests
pub fits_next : (lent : ℕ) (before : List WordLine) (line : WordLine) → Fits (last_line before) line
    → Next (word_writer lent) before line
unfolding word_kind line_tests word_line in_fixed_ranges form_of every
fits_next lent before line f =
    let own-ranges : Bool = in_ranges form_v.fields (line_for line).numbers in
    let next : Bool = comes_next (last_line before) line in
    record {
      unfinished = tt;
      tested = (T_and own-ranges (next && true)).1 (ranged, (T_and next true).1 (f.next, tt));
    }
  where
    ranged : T (in_ranges form_v.fields (line.word ∷ line.place ∷ line.phone ∷ []))
    ranged =
        range-more _ _ _ _ (f.word_range.low, f.word_range.high)
        (range-more _ _ _ _ (f.place_range.low, f.place_range.high)
        (range-more _ _ _ _ (f.phone_range.low, f.phone_range.high) range_none))
