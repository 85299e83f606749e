-- Laws about one line of a word book as the code has it: what its row says, and when it comes next.
use Rattle.std.specs.Prelude.{◌≡◌, ℕ, suc, ◌+◌, eqb}
use Rattle.std.proofs.Math.Bool.{or-false}
use Rattle.std.proofs.Math.Numerals.{add-one}
use Rattle.std.proofs.Common.{arith}
use borrow.Author.Tests.{eq-eqb, ne_eqb}
use Rattle.definitions.specs.WordBooks.{WordLine, word_line, comes_next}
use Rattle.lines.specs.declared.Row.{Row}
use Rattle.lines.specs.Rows.{line_in, row_of}
use Rattle.lines.specs.Laws.Rows.{number_read}

-- what a row says is what its line says, since the numbers beyond the line's are 0
pub row-says : (row : Row) → row ≡ row_of (line_in row)
    → word_line (line_in row) ≡ word_line (record { letter = row.letter; numbers = row.numbers })
unfolding word_line line_in
row-says row e = let same = number_read row e in rw (← same 0, ← same 1, ← same 2)

-- the line after another, by the numbers that the code compares
module _ (last line : WordLine) where
  pub next-same : line.word ≡ last.word → {place next : ℕ} → place ≡ line.place → next ≡ last.place
      → eqb place (next + 1) ≡ comes_next last line
  unfolding comes_next
  next-same e p q =
      rw (
        p,
        q,
        add-one,
        eq-eqb line.word last.word e,
        ne_eqb line.word (suc last.word) (λ n. omega arith),
        or-false,
      )

  module _ (n : line.word ≡ last.word → ⊥) {word next : ℕ} (p : word ≡ line.word) (q : next ≡ last.word) where
    pub next-far : (word ≡ next + 1 → ⊥) → eqb word (next + 1) ≡ comes_next last line
    unfolding comes_next
    next-far k =
        rw (ne_eqb word (next + 1) k, ne_eqb line.word last.word n, ne_eqb line.word (suc last.word) (λ e. k (omega arith)))

    pub next-first : word ≡ next + 1 → eqb line.place 1 ≡ comes_next last line
    unfolding comes_next
    next-first e =
        rw (ne_eqb line.word last.word n, eq-eqb line.word (suc last.word) (omega arith))
