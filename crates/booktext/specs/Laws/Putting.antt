-- Laws about lines written one after the other: lines after others, and what a loop has left to write.
use Rattle.std.specs.Prelude.{◌≡◌, refl, ℕ, zero, suc, ◌+◌, ◌≤◌, ◌<◌, Option}
use Rattle.std.proofs.Common.{sym, subst, ◌∙◌, add-one, arith, length-append}
use Rattle.std.proofs.Math.Path.{ap}
use mathlib.Core.List.{List, [], ◌∷◌, ◌++◌, append-nil, append_assoc}
use Rattle.std.proofs.Math.ListN.{length}
use Rattle.definitions.specs.Lines.{Line}
use Rattle.lines.specs.declared.Row.{Row}
use Rattle.booktext.specs.Putting.{put_line, put_lines, row_lines, Countable, Given, Put, RowFor}

-- ---- lines after others

lines-append : (k l : List Line) (count : ℕ) (text : List ℕ)
    → put_lines (k ++ l) count text ≡ put_lines l (count + length k) (put_lines k count text)
unfolding put_lines
lines-append [] l count text = ap (λ (n : ℕ). put_lines l n text) {x = count} {y = count + 0} (omega arith)
lines-append (line ∷ k) l count text =
    lines-append k l (suc count) (put_line line count text)
    ∙ ap (λ (n : ℕ). put_lines l n (put_lines k (suc count) (put_line line count text)))
    {x = suc count + length k} {y = count + suc (length k)} (omega arith)

pub put-none : (text : List ℕ) (count : ℕ) → Put [] text count text count
unfolding put_lines
put-none text count = record { counts = omega arith; puts = refl }

pub put_then : {k l : List Line} {a b c : List ℕ} {count between next : ℕ} → Put k a count b between
    → Put l b between c next → Put (k ++ l) a count c next
put_then {k} {l} {a} {count = count} p q =
    record {
      counts = rw length-append (omega (arith, p.counts, q.counts));
      puts = q.puts ∙ rw (p.puts, p.counts) (sym (lines-append k l count a));
    }

pub put_same : {k l : List Line} {a b : List ℕ} {count next : ℕ} → k ≡ l → Put k a count b next
    → Put l a count b next
put_same {a = a} {b} {count} {next} e p = subst (λ (lines : List Line). Put lines a count b next) e p

-- some are written, and more can be counted
pub countable-then : (lines some : List Line) {before text : List ℕ} {count next : ℕ} → Put lines before count text next
    → Countable (lines ++ some) count → Countable some next
countable-then lines some p h = omega (arith, p.counts, length-append lines some)

-- ---- rows at places

-- one place more
pub given-more : (gives : ℕ → Option Row → Type 0) (place : ℕ) (before : List Line) (row : Option Row)
    → Given gives place before → gives place row → Given gives (place + 1) (before ++ row_lines row)
given-more gives place before row g h = rw add-one (before, row, g, h, refl)

-- lines that begin with some, and go on with others
pub record Next (lines some further : List Line) : Type 0 where
  pub parts : lines ≡ some ++ further

-- all lines, place by place: those of each place, and those from one on
pub record Places (places : ℕ) (all : List Line) : Type 0 where
  pub at : ℕ → List Line
  pub rest : ℕ → List Line
  pub starts : rest 0 ≡ all
  pub next : (place : ℕ) → place < places → Next (rest place) (at place) (rest (place + 1))
  pub ends : rest places ≡ []

-- the row that is given at each place is for its lines
module _ {gives : ℕ → Option Row → Type 0} {places : ℕ} {all : List Line} (l : Places places all)
    (rows : (place : ℕ) (row : Option Row) → place < places → gives place row → RowFor (l.at place) row) where
  given-front : (some : ℕ) (lines : List Line) → some ≤ places → Given gives some lines → all ≡ lines ++ l.rest some
  given-front zero lines h e = rw e (sym l.starts)
  given-front (suc some) lines h (before, row, g, own, e) =
      given-front some before (omega arith) g
      ∙ rw ((l.next some (omega arith)).parts, e, (rows some row (omega arith) own).says, append_assoc, add-one)

  pub given-countable : (count : ℕ) → Countable all count → (some : ℕ) (lines : List Line) → some ≤ places
      → Given gives some lines → Countable lines count
  given-countable count h some lines few g =
      omega (arith, h, ap length (given-front some lines few g), length-append lines (l.rest some))

  pub given-put : {before after : List ℕ} {count later : ℕ}
      → (lines : List Line) × Given gives places lines × Put lines before count after later
      → Put all before count after later
  given-put (lines, g, p) = put_same (sym (given-front places lines (omega arith) g ∙ rw (l.ends, append-nil))) p

-- what a loop has left to write of all its lines
pub record Left (all rest : List Line) (before : List ℕ) (count : ℕ) (text : List ℕ) (next : ℕ) : Type 0 where
  pub sized : length text ≡ length before
  pub counts : next + length rest ≡ count + length all
  pub puts : put_lines rest next text ≡ put_lines all count before

pub left-start : (all : List Line) (text : List ℕ) (count : ℕ) → Left all all text count text count
left-start all text count = record { sized = refl; counts = refl; puts = refl }

module _ {all rest : List Line} {before : List ℕ} {count : ℕ} {text : List ℕ} {next : ℕ}
    (l : Left all rest before count text next) where
  module _ {some further : List Line} (n : Next rest some further) where
    many : length rest ≡ length some + length further
    many = ap length n.parts ∙ length-append some further

    pub left-countable : Countable all count → Countable some next
    left-countable h = omega (arith, l.counts, many)

    -- some are written
    pub left-more : {after : List ℕ} {later : ℕ} → length after ≡ length text → Put some text next after later
        → Left all further before count after later
    left-more e p =
        record {
          sized = e ∙ l.sized;
          counts = omega (arith, p.counts, l.counts, many);
          puts =
              rw (p.puts, p.counts)
              (sym (lines-append some further next text)
              ∙ ap (λ (lines : List Line). put_lines lines next text) (sym n.parts) ∙ l.puts);
        }

  pub left_end : rest ≡ [] → Put all before count text next
  unfolding put_lines
  left_end e =
      record {
        counts = omega (arith, l.counts, ap length e);
        puts = ap (λ (lines : List Line). put_lines lines next text) (sym e) ∙ l.puts;
      }
