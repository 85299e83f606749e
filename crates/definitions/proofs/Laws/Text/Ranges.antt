-- Laws about ranges: the numbers of a line that lies in the fixed ranges of its letter, as facts.
-- Header ranges and the numbers of an accepted book come from here.
use Rattle.std.specs.Prelude.{◌↔◌, List, [], ◌∷◌, Bool, true, false, ◌&&◌, ℕ, zero, suc, ◌≤◌, ◌<◌, T, leb, eqb, length, get_or}
use Rattle.std.proofs.Math.Option.{Option, none, some}
use Prim.Native.Char.{Char, code}
use Rattle.std.proofs.Common.{arith, lit<}
use Rattle.definitions.specs.Ranges.{Within, HeaderRanges}
use Rattle.definitions.specs.Lists.{if◌then◌else◌, ◌!◌}
use Rattle.definitions.specs.Forms.{Range, Form, ◌‥◌, form_h, form_q, form_n, form_l, form_r, book_forms}
use Rattle.definitions.specs.Lines.{Line, form_of, in_ranges, in_fixed_ranges}
use Rattle.definitions.specs.BookLines.{BookLine, H, Q, N, L, R, book_line, is_phone}
use Rattle.definitions.proofs.Laws.Lists.Tests.{T_and, between}
use Rattle.definitions.specs.Forms.{form_b}
use Rattle.definitions.specs.BookLines.{B}

in-range : (r : Range) (n : ℕ) → T (leb r.lowest n && leb n r.highest) → Within r n
in-range r n h =
    let (low, high) = (between r.lowest n r.highest).0 h in record { low = low; high = high }

-- a phone of a book
pub phone_range : (phones p : ℕ) → T (is_phone phones p) ↔ ((1 ≤ p) × (p ≤ phones))
unfolding is_phone
phone_range phones p = between 1 p phones

range-parts : (r : Range) (ranges : List Range) (n : ℕ) (numbers : List ℕ)
    → T (in_ranges (r ∷ ranges) (n ∷ numbers)) → Within r n × T (in_ranges ranges numbers)
unfolding in_ranges
range-parts r ranges n numbers h =
    let parts = (T_and (leb r.lowest n && leb n r.highest) (in_ranges ranges numbers)).0 h in
    (in-range r n parts.0, parts.1)

-- numbers in the ranges of their fields, one by one
pub range_none : T (in_ranges [] [])
unfolding in_ranges
range_none = tt

pub range-more : (r : Range) (ranges : List Range) (n : ℕ) (numbers : List ℕ)
    → (r.lowest ≤ n) × (n ≤ r.highest) → T (in_ranges ranges numbers) → T (in_ranges (r ∷ ranges) (n ∷ numbers))
unfolding in_ranges
range-more r ranges n numbers own h =
    (T_and (leb r.lowest n && leb n r.highest) (in_ranges ranges numbers)).1
    ((between r.lowest n r.highest).1 own, h)

pub ranges-at : (ranges : List Range) (numbers : List ℕ) → T (in_ranges ranges numbers)
    → (i : ℕ) → i < length ranges → Within (get_or ranges i (0 ‥ 0)) (numbers ! i)
unfolding in_ranges
ranges-at [] numbers h i l = absurd (omega arith)
ranges-at (r ∷ ranges) [] h i l = absurd h
ranges-at (r ∷ ranges) (n ∷ numbers) h zero l = (range-parts r ranges n numbers h).0
ranges-at (r ∷ ranges) (n ∷ numbers) h (suc i) l =
    ranges-at ranges numbers (range-parts r ranges n numbers h).1 i (omega arith)

-- what the table of its letter says of a book line's numbers
abbrev pub Ranged : BookLine → Type 0
Ranged (H half states phones classes nodes) = HeaderRanges half states phones classes nodes
Ranged (Q class phone) = Within (1 ‥ 255) class × Within (1 ‥ 64) phone
Ranged (N node class position yes_node no_node) = Within (1 ‥ 255) class
Ranged (L node model) = Within (1 ‥ 65535) model
Ranged (B boundary plain) = Within (2 ‥ 64) boundary × Within (1 ‥ 64) plain
Ranged (R phone state root) = Within (1 ‥ 64) phone × Within (1 ‥ 3) state

-- one of the six tables, by its letter: h for H, and so on
abbrev form_by : (h q n l b r : Bool) → Option Form
form_by h q n l b r =
    if h then some form_h else if q then some form_q else if n then some form_n else
    if l then some form_l else if b then some form_b else if r then some form_r else none

abbrev line_by : (h q n l b : Bool) → (numbers : List ℕ) → BookLine
line_by h q n l b m =
    if h then H (m ! 0) (m ! 1) (m ! 2) (m ! 3) (m ! 4) else if q then Q (m ! 0) (m ! 1) else
    if n then N (m ! 0) (m ! 1) (m ! 2) (m ! 3) (m ! 4) else if l then L (m ! 0) (m ! 1) else
    if b then B (m ! 0) (m ! 1) else R (m ! 0) (m ! 1) (m ! 2)

ranged-by : (h q n l b r : Bool) (m : List ℕ)
    → T (elim (form_by h q n l b r) [ none ↦ false | some form ↦ in_ranges form.fields m ])
    → Ranged (line_by h q n l b m)
ranged-by true q n l b r m t = record {
  half_range = ranges-at form_h.fields m t 0 (lit< tt);
  states_range = ranges-at form_h.fields m t 1 (lit< tt);
  phones_range = ranges-at form_h.fields m t 2 (lit< tt);
  classes_range = ranges-at form_h.fields m t 3 (lit< tt);
  nodes_range = ranges-at form_h.fields m t 4 (lit< tt);
}
ranged-by false true n l b r m t =
    (ranges-at form_q.fields m t 0 (lit< tt), ranges-at form_q.fields m t 1 (lit< tt))
ranged-by false false true l b r m t = ranges-at form_n.fields m t 1 (lit< tt)
ranged-by false false false true b r m t = ranges-at form_l.fields m t 1 (lit< tt)
ranged-by false false false false true r m t =
    (ranges-at form_b.fields m t 0 (lit< tt), ranges-at form_b.fields m t 1 (lit< tt))
ranged-by false false false false false true m t =
    (ranges-at form_r.fields m t 0 (lit< tt), ranges-at form_r.fields m t 1 (lit< tt))
ranged-by false false false false false false m t = absurd t

pub line-ranged : (line : Line) → T (in_fixed_ranges book_forms line) → Ranged (book_line line)
unfolding in_fixed_ranges form_of book_line
line-ranged line h = ranged-by (is "H") (is "Q") (is "N") (is "L") (is "B") (is "R") line.numbers h
  where
    is : Char → Bool
    is letter = eqb (code letter) line.letter
