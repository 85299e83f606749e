-- Laws about the tests of a phone and of a context, one for each part of them; and that each column of a context holds a
-- phone.
use Rattle.std.specs.Prelude.{◌≡◌, List, Bool, true, false, ℕ, ◌+◌, ◌*◌, ◌≤◌, ◌<◌, T, eqb, length}
use Rattle.std.proofs.Common.{arith, eqb→eq}
use borrow.Author.Tests.{le-leb, lt-leb, eq-eqb, ne_eqb}
use Rattle.definitions.specs.declared.Header.{Header}
use Rattle.definitions.specs.Lists.{◌!◌, every}
use Rattle.definitions.specs.BookLines.{is_phone}
use Rattle.definitions.specs.Lookup.{is_context}
use Rattle.definitions.proofs.Laws.Lists.Tests.{T_and, every-at}
use Rattle.definitions.proofs.Laws.Text.Ranges.{phone_range}

-- ---- one number: a phone of the book or not

module _ (phones p : ℕ) where
  pub too-low : p < 1 → is_phone phones p ≡ false
  unfolding is_phone
  too-low l = rw (lt-leb 1 p l)

  pub too-high : 1 ≤ p → phones < p → is_phone phones p ≡ false
  unfolding is_phone
  too-high l h = rw (le-leb 1 p l, lt-leb p phones h)

  pub a-phone : 1 ≤ p → p ≤ phones → is_phone phones p ≡ true
  unfolding is_phone
  a-phone l h = rw (le-leb 1 p l, le-leb p phones h)

-- ---- a context: its width, then its phones

module _ (header : Header) (context : List ℕ) where
  pub other_width : (length context ≡ 2 * header.half + 1 → ⊥) → is_context header context ≡ false
  unfolding is_context
  other_width n = rw (ne_eqb (length context) (2 * header.half + 1) n)

  pub by-phones : length context ≡ 2 * header.half + 1
      → is_context header context ≡ every (is_phone header.phones) context
  unfolding is_context
  by-phones e = rw (eq-eqb (length context) (2 * header.half + 1) e)

-- a column of a context: there is one, and it holds a phone of the book
pub record Column (header : Header) (context : List ℕ) (i : ℕ) : Type 0 where
  pub inside : i < length context
  pub low : 1 ≤ context ! i
  pub high : context ! i ≤ header.phones

pub column_fits : (header : Header) (context : List ℕ) → T (is_context header context) → (i : ℕ)
    → i ≤ 2 * header.half → Column header context i
unfolding is_context
column_fits header context h i l =
    let phones : Bool = every (is_phone header.phones) context in
    let test = (T_and (eqb (length context) (2 * header.half + 1)) phones).0 h in
    let width : length context ≡ 2 * header.half + 1 = eqb→eq _ _ test.0 in
    let inside : i < length context = omega arith in
    let phone = (phone_range header.phones (context ! i)).0 (every-at _ context 0 test.1 i inside) in
    record { inside = inside; low = phone.0; high = phone.1 }
