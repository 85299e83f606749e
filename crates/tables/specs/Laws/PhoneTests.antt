-- Laws about the tests of the phones' words. A phone's roots stand one after the other in the table, and are judged
-- beside its plain phone.
use Rattle.std.specs.Prelude.{◌≡◌, refl, List, Bool, true, false, not, ◌&&◌, ◌||◌, ltb, eqb, length, take, drop}
use Rattle.std.proofs.Math.Path.{sym}
use Rattle.std.proofs.Common.{ap₂, ◌∙◌, arith, length-drop, length-take-le}
use Prim.Native.Nat.{ℕ, zero, suc, ◌+◌, ◌-◌, ◌*◌, ◌≤◌, ◌<◌}
use Rattle.std.proofs.Math.Nat.{suc-mul, mul-le-mul_right}
use Rattle.std.proofs.Math.Seq.{ext_get_or, get_or-take}
use Rattle.definitions.specs.declared.Header.{Header}
use Rattle.definitions.specs.Lists.{◌!◌, every, up_from}
use Rattle.definitions.specs.BookLines.{root_count, no_root}
use Rattle.definitions.specs.ForeignTables.{roots_of_phone, phone_known, roots_known}
use Rattle.definitions.proofs.Laws.Lists.Lists.{part_at, up_from-length, map-up_from-length, map-up_from-at}
use Rattle.lines.specs.Laws.Passing.{Passed, passed_start, passed-more, passed-stop, passed-end}

-- ---- phone by phone

-- the roots of the phones before a place pass
abbrev pub RootsPassed : Header → (plains roots : List ℕ) → (i : ℕ) → Type 0
RootsPassed header plains roots i =
    Passed (phone_known header (take header.phones plains) roots) (up_from 1 header.phones)
    (roots_known header (take header.phones plains) roots) i

pub roots-start : (header : Header) (plains roots : List ℕ) → RootsPassed header plains roots 0
unfolding roots_known
roots-start header plains roots = passed_start _ _

pub roots-end : (header : Header) (plains roots : List ℕ) {i : ℕ} → RootsPassed header plains roots i
    → header.phones ≤ i → true ≡ roots_known header (take header.phones plains) roots
roots-end header plains roots p h = passed-end p (rw (up_from-length 1 header.phones) h)

-- the phones count from 1
from_one : (n : ℕ) → n ≡ 1 + n - 1
from_one n = omega arith

up_from-at : (a count i : ℕ) → i < count → up_from a count ! i ≡ a + i
unfolding up_from
up_from-at a zero i h = absurd (omega arith)
up_from-at a (suc count) zero h = omega arith
up_from-at a (suc count) (suc i) h = up_from-at (suc a) count i (omega arith) ∙ omega arith

-- the roots at a place, as the code lends them; and the test of a phone's roots beside its plain phone
abbrev pub roots_at : (roots : List ℕ) → (i states : ℕ) → List ℕ
roots_at roots i states = take (i * states + states - i * states) (drop (i * states) roots)

abbrev pub given : (nodes : ℕ) → (roots : List ℕ) → (plain : ℕ) → Bool
given nodes roots plain =
    every (λ root. ltb root nodes) roots || (not (eqb plain 0) && every (λ root. eqb root no_root) roots)

module _ (header : Header) (roots : List ℕ) (sized : root_count header ≡ length roots) (i : ℕ)
    (h : i < header.phones) {states : ℕ} (e : states ≡ header.states)
  where
    -- they are all there, and are the phone's
    pub roots-inside : i * states + states ≤ length roots
    unfolding root_count
    roots-inside =
        let most : suc i * header.states ≤ header.phones * header.states = mul-le-mul_right header.states h in
        rw e (omega (arith, most, suc-mul i header.states, sized))

    own-sized : length (roots_at roots i states) ≡ header.states
    own-sized =
        length-take-le (i * states + states - i * states) (drop (i * states) roots)
        (omega (arith, length-drop (i * states) roots, roots-inside))
        ∙ omega (arith, e)

    own_at : (j : ℕ) → j < length (roots_at roots i states)
        → roots_at roots i states ! j ≡ roots_of_phone header.states roots (1 + i) ! j
    unfolding roots_of_phone
    own_at j k =
        let inside : j < header.states = omega (arith, own-sized) in
        part_at (i * states + states - i * states) (i * states) roots j 0 (omega (arith, e))
        ∙ rw e (ap₂ (λ (m n : ℕ). roots ! (m * header.states + n)) (from_one i) (from_one j))
        ∙ sym (map-up_from-at _ 1 header.states j (1 + j) inside refl)

    own-roots : roots_at roots i states ≡ roots_of_phone header.states roots (1 + i)
    unfolding roots_of_phone
    own-roots =
        ext_get_or 0 (roots_at roots i states) (roots_of_phone header.states roots (1 + i))
        (own-sized ∙ sym (map-up_from-length _ 1 header.states)) own_at

    -- so the code's test is that of the phone
    answer-is : (plains : List ℕ) {plain : ℕ} → plain ≡ plains ! i
        → given header.nodes (roots_at roots i states) plain
        ≡ phone_known header (take header.phones plains) roots (up_from 1 header.phones ! i)
    unfolding phone_known
    answer-is plains f =
        rw (
          own-roots,
          f,
          up_from-at 1 header.phones i h,
          ← from_one i,
          get_or-take header.phones plains i 0 h,
        )

    pub roots-more : (plains : List ℕ) → RootsPassed header plains roots i → {plain : ℕ} → plain ≡ plains ! i
        → given header.nodes (roots_at roots i states) plain ≡ true → RootsPassed header plains roots (i + 1)
    roots-more plains p f a =
        passed-more 0 p (rw (up_from-length 1 header.phones) h) (sym (answer-is plains f) ∙ a)

    pub roots-stop : (plains : List ℕ) → RootsPassed header plains roots i → {plain : ℕ} → plain ≡ plains ! i
        → given header.nodes (roots_at roots i states) plain ≡ false
        → false ≡ roots_known header (take header.phones plains) roots
    roots-stop plains p f a =
        passed-stop 0 p (rw (up_from-length 1 header.phones) h) (sym (answer-is plains f) ∙ a)
