-- Laws about the Q lines of classes: the next of a class, the next class, and how many there are.
use Rattle.std.specs.Prelude.{◌≡◌, List, [], ◌∷◌, ◌++◌, map, Bool, ℕ, suc, ◌+◌, ◌-◌, ◌*◌, ◌≤◌, ◌<◌, length, drop}
use Rattle.std.proofs.Common.{ap, ◌∙◌, mul-suc, add-one, arith, length-append, drop_of_length-le, drop-cons}
use native.Mathlib.Nat.{sub-zero}
use Rattle.std.proofs.lemmas.List.{map-append, length-map}
use Rattle.std.proofs.lemmas.Simd.{map-map}
use Rattle.definitions.specs.Lists.{◌!◌, select, up_from}
use Rattle.definitions.specs.Lines.{Line}
use Rattle.definitions.specs.PhoneSets.{has}
use Rattle.definitions.specs.BookLines.{Q}
use Rattle.definitions.specs.BookText.{book_line_for, member_of, line_of_member, members_from, phones_in}
use Rattle.definitions.proofs.Laws.Lists.Tests.{by-test}
use Rattle.definitions.proofs.Laws.Lists.Lists.{up_from-length}
use Rattle.definitions.proofs.Laws.Lists.Selected.{select-append}
use Rattle.booktext.specs.Parts.{member_lines, class_lines}
use Rattle.booktext.specs.Laws.Putting.{Next, Places}

-- ---- the Q lines of a class

member-first : (class set phone : ℕ) (phones : List ℕ)
    → member_lines class set (phone ∷ phones)
    ≡ member_lines class set (phone ∷ []) ++ member_lines class set phones
member-first class set phone phones =
    ap (map (λ p. book_line_for (Q class p))) (select-append (λ p. has p set) (phone ∷ []) phones)
    ∙ map-append (λ p. book_line_for (Q class p)) (select (λ p. has p set) (phone ∷ [])) _

-- those after a phone
abbrev pub members-after : (class set phone phones : ℕ) → List Line
members-after class set phone phones = member_lines class set (up_from (phone + 1) (phones - phone))

pub members-next : (class set phone phones : ℕ) → phone < phones
    → Next (members-after class set phone phones) (member_lines class set ((phone + 1) ∷ []))
    (members-after class set (phone + 1) phones)
unfolding up_from
members-next class set phone phones h =
    let left : phones - phone ≡ suc (phones - (phone + 1)) = omega arith in
    record {
      parts =
          rw (left, add-one (phone + 1))
          (member-first class set (phone + 1) (up_from (suc (phone + 1)) (phones - (phone + 1))));
    }

pub members-end : (class set phone phones : ℕ) → phones ≤ phone → members-after class set phone phones ≡ []
unfolding up_from select
members-end class set phone phones h = let none : phones - phone ≡ 0 = omega arith in rw none

abbrev pub members : (class set places phones : ℕ) → places ≡ phones
    → Places places (member_lines class set (up_from 1 phones))
members class set places phones e =
    record {
      at = λ i. member_lines class set ((i + 1) ∷ []);
      rest = λ i. members-after class set i phones;
      starts = rw sub-zero;
      next = λ i h. members-next class set i phones (omega arith);
      ends = members-end class set places phones (omega arith);
    }

select-few : (test : ℕ → Bool) (l : List ℕ) → length (select test l) ≤ length l
unfolding select
select-few test [] = omega arith
select-few test (x ∷ l) =
    let rest = select-few test l in by-test (test x) (λ e. rw e (omega arith)) (λ e. rw e (omega arith))

members-few : (class set phones : ℕ) → length (member_lines class set (up_from 1 phones)) ≤ phones
members-few class set phones =
    omega (
      arith,
      length-map (select (λ p. has p set) (up_from 1 phones)) (λ p. book_line_for (Q class p)),
      select-few (λ p. has p set) (up_from 1 phones),
      up_from-length 1 phones,
    )

-- ---- the Q lines of all classes

class-first : (phones class set : ℕ) (sets : List ℕ)
    → class_lines phones class (set ∷ sets)
    ≡ member_lines class set (up_from 1 phones) ++ class_lines phones (suc class) sets
unfolding members_from
class-first phones class set sets =
    map-append (λ m. book_line_for (line_of_member m)) (map (member_of class) (phones_in phones set)) _
    ∙ ap (λ (l : List Line). l ++ class_lines phones (suc class) sets)
    (map-map (λ m. book_line_for (line_of_member m)) (member_of class) (phones_in phones set))

pub classes-next : (phones i : ℕ) (sets : List ℕ) → i < length sets
    → Next (class_lines phones (i + 1) (drop i sets)) (member_lines (i + 1) (sets ! i) (up_from 1 phones))
    (class_lines phones (i + 1 + 1) (drop (i + 1) sets))
classes-next phones i sets h =
    record {
      parts =
          ap (class_lines phones (i + 1)) (drop-cons sets i 0 h)
          ∙ class-first phones (i + 1) (sets ! i) (drop (suc i) sets) ∙ rw (add-one i, add-one (suc i));
    }

pub classes-end : (phones i : ℕ) (sets : List ℕ) → length sets ≤ i
    → class_lines phones (i + 1) (drop i sets) ≡ []
unfolding members_from
classes-end phones i sets h = rw (drop_of_length-le sets {i = i} h)

pub classes-few : (phones class : ℕ) (sets : List ℕ)
    → length (class_lines phones class sets) ≤ phones * length sets
unfolding members_from
classes-few phones class [] = omega arith
classes-few phones class (set ∷ sets) =
    let own : List Line = member_lines class set (up_from 1 phones) in
    omega (
      arith,
      ap length (class-first phones class set sets),
      length-append own (class_lines phones (suc class) sets),
      members-few class set phones,
      classes-few phones (suc class) sets,
      mul-suc phones (length sets),
    )
