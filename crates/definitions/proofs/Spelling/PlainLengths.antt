-- The plain form of an accepted book is no longer than the text that the book was read from: it has as many nodes,
-- and no more Q, B and R lines. For each of its classes has the set of some class of the book, no two have the same;
-- and a class has no more phones than Q lines. So a buffer as long as that text is never too short.
use Rattle.std.specs.Prelude.{◌≡◌, refl, List, [], ◌∷◌, map, Bool, T, eqb}
use Rattle.std.proofs.Math.Path.{ap}
use Rattle.std.proofs.Common.{◌∙◌, subst, inl, inr, eqb→eq, length-append}
use Prim.Native.Nat.{ℕ, zero, suc, ◌+◌, ◌≤◌, ◌<◌}
use native.Mathlib.Omega.{arith}
use Rattle.std.proofs.Math.ListN.{length, length-map}
use Rattle.definitions.specs.declared.Header.{Header}
use Rattle.definitions.specs.Faults.{answered}
use Rattle.definitions.specs.Lists.{if◌then◌else◌, select, up_from, sum_of, IsIn, Distinct}
use Rattle.definitions.specs.PhoneSets.{has, set_of}
use Rattle.definitions.specs.BookLines.{BookLine, Member, header_of, members_of, boundaries_of, roots_of}
use Rattle.definitions.specs.BookReading.{Lent, read_book}
use Rattle.definitions.specs.Tables.{Contents, contents_of, phones_of_class, class_sets}
use Rattle.definitions.specs.BookText.{member_of, phones_in, members_from, boundaries_from, roots_listed, lines_of_book}
use Rattle.definitions.specs.PlainForm.{Tree, tree_at, trees_of, trees_there, sets_of, numbered, plain_contents}
use Rattle.definitions.specs.PlainForm.{header_for, plain_lines, plain_text}
use Rattle.definitions.proofs.Laws.Lists.Tests.{by-test}
use Rattle.definitions.proofs.Laws.Lists.Members.{listed}
use Rattle.definitions.proofs.Laws.Lists.Selected.{of-select}
use Rattle.definitions.proofs.Laws.Lists.Rising.{rising-Distinct, rising-up_from, rising-select}
use Rattle.definitions.proofs.Laws.Lists.Sums.{sum-map, sum_less, sum_both}
use Rattle.definitions.proofs.Laws.Lists.Fewer.{Distinct-few, Distinct-sum}
use Rattle.definitions.proofs.Laws.Matrices.PhoneSets.{has_listed}
use Rattle.definitions.proofs.Laws.Books.Books.{accepted-orderly, accepted-lines, accepted-length}
use Rattle.definitions.proofs.Laws.Books.KnownBooks.{Stated}
use Rattle.definitions.proofs.Laws.Books.SaidLines.{Says}
use Rattle.definitions.proofs.Laws.Books.LinesSay.{lines-say}
use Rattle.definitions.proofs.Laws.Books.BookTexts.{header-again}
use Rattle.definitions.proofs.Spelling.TreesThere.{given, there-given}
use Rattle.definitions.proofs.Spelling.PlainStated.{accepted-stated, used-once, used-listed, stated-few}
use Rattle.definitions.proofs.Spelling.PlainStated.{plain-nodes}
use Rattle.definitions.proofs.Spelling.GivenFew.{boundaries-few, listed-many, new-many, roots_few}
use Rattle.definitions.proofs.Spelling.PlainModels.{plain-accepted}

-- ---- the Q lines of sets

-- how many phones a set has
abbrev phones_many : (phones set : ℕ) → ℕ
phones_many phones set = length (phones_in phones set)

members-many : (phones class : ℕ) (sets : List ℕ)
    → length (members_from phones class sets) ≡ sum_of (phones_many phones) sets
unfolding members_from sum_of
members-many phones class [] = refl
members-many phones class (set ∷ sets) =
    length-append (map (member_of class) (phones_in phones set)) (members_from phones (suc class) sets)
    ∙ omega (arith, length-map (phones_in phones set) (member_of class), members-many phones (suc class) sets)

-- ---- the phones of a class

-- a set of listed phones has no others
of-listed : (p : ℕ) (l : List ℕ) → T (has p (set_of l)) → IsIn p l
unfolding has
of-listed zero l t = absurd t
of-listed (suc i) l t = (listed (suc i) l).0 (subst T (has_listed i l) t)

phones_few : (phones : ℕ) (l : List ℕ) → phones_many phones (set_of l) ≤ length l
phones_few phones l =
    let has-it : ℕ → Bool = λ p. has p (set_of l) in
    Distinct-few (phones_in phones (set_of l)) l
    (rising-Distinct (phones_in phones (set_of l)) (rising-select ◌<◌ has-it (up_from 1 phones) (rising-up_from 1 phones)))
    (λ p i. of-listed p l (of-select has-it p (up_from 1 phones) i).1)

-- a member is of one class
abbrev is_of : (own class : ℕ) → ℕ
is_of own class = if eqb own class then 1 else 0

of_none : (own : ℕ) (classes : List ℕ) → (IsIn own classes → ⊥) → sum_of (is_of own) classes ≡ 0
unfolding sum_of
of_none own [] other = refl
of_none own (class ∷ classes) other =
    let rest = of_none own classes (λ i. other (inr i)) in
    by-test (eqb own class) (λ e. absurd (other (inl (eqb→eq own class (rw e tt)))))
    (λ e. rw e (omega (arith, rest)))

of_one : (own : ℕ) (classes : List ℕ) → Distinct classes → sum_of (is_of own) classes ≤ 1
unfolding sum_of
of_one own [] u = omega arith
of_one own (class ∷ classes) u =
    by-test (eqb own class)
    (λ e.
    let same : own ≡ class = eqb→eq own class (rw e tt) in
    let none = of_none own classes (λ i. u.0 (subst (λ c. IsIn c classes) same i)) in
    rw e (omega (arith, none)))
    (λ e. rw e (omega (arith, of_one own classes u.1)))

class-more : (class : ℕ) (m : Member) (members : List Member)
    → length (phones_of_class class (m ∷ members)) ≤ is_of m.class class + length (phones_of_class class members)
unfolding phones_of_class select
class-more class m members = by-test (eqb m.class class) (λ e. rw e (omega arith)) (λ e. rw e (omega arith))

class-none : (classes : List ℕ) → sum_of (λ class. length (phones_of_class class [])) classes ≡ 0
unfolding sum_of phones_of_class select
class-none [] = refl
class-none (class ∷ classes) = omega (arith, class-none classes)

-- so the classes together have no more phones than there are members
classes-sum : (members : List Member) (classes : List ℕ) → Distinct classes
    → sum_of (λ class. length (phones_of_class class members)) classes ≤ length members
classes-sum [] classes u = omega (arith, class-none classes)
classes-sum (m ∷ members) classes u =
    let others : ℕ → ℕ = λ class. length (phones_of_class class members) in
    omega (
      arith,
      sum_less (λ class. length (phones_of_class class (m ∷ members))) (λ class. is_of m.class class + others class)
          classes (λ class. class-more class m members),
      sum_both (is_of m.class) others classes,
      of_one m.class classes u,
      classes-sum members classes u,
    )

sets-few : (phones classes : ℕ) (members : List Member)
    → sum_of (phones_many phones) (class_sets classes members) ≤ length members
unfolding class_sets
sets-few phones classes members =
    let own : ℕ → List ℕ = λ class. phones_of_class class members in
    omega (
      arith,
      sum-map (phones_many phones) (λ class. set_of (own class)) (up_from 1 classes),
      sum_less (λ class. phones_many phones (set_of (own class))) (λ class. length (own class)) (up_from 1 classes)
          (λ class. phones_few phones (own class)),
      classes-sum members (up_from 1 classes) (rising-Distinct (up_from 1 classes) (rising-up_from 1 classes)),
    )

-- ---- the lines of the plain form

module _ (lent : Lent) (text : List ℕ) (lines : List BookLine) (e : read_book lent text ≡ answered lines) where
  abbrev contents : Contents
  contents = contents_of lines

  abbrev plain : Contents
  plain = plain_contents contents

  stated : Stated (header_of lines) contents
  stated = accepted-stated lent text lines e

  abbrev there : List Tree
  there = trees_there (trees_of contents)

  -- its lines say what it holds
  says : Says (plain_lines contents) (members_from (header_of lines).phones 1 (sets_of there)) plain.nodes
      (boundaries_from 1 contents.plains) (roots_listed (header_of lines).states 0 plain.roots)
  unfolding plain_lines lines_of_book contents_of plain_contents numbered header_for
  says =
      lines-say (header_for plain) (members_from (header_of lines).phones 1 (sets_of there)) plain.nodes
      (boundaries_from 1 contents.plains) (roots_listed (header_of lines).states 0 plain.roots)

  members-few : length (members_of (plain_lines contents)) ≤ length (members_of lines)
  unfolding contents_of
  members-few =
      let phones : ℕ = (header_of lines).phones in
      omega (
        arith,
        ap length says.members-said,
        members-many phones 1 (sets_of there),
        Distinct-sum (phones_many phones) (sets_of there) contents.classes
            (used-once (header_of lines) contents stated) (used-listed (header_of lines) contents stated),
        sets-few phones (header_of lines).classes (members_of lines),
      )

  bounded : length (boundaries_of (plain_lines contents)) ≤ length (boundaries_of lines)
  unfolding contents_of
  bounded =
      omega (arith, ap length says.boundaries-said, boundaries-few (header_of lines) (boundaries_of lines))

  rooted : length (roots_of (plain_lines contents)) ≤ length (roots_of lines)
  unfolding contents_of plain_contents numbered trees_of
  rooted =
      omega (
        arith,
        ap length says.roots-said,
        listed-many (header_of lines).states 0 plain.roots,
        new-many 0 (trees_of contents) (omega (arith, stated-few (header_of lines) contents stated)),
        ap length (there-given contents.nodes contents.classes contents.roots),
        length-map (given contents.roots) (tree_at contents.nodes contents.classes),
        roots_few (header_of lines) (roots_of lines),
      )

  pub plain-no-longer : length (plain_text contents) ≤ length text
  unfolding plain_lines
  plain-no-longer =
      let read = plain-accepted lent text lines e in
      let header : header_of (plain_lines contents) ≡ header_for plain = header-again (header_for plain) plain in
      let own = accepted-orderly lent text lines e in
      let again = accepted-orderly lent (plain_text contents) (plain_lines contents) read in
      omega (
        arith,
        accepted-length lent text lines e,
        accepted-length lent (plain_text contents) (plain_lines contents) read,
        accepted-lines lent text lines e,
        accepted-lines lent (plain_text contents) (plain_lines contents) read,
        members-few,
        own.nodes,
        again.nodes,
        ap (λ (h : Header). h.nodes) header,
        plain-nodes (header_of lines) contents stated,
        bounded,
        rooted,
      )
