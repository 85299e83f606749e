-- Laws about what follows the last line: the state and the counts of names give the answer of documents 01 and 02.
-- The idea: a plain phone that is a boundary phone is one that both sets have; the first count that is not 1 is that
-- of the first orphan; and the line of either is the first of the text that says so.
use Rattle.std.specs.Prelude.{if◌then◌else◌, ◌≡◌, refl, List, [], ◌∷◌, ◌++◌, map, Bool, not, ◌||◌, ℕ, suc, ◌≤◌, ◌<◌, ltb, length, take, Result, Ok, Err}
use Rattle.std.proofs.Common.{sym, ap₂, ◌∙◌, subst, inl, inr, add-one, arith, ltb-true, ltb-false}
use Rattle.std.proofs.Math.Path.{ap}
use Rattle.definitions.specs.declared.Fault.TheVariants.{Orphan, Count, Chained}
use Rattle.definitions.specs.Lists.{at_least_one, IsIn}
use Rattle.definitions.specs.Lines.{lines_of}
use Rattle.definitions.specs.Faults.{answered, refuse, judge}
use Rattle.definitions.specs.PhoneSets.{has}
use Rattle.definitions.specs.Reading.{read_from}
use Rattle.definitions.specs.BookLines.{BookLine, header_of, TreeNode, nodes_of, Boundary, boundaries_of, boundary_in}
use Rattle.definitions.specs.BookLines.{is_boundary, roots_of, root_names}
use Rattle.definitions.specs.BookReading.{Lent, book_kind, book_enough, judge_names, judge_book, plains_plain, is_chained}
use Rattle.definitions.specs.BookReading.{is_line_of, line_where}
use Rattle.tables.specs.Naming.{first_misnamed}
use Rattle.booklines.specs.States.{state_of, boundary_set}
use Rattle.definitions.specs.Said.{result_of}
use Rattle.definitions.specs.declared.Header.{Header}
use Rattle.definitions.specs.declared.Refusal.{Refusal}
use Rattle.book.specs.Steps.{names_plain_in, finish_of, book_taken, line_number_of}
use Rattle.book.specs.Storing.{names_of, counts_stored}
use Rattle.definitions.proofs.Laws.Lists.Tests.{by-test}
use Rattle.definitions.proofs.Laws.Lists.Members.{in_left, in_right}
use Rattle.definitions.proofs.Laws.Text.Judging.{refused-not-answered}
use Rattle.definitions.proofs.Laws.Books.SaidLines.{line-says, boundaries-parts}
use Rattle.definitions.proofs.Laws.Books.Books.{names-judged}
use Rattle.tables.specs.Laws.Naming.{orphan-least, orphans-none, orphans-some}
use Rattle.booklines.specs.Laws.Boundaries.{has-boundary, PlainsLow}
use Rattle.booklines.specs.Laws.States.{enough-state, chained-state}
use Rattle.book.specs.Laws.Keeping.{Kept, kept-few}

-- ---- 21

-- a test of the elements of a list that another agrees with
some-agrees : {A : Type 0} (f g : A → Bool) (l : List A) → ((x : A) → IsIn x l → f x ≡ g x)
    → at_least_one f l ≡ at_least_one g l
unfolding at_least_one
some-agrees f g [] h = refl
some-agrees f g (x ∷ l) h = ap₂ ◌||◌ (h x (inl refl)) (some-agrees f g l (λ y i. h y (inr i)))

-- the first B line whose plain phone is a boundary phone, by the set of these
chained-at : (boundaries : List Boundary) (at : ℕ) (lines : List BookLine) → PlainsLow (boundaries_of lines)
    → line_where (names_plain_in (boundary_set boundaries)) at lines ≡ line_where (is_chained boundaries) at lines
unfolding line_where names_plain_in is_chained
chained-at boundaries at [] low = refl
chained-at boundaries at (line ∷ lines) low =
    ap₂ (λ (here : Bool) (further : ℕ). if here then at else further)
    (some-agrees (λ b. has b.plain (boundary_set boundaries)) (λ b. is_boundary boundaries b.plain)
    (boundary_in line)
    (λ b i. has-boundary boundaries b.plain (lows b (in_left b (boundary_in line) (boundaries_of lines) i))))
    (chained-at boundaries (suc at) lines (λ b i. lows b (in_right b (boundary_in line) (boundaries_of lines) i)))
  where
    lows : PlainsLow (boundary_in line ++ boundaries_of lines)
    lows =
        subst PlainsLow (boundaries-parts (line ∷ []) lines ∙ ap (λ l. l ++ boundaries_of lines)
        (line-says line).boundaries-said) low

-- ---- 16

-- the answer where no plain phone is a boundary phone, by the lowest node that is not named once
abbrev judged_by : (text : List ℕ) → (before : List BookLine) → (node : ℕ) → Result Header Refusal
judged_by text before node =
    if ltb node (length (nodes_of before))
    then Err (record { fault = Orphan; line = line_number_of text (is_line_of node) })
    else Ok (header_of before)

finish-names : (lent : Lent) (text : List ℕ) (before : List BookLine) → Kept lent before
    → before ≡ map book_taken (lines_of text)
    → judged_by text before (first_misnamed (take (length (nodes_of before)) (counts_stored before)))
    ≡ result_of header_of (judge_names before)
unfolding counts_stored names_of judge_names result_of
finish-names lent text before k all =
    by-test (ltb node (length nodes)) (λ e. rw e (some-orphan (ltb-true node (length nodes) e)))
    (λ e. rw e (no-orphan (ltb-false node (length nodes) e)))
  where
    nodes : List TreeNode
    nodes = nodes_of before

    roots : List ℕ
    roots = root_names (roots_of before)

    node : ℕ
    node = first_misnamed (take (length nodes) (counts_stored before))

    room : length nodes ≤ 4096
    room = (kept-few lent before k).0

    some-orphan : node < length nodes
        → Err (record { fault = Orphan; line = line_number_of text (is_line_of node) })
        ≡ result_of header_of (judge_names before)
    some-orphan h =
        let judged : judge_names before ≡ refuse Orphan (line_where (is_line_of node) 1 before) =
        rw (orphans-some nodes roots 4096 room h, judge_names) in
        rw judged
        (ap (λ (lines : List BookLine).
        Err (record { fault = Orphan; line = line_where (is_line_of node) 1 lines })) (sym all))

    no-orphan : length nodes ≤ node → Ok (header_of before) ≡ result_of header_of (judge_names before)
    no-orphan h =
        let last : node ≡ length nodes = omega (arith, orphan-least nodes roots 4096 room) in
        let judged : judge_names before ≡ answered before =
        rw (orphans-none nodes roots 4096 room last, judge_names) in
        rw judged

-- ---- after the last line

module _ (lent : Lent) (text : List ℕ) (before : List BookLine) (k : Kept lent before)
    (all : before ≡ map book_taken (lines_of text))
  where
    abbrev boundaries : List Boundary
    boundaries = boundaries_of before

    -- what is answered where no line is missing
    abbrev judged_all : Bool → Result Header Refusal
    judged_all chained =
        if chained
        then Err (record { fault = Chained; line = line_number_of text (names_plain_in (boundary_set boundaries)) })
        else judged_by text before (first_misnamed (take (length (nodes_of before)) (counts_stored before)))

    finish-book : judged_all (not (plains_plain boundaries)) ≡ result_of header_of (judge_book before)
    unfolding judge_book judge result_of
    finish-book =
        by-test (plains_plain boundaries) (λ e. rw e (finish-names lent text before k all)) (λ e.
        let line : line_number_of text (names_plain_in (boundary_set boundaries)) ≡ line_where (is_chained boundaries) 1 before =
        ap (line_where (names_plain_in (boundary_set boundaries)) 1) (sym all)
        ∙ chained-at boundaries 1 before k.plains in
        rw (e, line))

    pub finish-state : finish_of text (state_of before) (counts_stored before)
        ≡ result_of header_of (read_from (book_kind lent) (suc (length before)) before [])
    unfolding finish_of read_from judge book_kind result_of state_of
    finish-state =
        by-test (book_enough before)
        (λ e. rw (enough-state before, e, chained-state before k.plains) finish-book)
        (λ e. rw (enough-state before, e, add-one))

-- what is accepted after the last line is the lines
pub finish-accepted : (lent : Lent) (before answer : List BookLine) (at : ℕ)
    → read_from (book_kind lent) at before [] ≡ answered answer → answer ≡ before
unfolding read_from judge book_kind judge_book
finish-accepted lent before answer at h =
    by-test (book_enough before)
    (λ e. by-test (plains_plain (boundaries_of before))
    (λ q. sym (names-judged before answer (rw (e, q) at h)).0)
    (λ q. absurd (refused-not-answered _ Chained _ answer refl (rw (e, q) at h))))
    (λ e. absurd (refused-not-answered _ Count at answer refl (rw e at h)))
