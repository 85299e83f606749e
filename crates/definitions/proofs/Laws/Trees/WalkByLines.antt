-- What the lines give to a context and a state, a leaf, its model and the questions met, is what the walk in the tables
-- reaches. Both walks meet the same nodes: a question's class holds the context's phone when a Q line puts it there.
-- Demand 3 replaces the lines by the tables with it.
use Rattle.std.specs.Prelude.{◌≡◌, refl, List, [], ◌∷◌, map, Bool, true, false, ◌&&◌, ◌||◌, T, eqb, length}
use Rattle.std.proofs.Common.{sym, ap, ap₂, ◌∙◌, arith, eqb→eq}
use Rattle.std.proofs.Math.Option.{Option, some}
use Prim.Native.Nat.{ℕ, zero, suc, ◌+◌, ◌-◌, ◌≤◌, ◌<◌}
use Rattle.definitions.specs.Lists.{if◌then◌else◌, ◌!◌, every, at_least_one, select, map_option}
use Rattle.definitions.specs.Faults.{answered}
use Rattle.definitions.specs.BookLines.{BookLine, header_of, is_phone, Member, members_of, TreeNode}
use Rattle.definitions.specs.BookLines.{question, leaf, nodes_of, Asked, at_leaf, past_question}
use Rattle.definitions.specs.BookReading.{Lent, read_book}
use Rattle.definitions.specs.Tables.{Book, phones_of_class, class_sets, book_of, book_in, contents_of}
use Rattle.definitions.specs.Lookup.{node_at, walk, reached, answers}
use Rattle.definitions.specs.PhoneSets.{has}
use Rattle.definitions.specs.TreesGive.{node_line, put_in_class, answers_by_lines, walk_by_lines, reached_by_lines}
use Rattle.definitions.specs.Transcription.{reached_for}
use Rattle.definitions.proofs.Laws.Lists.Tests.{same_tests, eq→eqb, every-at}
use Rattle.definitions.proofs.Laws.Lists.Lists.{map-up_from-at}
use Rattle.definitions.proofs.Laws.Text.Ranges.{phone_range}
use Rattle.definitions.proofs.Laws.Trees.Walks.{walk-leaf, walk-question, by-node, either-node}
use Rattle.definitions.proofs.Laws.Books.Sound.{Sound}
use Rattle.definitions.proofs.Laws.Books.SaidLines.{nodes-few}
use Rattle.definitions.proofs.Laws.Books.Accepted.{accepted-question}
use Rattle.definitions.proofs.Laws.Books.ByLines.{accepted-node-line}
use Rattle.definitions.proofs.Laws.Matrices.PhoneSets.{has_listed}
use Rattle.definitions.proofs.Laws.Books.TreesInForce.{accepted-root-line, accepted-sound}

-- ---- classes

eqb_swap : (m n : ℕ) → eqb m n ≡ eqb n m
eqb_swap m n =
    same_tests (eqb m n) (eqb n m)
    (λ t. eq→eqb n m (sym (eqb→eq m n t))) (λ t. eq→eqb m n (sym (eqb→eq n m t)))

-- a member puts a phone into a class when the class's phones hold it
put-listed : (members : List Member) (class phone : ℕ)
    → at_least_one (λ m. eqb m.class class && eqb m.phone phone) members
    ≡ at_least_one (eqb phone) (phones_of_class class members)
unfolding at_least_one phones_of_class select
put-listed [] class phone = refl
put-listed (m ∷ members) class phone = go (eqb m.class class) (put-listed members class phone)
  where
    rest : List Member
    rest = select (λ m. eqb m.class class) members

    later : Bool
    later = at_least_one (λ m. eqb m.class class && eqb m.phone phone) members

    go : (b : Bool) → later ≡ at_least_one (eqb phone) (map (λ m. m.phone) rest)
        → (b && eqb m.phone phone || later)
        ≡ at_least_one (eqb phone) (map (λ m. m.phone) (if b then m ∷ rest else rest))
    go true e = ap₂ ◌||◌ (eqb_swap m.phone phone) e
    go false e = e

-- classes count from 1
put-in-class : (lines : List BookLine) (class phone : ℕ) → 1 ≤ class → class ≤ (header_of lines).classes
    → 1 ≤ phone → put_in_class lines class phone ≡ has phone ((book_of lines).classes ! (class - 1))
unfolding put_in_class book_of book_in contents_of class_sets
put-in-class lines class zero c C p = absurd (omega arith)
put-in-class lines class (suc i) c C p =
    let set = map-up_from-at _ 1 (header_of lines).classes (class - 1) class (omega arith) (omega arith) in
    put-listed (members_of lines) class (suc i) ∙ sym (has_listed i (phones_of_class class (members_of lines)))
    ∙ ap (has (suc i)) (sym set)

-- ---- the walk

-- a step by lines
lines-at-leaf : (lines : List BookLine) (context : List ℕ) (steps node model : ℕ)
    → node_line lines node ≡ some (leaf model)
    → walk_by_lines (suc steps) lines context node ≡ some (at_leaf node model)
unfolding walk_by_lines
lines-at-leaf lines context steps node model e = rw (e, walk_by_lines)

lines-at-question : (lines : List BookLine) (context : List ℕ) (steps node : ℕ) (asked : Asked)
    (yes_node no_node : ℕ)
    → node_line lines node ≡ some (question asked yes_node no_node)
    → walk_by_lines (suc steps) lines context node ≡ map_option past_question
    (walk_by_lines steps lines context (if answers_by_lines lines context asked then yes_node else no_node))
unfolding walk_by_lines
lines-at-question lines context steps node asked yes_node no_node e = rw (e, walk_by_lines)

module _ (lent : Lent) (text : List ℕ) (lines : List BookLine)
    (accepted : read_book lent text ≡ answered lines)
    (context : List ℕ) (columns : length context ≡ (header_of lines).half + (header_of lines).half + 1)
    (phones : T (every (is_phone (header_of lines).phones) context))
  where
    abbrev book : Book
    book = book_of lines

    phone-at : (c : ℕ) → c < (header_of lines).half + (header_of lines).half + 1
        → (1 ≤ context ! c) × (context ! c ≤ (header_of lines).phones)
    phone-at c h =
        (phone_range (header_of lines).phones (context ! c)).0
        (every-at (is_phone (header_of lines).phones) context 0 phones c (omega arith))

    sound : Sound book
    sound = accepted-sound lent text lines accepted

    -- both walks answer a question alike
    same_answer : (node : ℕ) (asked : Asked) (yes_node no_node : ℕ)
        → node_at (nodes_of lines) node ≡ question asked yes_node no_node
        → answers_by_lines lines context asked ≡ answers book.classes context asked
    unfolding answers_by_lines answers
    same_answer node asked yes_node no_node e =
        let q = (accepted-question lent text lines accepted node asked yes_node no_node e).in-range in
        put-in-class lines asked.class (context ! asked.position) q.class_low q.class_high
        (phone-at asked.position (omega (arith, q.position_high))).0

    abbrev Alike : (steps levels node : ℕ) → Type 0
    Alike steps levels node =
        walk_by_lines steps lines context node
        ≡ some (walk levels (nodes_of lines) book.classes context node)

    line-says : (node : ℕ) (x : TreeNode) → node < length (nodes_of lines) → node_at (nodes_of lines) node ≡ x
        → node_line lines node ≡ some x
    line-says node x h e =
        accepted-node-line lent text lines accepted node h ∙ ap {B = Option TreeNode} some e

    alike-leaf : (steps levels node model : ℕ) → node < length (nodes_of lines)
        → node_at (nodes_of lines) node ≡ leaf model → Alike (suc steps) (suc levels) node
    alike-leaf steps levels node model h e =
        lines-at-leaf lines context steps node model (line-says node (leaf model) h e)
        ∙ rw (walk-leaf (nodes_of lines) book.classes context levels node model e)

    alike-question : (steps levels node : ℕ) (asked : Asked) (yes_node no_node : ℕ)
        → node < length (nodes_of lines)
        → node_at (nodes_of lines) node ≡ question asked yes_node no_node
        → Alike steps levels yes_node → Alike steps levels no_node → Alike (suc steps) (suc levels) node
    unfolding map_option
    alike-question steps levels node asked yes_node no_node h e yes-side no-side =
        lines-at-question lines context steps node asked yes_node no_node (line-says node _ h e)
        ∙ rw (
          walk-question (nodes_of lines) book.classes context levels node asked yes_node no_node e,
          same_answer node asked yes_node no_node e,
        )
        (ap (map_option past_question) (either-node (Alike steps levels) yes_node no_node yes-side no-side
        (answers book.classes context asked)))

    -- so enough steps of each end at the same leaf
    walks-alike : (steps levels node : ℕ) → node < length (nodes_of lines)
        → length (nodes_of lines) ≤ node + steps → length (nodes_of lines) ≤ node + levels
        → Alike steps levels node
    unfolding book_of book_in contents_of
    walks-alike zero levels node h k l = absurd (omega arith)
    walks-alike (suc steps) zero node h k l = absurd (omega arith)
    walks-alike (suc steps) (suc levels) node h k l =
        by-node (nodes_of lines) node (λ model e. alike-leaf steps levels node model h e)
        (λ asked yes_node no_node e.
        let (yes_later, no_later) = sound.forward node asked yes_node no_node e in
        alike-question steps levels node asked yes_node no_node h e
        (walks-alike steps levels yes_node yes_later.listed (omega (arith, yes_later.greater))
        (omega (arith, yes_later.greater)))
        (walks-alike steps levels no_node no_later.listed (omega (arith, no_later.greater))
        (omega (arith, no_later.greater))))

    -- from the root that both start at
    pub reached-by-tables : (state : ℕ) → 1 ≤ state → state ≤ (header_of lines).states
        → reached_by_lines lines context state ≡ some (reached_for book context state)
    unfolding reached_by_lines reached book_of book_in contents_of
    reached-by-tables state s S =
        let half : ℕ = (header_of lines).half in
        let phone = phone-at half (omega arith) in
        let root = accepted-root-line lent text lines accepted _ state phone.0 phone.1 s S in
        rw (root, reached_by_lines)
        (walks-alike (length lines) (length (nodes_of lines)) _ (sound.root (context ! half) state)
        (omega (arith, nodes-few lines)) (omega arith))
