-- Laws about what is stored: each line that is taken brings the tables and the counts of names from what the
-- lines before it leave to what the lines with it leave. The idea: a line adds a node at the end of the nodes, or
-- changes one word for a class, a root or a plain phone, and a table is such a list with zeros after it.
use Rattle.std.specs.Prelude.{◌≡◌, refl, ◌≢◌, ℕ, suc, ◌+◌, ◌-◌, ◌*◌, ◌≤◌, ◌<◌, T, leb, length, set, replicate}
use Rattle.std.proofs.Common.{sym, ap, ◌∙◌, arith, leb→le, ltb→lt, eqb→eq, length-append, eq-eqb, ne_eqb}
use mathlib.Core.List.{List, [], ◌∷◌, ◌++◌, map, append_assoc, append-nil, map-append}
use Rattle.std.proofs.Math.Bool.{Bool}
use Rattle.std.specs.Int.Bits.{bit_or}
use Rattle.std.proofs.Math.Dec.{eqb}
use Rattle.definitions.specs.declared.Header.{Header}
use Rattle.definitions.specs.Lists.{◌!◌, concat_map, select, up_from, cleared, padded, map_option, first_where}
use Rattle.definitions.specs.PhoneSets.{alone, set_of}
use Rattle.definitions.specs.BookLines.{BookLine, H, Q, N, L, B, R, header_in, header_of, root_count, Member, members_of}
use Rattle.definitions.specs.BookLines.{member_in, TreeNode, question, leaf, nodes_of, node_line_in, Boundary}
use Rattle.definitions.specs.BookLines.{boundaries_of, boundary_in, plain_for, plain_given, plain_words, Root, roots_of}
use Rattle.definitions.specs.BookLines.{root_in, root_place, no_root, root_words, children_of, asks}
use Rattle.definitions.specs.BookReading.{Lent, node_size, wide_enough, book_follows, book_in_order, left_out_to}
use Rattle.definitions.specs.BookReading.{within_header}
use Rattle.definitions.specs.Tables.{node_words, phones_of_class, class_sets}
use Rattle.lines.specs.Putting.{put_at}
use Rattle.tables.specs.Naming.{counts_of}
use Rattle.book.specs.Storing.{nodes_after, classes_after, roots_after, plains_after, names_in, counts_after}
use Rattle.book.specs.Storing.{nodes_stored, classes_stored, roots_stored, plains_stored, names_of, counts_stored}
use Rattle.definitions.proofs.Laws.Lists.Tests.{T_and}
use Rattle.definitions.proofs.Laws.Lists.Lists.{concat_map-snoc, map-up_from-length, map-up_from-at, padded-length}
use Rattle.definitions.proofs.Laws.Lists.Counting.{up_from-set, up_from-same}
use Rattle.definitions.proofs.Laws.Lists.Selected.{select-here, select-past, select-append}
use Rattle.definitions.proofs.Laws.Lists.Records.{flat-length}
use Rattle.definitions.proofs.Laws.Matrices.SevenWords.{padded-column}
use Rattle.definitions.proofs.Laws.Books.Tables.{node-sized}
use Rattle.definitions.proofs.Laws.Books.SaidLines.{none-says, line-says, members-more, nodes-more, header-parts}
use Rattle.definitions.proofs.Laws.Books.SaidLines.{boundaries-more, roots-more, root-names-more, root-names-count}
use Rattle.definitions.proofs.Laws.Books.Books.{Fits, node-started, test-started, roomy}
use Rattle.definitions.proofs.Laws.Books.Accepted.{roots-fit}
use Rattle.definitions.proofs.Laws.Books.GivenWords.{plain-words-more, root-words-none, root-words-length}
use Rattle.definitions.proofs.Laws.Books.GivenWords.{root-words-more}
use Rattle.definitions.proofs.Laws.Books.Ordered.{next-unnamed}
use Rattle.lines.specs.Laws.Putting.{put-after, padded-set, padded-zeros}
use Rattle.tables.specs.Laws.Naming.{counts-none, counts-length, counts-named, children-length}
use Rattle.booklines.specs.Laws.Boundaries.{set_of-snoc}
use Rattle.booklines.specs.Laws.States.{boundary-started}
use Rattle.book.specs.Laws.Keeping.{Kept, kept-none, kept-few, root-within}

-- ---- the table of nodes

node-put : (lent : Lent) (before : List BookLine) (node : TreeNode)
    → put_at (node_size * length (nodes_of before)) (node_words node) (nodes_stored lent before)
    ≡ padded lent.nodes (concat_map node_words (nodes_of before ++ (node ∷ [])))
unfolding nodes_stored
node-put lent before node =
    rw (
      concat_map-snoc node_words (nodes_of before) node,
      ← flat-length node_words node_size node-sized (nodes_of before),
    )
    (put-after lent.nodes (concat_map node_words (nodes_of before)) (node_words node))

pub nodes-stored : (lent : Lent) (before : List BookLine) (line : BookLine) → Kept lent before
    → Fits lent before line
    → nodes_after line (nodes_stored lent before) ≡ nodes_stored lent (before ++ (line ∷ []))
unfolding nodes_after nodes_stored node_line_in book_in_order
nodes-stored lent before (H half states phones classes nodes) k f = rw (nodes-more, append-nil)
nodes-stored lent before (Q class phone) k f = rw (nodes-more, append-nil)
nodes-stored lent before (N node class position yes_node no_node) k f =
    rw (nodes-more, eqb→eq node (length (nodes_of before)) f.in_order)
    (node-put lent before (question (asks class position) yes_node no_node))
nodes-stored lent before (L node model) k f =
    rw (nodes-more, eqb→eq node (length (nodes_of before)) f.in_order) (node-put lent before (leaf model))
nodes-stored lent before (B boundary plain) k f = rw (nodes-more, append-nil)
nodes-stored lent before (R phone state root) k f = rw (nodes-more, append-nil)

-- ---- the table of roots

-- a line other than H: the header stays
module _ (lent : Lent) (before : List BookLine) (line : BookLine) (started : 0 < length before) where
  rootless-stored : root_in line ≡ [] → roots_stored lent before ≡ roots_stored lent (before ++ (line ∷ []))
  unfolding roots_stored
  rootless-stored e =
      rw (header-parts before (line ∷ []) started, roots-more before line, e, append-nil (roots_of before))

  plainless-stored : boundary_in line ≡ [] → plains_stored lent before ≡ plains_stored lent (before ++ (line ∷ []))
  unfolding plains_stored
  plainless-stored e =
      rw (header-parts before (line ∷ []) started, boundaries-more before line, e, append-nil (boundaries_of before))

-- no root is given before the first R line
no-roots-stored : (lent : Lent) (before : List BookLine) → roots_of before ≡ []
    → roots_stored lent before ≡ padded lent.roots (replicate (root_count (header_of before)) no_root)
unfolding roots_stored
no-roots-stored lent before e = rw e (ap (padded lent.roots) (root-words-none (header_of before)))

first-roots : (lent : Lent) (half states phones classes nodes : ℕ)
    → (let line : BookLine = H half states phones classes nodes in
    put_at 0 (replicate (root_count (header_in line)) no_root) (roots_stored lent [])
    ≡ roots_stored lent (line ∷ []))
unfolding header_of root_count root_in
first-roots lent half states phones classes nodes =
    let line : BookLine = H half states phones classes nodes in
    let words : List ℕ = replicate (root_count (header_in line)) no_root in
    ap (put_at 0 words) (no-roots-stored lent [] none-says.roots-said)
    ∙ put-after lent.roots [] words
    ∙ sym (no-roots-stored lent (line ∷ []) (line-says line).roots-said)

root-put : (lent : Lent) (before : List BookLine) (phone state root : ℕ) → Kept lent before
    → Fits lent before (R phone state root)
    → set (roots_stored lent before) (root_place (header_of before).states phone state) root
    ≡ roots_stored lent (before ++ (R phone state root ∷ []))
unfolding roots_stored root_in book_follows book_in_order left_out_to
root-put lent before phone state root k f =
    let line : BookLine = R phone state root in
    let header : Header = header_of before in
    let r : Root = record { phone = phone; state = state; node = root } in
    let fits = (roots-fit lent before line f).0 in
    let place = root_place header.states phone state in
    rw (header-parts before (line ∷ []) (test-started before _ f.follows), roots-more before line)
    (padded-set lent.roots (root_words header (roots_of before)) place root
    (omega (arith, root-within lent before phone state root f, root-words-length header (roots_of before)))
    ∙ ap (padded lent.roots)
    (root-words-more header k.ordered.rooted r fits.spot fits.phone_high f.in_order))

pub roots-stored : (lent : Lent) (before : List BookLine) (line : BookLine) → Kept lent before
    → Fits lent before line
    → roots_after (header_of before).states line (roots_stored lent before)
    ≡ roots_stored lent (before ++ (line ∷ []))
unfolding roots_after root_in book_follows
roots-stored lent [] (H half states phones classes nodes) k f = first-roots lent half states phones classes nodes
roots-stored lent (first ∷ before) (H half states phones classes nodes) k f =
    absurd (omega (arith, eqb→eq (suc (length before)) 0 f.follows))
roots-stored lent before (Q class phone) k f =
    rootless-stored lent before (Q class phone) (test-started before _ f.follows) refl
roots-stored lent before (N node class position yes_node no_node) k f =
    rootless-stored lent before (N node class position yes_node no_node) (node-started before f.follows) refl
roots-stored lent before (L node model) k f =
    rootless-stored lent before (L node model) (node-started before f.follows) refl
roots-stored lent before (B boundary plain) k f =
    rootless-stored lent before (B boundary plain) (boundary-started before boundary plain f.follows) refl
roots-stored lent before (R phone state root) k f = root-put lent before phone state root k f

-- ---- the table of plain phones

-- no plain phone is named before the first B line
no-plains-stored : (lent : Lent) (before : List BookLine) → boundaries_of before ≡ []
    → T (wide_enough lent (header_of before)) → plains_stored lent before ≡ cleared lent.plains
unfolding plains_stored plain_words plain_given plain_for map_option first_where
no-plains-stored lent before e wide =
    let phones : ℕ = (header_of before).phones in
    rw e (ap (padded lent.plains) (up_from-same _ 0 1 phones (λ k. refl))
    ∙ padded-zeros lent.plains phones (roomy lent (header_of before) wide).plains)

plain-words-length : (header : Header) (boundaries : List Boundary)
    → length (plain_words header boundaries) ≡ header.phones
unfolding plain_words
plain-words-length header boundaries = map-up_from-length _ 1 header.phones

boundary-put : (lent : Lent) (before : List BookLine) (boundary plain : ℕ) → Kept lent before
    → Fits lent before (B boundary plain)
    → set (plains_stored lent before) (boundary - 1) plain
    ≡ plains_stored lent (before ++ (B boundary plain ∷ []))
unfolding plains_stored boundary_in book_in_order within_header
boundary-put lent before boundary plain k f =
    let line : BookLine = B boundary plain in
    let header : Header = header_of before in
    let b : Boundary = record { phone = boundary; plain = plain } in
    let low : 2 ≤ boundary = f.ranged.0.low in
    let high : boundary ≤ header.phones =
    leb→le _ _ ((T_and (leb boundary header.phones) (leb plain header.phones)).0 f.within).0 in
    let new = next-unnamed (boundaries_of before) boundary k.ordered.rising f.in_order in
    let started = boundary-started before boundary plain f.follows in
    rw (header-parts before (line ∷ []) started, boundaries-more before line)
    (padded-set lent.plains (plain_words header (boundaries_of before)) (boundary - 1) plain
    (omega (arith, low, high, plain-words-length header (boundaries_of before)))
    ∙ ap (padded lent.plains)
    (plain-words-more header (boundaries_of before) b new (omega (arith, low)) high))

pub plains-stored : (lent : Lent) (before : List BookLine) (line : BookLine) → Kept lent before
    → Fits lent before line
    → plains_after line (plains_stored lent before) ≡ plains_stored lent (before ++ (line ∷ []))
unfolding plains_after boundary_in book_follows header_of
plains-stored lent [] (H half states phones classes nodes) k f =
    let line : BookLine = H half states phones classes nodes in
    no-plains-stored lent [] none-says.boundaries-said k.wide
    ∙ sym (no-plains-stored lent (line ∷ []) (line-says line).boundaries-said f.wide)
plains-stored lent (first ∷ before) (H half states phones classes nodes) k f =
    absurd (omega (arith, eqb→eq (suc (length before)) 0 f.follows))
plains-stored lent before (Q class phone) k f =
    plainless-stored lent before (Q class phone) (test-started before _ f.follows) refl
plains-stored lent before (N node class position yes_node no_node) k f =
    plainless-stored lent before (N node class position yes_node no_node) (node-started before f.follows) refl
plains-stored lent before (L node model) k f =
    plainless-stored lent before (L node model) (node-started before f.follows) refl
plains-stored lent before (B boundary plain) k f = boundary-put lent before boundary plain k f
plains-stored lent before (R phone state root) k f =
    plainless-stored lent before (R phone state root) (test-started before _ f.follows) refl

-- ---- the table of classes

module _ (members : List Member) (m : Member) where
  class-joined : (class : ℕ)
      → phones_of_class class (members ++ (m ∷ []))
      ≡ phones_of_class class members ++ phones_of_class class (m ∷ [])
  unfolding phones_of_class
  class-joined class =
      let test : Member → Bool = λ n. eqb n.class class in
      rw (select-append test members (m ∷ []), map-append)

  class-more : set_of (phones_of_class m.class (members ++ (m ∷ [])))
      ≡ bit_or (set_of (phones_of_class m.class members)) (alone m.phone)
  unfolding phones_of_class select
  class-more =
      let test : Member → Bool = λ n. eqb n.class m.class in
      rw (class-joined, select-here test m [] (eq-eqb m.class m.class refl))
      (set_of-snoc (phones_of_class m.class members) m.phone)

  class_same : (class : ℕ) → class ≢ m.class
      → set_of (phones_of_class class members) ≡ set_of (phones_of_class class (members ++ (m ∷ [])))
  unfolding phones_of_class select
  class_same class n =
      let test : Member → Bool = λ n. eqb n.class class in
      rw (class-joined, select-past test m [] (ne_eqb m.class class (λ e. n (sym e))), append-nil)

-- before the first member all classes are empty
no-members : (classes : ℕ) → class_sets classes [] ≡ cleared classes
unfolding class_sets phones_of_class select set_of
no-members classes = up_from-same (λ class. 0) 0 1 classes (λ k. refl)

-- a member more in the set of its class
class-put : (size classes : ℕ) (members : List Member) (m : Member) → 1 ≤ m.class → m.class ≤ classes
    → (let table : List ℕ = padded size (class_sets classes members) in
    set table (m.class - 1) (bit_or (table ! (m.class - 1)) (alone m.phone)))
    ≡ padded size (class_sets classes (members ++ (m ∷ [])))
unfolding class_sets
class-put size classes members m low high =
    padded-set size sets i (bit_or (padded size sets ! i) (alone m.phone)) used
    ∙ ap (padded size) (ap (set sets i) word ∙ up_from-set old new 1 classes i below others)
  where
    old : ℕ → ℕ
    old class = set_of (phones_of_class class members)

    new : ℕ → ℕ
    new class = set_of (phones_of_class class (members ++ (m ∷ [])))

    sets : List ℕ
    sets = map old (up_from 1 classes)

    i : ℕ
    i = m.class - 1

    place : 1 + i ≡ m.class
    place = omega arith

    below : i < classes
    below = omega arith

    used : i < length sets
    used = omega (arith, map-up_from-length old 1 classes)

    word : bit_or (padded size sets ! i) (alone m.phone) ≡ new (1 + i)
    word =
        ap (λ (set : ℕ). bit_or set (alone m.phone))
        (padded-column size sets i ∙ map-up_from-at old 1 classes i m.class below (sym place))
        ∙ sym (class-more members m)
        ∙ ap new (sym place)

    others : (class : ℕ) → class ≢ 1 + i → old class ≡ new class
    others class n = class_same members m class (λ e. n (e ∙ sym place))

-- the first line is the H line
first-stored : (lent : Lent) (before : List BookLine) (half states phones classes nodes : ℕ)
    → Fits lent before (H half states phones classes nodes)
    → classes_stored lent before ≡ classes_stored lent (before ++ (H half states phones classes nodes ∷ []))
unfolding classes_stored book_follows header_of header_in member_in
first-stored lent [] half states phones classes nodes f =
    let size : ℕ = lent.classes in
    let header : Header = header_in (H half states phones classes nodes) in
    let room : classes ≤ size = (roomy lent header f.wide).classes in
    rw (
      none-says.members-said,
      (line-says (H half states phones classes nodes)).members-said,
      no-members 0,
      no-members classes,
    )
    (padded-zeros size 0 (omega arith) ∙ sym (padded-zeros size classes room))
first-stored lent (first ∷ before) half states phones classes nodes f =
    absurd (omega (arith, eqb→eq (suc (length before)) 0 f.follows))

pub classes-stored : (lent : Lent) (before : List BookLine) (line : BookLine) → Kept lent before
    → Fits lent before line
    → classes_after line (classes_stored lent before) ≡ classes_stored lent (before ++ (line ∷ []))
unfolding classes_after classes_stored member_in header_in book_follows within_header
classes-stored lent before (H half states phones classes nodes) k f =
    first-stored lent before half states phones classes nodes f
classes-stored lent before (Q class phone) k f =
    let header : Header = header_of before in
    let parts = (T_and (leb class header.classes) (leb phone header.phones)).0 f.within in
    let m : Member = record { class = class; phone = phone } in
    rw (header-parts before (Q class phone ∷ []) (test-started before _ f.follows), members-more)
    (class-put lent.classes header.classes (members_of before) m f.ranged.0.low
    (leb→le _ _ parts.0))
classes-stored lent before (N node class position yes_node no_node) k f =
    rw (
      header-parts before (N node class position yes_node no_node ∷ []) (node-started before f.follows),
      members-more,
      append-nil,
    )
classes-stored lent before (L node model) k f =
    rw (header-parts before (L node model ∷ []) (node-started before f.follows), members-more, append-nil)
classes-stored lent before (B boundary plain) k f =
    rw (
      header-parts before (B boundary plain ∷ []) (boundary-started before boundary plain f.follows),
      members-more,
      append-nil,
    )
classes-stored lent before (R phone state root) k f =
    rw (
      header-parts before (R phone state root ∷ []) (test-started before _ f.follows),
      members-more,
      append-nil,
    )

-- ---- the counts of names

-- no root stands before the last node
no-root-yet : (lent : Lent) (before : List BookLine) → Kept lent before
    → length (nodes_of before) < (header_of before).nodes → roots_of before ≡ []
no-root-yet lent before k h = none (roots_of before) refl
  where
    none : (roots : List Root) → roots_of before ≡ roots → roots_of before ≡ []
    none [] e = e
    none (root ∷ roots) e =
        absurd (omega (arith, k.after_nodes (rw e (omega arith))))

-- there are far fewer names than a count can hold
few-names : (lent : Lent) (before : List BookLine) → Kept lent before → length (names_of before) ≤ 8384
unfolding names_of
few-names lent before k =
    let (nodes, roots) = kept-few lent before k in
    rw length-append (omega (arith, children-length (nodes_of before), root-names-count before))

names_more : (lent : Lent) (before : List BookLine) (line : BookLine) → Kept lent before
    → T (book_follows before line) → names_of before ++ names_in line ≡ names_of (before ++ (line ∷ []))
unfolding names_of names_in book_follows node_line_in root_in children_of
names_more lent before (H half states phones classes nodes) k f = rw (nodes-more, root-names-more) (simp append-nil)
names_more lent before (Q class phone) k f = rw (nodes-more, root-names-more) (simp append-nil)
names_more lent before (N node class position yes_node no_node) k f =
    rw (
      nodes-more,
      root-names-more,
      no-root-yet lent before k (ltb→lt _ _ f),
      concat_map-snoc children_of (nodes_of before) (question (asks class position) yes_node no_node),
    ) (simp append-nil)
names_more lent before (L node model) k f =
    rw (nodes-more, root-names-more, concat_map-snoc children_of (nodes_of before) (leaf model)) (simp append-nil)
names_more lent before (B boundary plain) k f = rw (nodes-more, root-names-more) (simp append-nil)
names_more lent before (R phone state root) k f = rw (nodes-more, root-names-more) (simp (append-nil, append_assoc))

few-more : (line : BookLine) → length (names_in line) ≤ 2
unfolding names_in
few-more (H half states phones classes nodes) = omega arith
few-more (Q class phone) = omega arith
few-more (N node class position yes_node no_node) = omega arith
few-more (L node model) = omega arith
few-more (B boundary plain) = omega arith
few-more (R phone state root) = omega arith

pub counts-stored : (lent : Lent) (before : List BookLine) (line : BookLine) → Kept lent before
    → Fits lent before line
    → counts_after line (counts_stored before) ≡ counts_stored (before ++ (line ∷ []))
unfolding counts_after counts_stored
counts-stored lent before line k f =
    counts-named 4096 (names_of before) (names_in line) (omega (arith, few-names lent before k, few-more line))
    ∙ ap (counts_of 4096) (names_more lent before line k f.follows)

-- ---- before the first line, and the lengths

pub record NothingStored (lent : Lent) : Type 0 where
  pub nodes : nodes_stored lent [] ≡ cleared lent.nodes
  pub classes : classes_stored lent [] ≡ cleared lent.classes
  pub roots : roots_stored lent [] ≡ cleared lent.roots
  pub plains : plains_stored lent [] ≡ cleared lent.plains
  pub counts : counts_stored [] ≡ replicate 4096 0

pub stored-none : (lent : Lent) → NothingStored lent
unfolding nodes_stored classes_stored counts_stored names_of header_of concat_map root_count
stored-none lent = record {
  nodes = rw none-says.nodes-said (padded-zeros lent.nodes 0 (omega arith));
  classes = rw (none-says.members-said, no-members 0) (padded-zeros lent.classes 0 (omega arith));
  roots = no-roots-stored lent [] none-says.roots-said ∙ padded-zeros lent.roots 0 (omega arith);
  plains = no-plains-stored lent [] none-says.boundaries-said (kept-none lent).wide;
  counts = rw (none-says.nodes-said, none-says.roots-said) (counts-none 4096);
}

pub record StoredLengths (lent : Lent) (before : List BookLine) : Type 0 where
  pub nodes : length (nodes_stored lent before) ≡ lent.nodes
  pub classes : length (classes_stored lent before) ≡ lent.classes
  pub roots : length (roots_stored lent before) ≡ lent.roots
  pub plains : length (plains_stored lent before) ≡ lent.plains
  pub counts : length (counts_stored before) ≡ 4096

pub stored-lengths : (lent : Lent) (before : List BookLine) → Kept lent before → StoredLengths lent before
unfolding nodes_stored classes_stored roots_stored plains_stored counts_stored class_sets
stored-lengths lent before k =
    let room = roomy lent (header_of before) k.wide in
    let words = flat-length node_words node_size node-sized (nodes_of before) in
    let classes : ℕ = (header_of before).classes in
    let sets = map-up_from-length (λ class. set_of (phones_of_class class (members_of before))) 1 classes in
    record {
      nodes = padded-length lent.nodes (concat_map node_words (nodes_of before))
          (omega (arith, room.nodes, words, k.nodes));
      classes = padded-length lent.classes (class_sets classes (members_of before))
          (omega (arith, room.classes, sets));
      roots = padded-length lent.roots (root_words (header_of before) (roots_of before))
          (omega (arith, room.roots, root-words-length (header_of before) (roots_of before)));
      plains = padded-length lent.plains (plain_words (header_of before) (boundaries_of before))
          (omega (arith, room.plains, plain-words-length (header_of before) (boundaries_of before)));
      counts = counts-length 4096 (names_of before);
    }
