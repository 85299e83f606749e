-- Laws about writing the plain form: the sets that were collected and the trees numbered by them are the plain form of
-- the book that was lent, so the lines that are written are its lines, and the answer and the text are those that the
-- definition says.
use Rattle.std.specs.Prelude.{◌≡◌, true, false, not, ℕ, ◌*◌, ◌/◌, ◌≤◌, ◌<◌, T, ltb, eqb, Result, Ok, Err}
use Rattle.std.proofs.Math.Path.{sym, ap}
use Rattle.std.proofs.Common.{◌∙◌, subst, inl, inr, arith, lt→ltb, length-append, length-take-le}
use mathlib.Core.List.{List, [], ◌∷◌, map}
use Rattle.std.proofs.Math.Option.{Option}
use Rattle.std.proofs.Math.ListN.{length, take, length-map}
use borrow.Author.Tests.{le-leb, lt-leb}
use Rattle.definitions.specs.declared.Header.{Header}
use Rattle.definitions.specs.declared.Fault.TheVariants.{Foreign, Short}
use Rattle.definitions.specs.declared.Refusal.{Refusal}
use Rattle.definitions.specs.Forms.{most_nodes}
use Rattle.definitions.specs.Lists.{concat_map, sum_of, cleared, padded}
use Rattle.definitions.specs.Faults.{judge}
use Rattle.definitions.specs.Lines.{Line}
use Rattle.definitions.specs.BookLines.{root_count, no_root}
use Rattle.definitions.specs.BookReading.{Lent, node_size, wide_enough}
use Rattle.definitions.specs.Tables.{Contents, Tables, lent_of, node_words, node_records, tables_of, tables_contents}
use Rattle.definitions.specs.ForeignTables.{nodes_known, tables_known}
use Rattle.definitions.specs.BookText.{book_line_for, lines_of_book}
use Rattle.definitions.specs.PlainForm.{Tree, asking, giving, tree_for, trees_of, sets_in, sets_of, size_of, all_nodes}
use Rattle.definitions.specs.PlainForm.{roots_from}
use Rattle.definitions.specs.PlainForm.{numbered, plain_contents, header_for, plain_lines, plain_text, write_plain}
use Rattle.definitions.proofs.Laws.Lists.Tests.{T-or, by-test}
use Rattle.definitions.proofs.Laws.Lists.Selected.{in-select}
use Rattle.definitions.proofs.Laws.Lists.Lists.{padded-none, padded-take}
use Rattle.definitions.proofs.Laws.Lists.Members.{every_in}
use Rattle.definitions.proofs.Laws.Books.Books.{Roomy, roomy, roots_few}
use Rattle.definitions.proofs.Laws.Books.Tables.{tables-contents}
use Rattle.definitions.proofs.Laws.Books.KnownBooks.{Stated, known-stated, known-wide}
use Rattle.definitions.proofs.Spelling.PlainTrees.{sizes, all-size, roots-length}
use Rattle.definitions.proofs.Spelling.PlainStated.{stated-root, stated-size, plain-nodes, plain-stated, plain-wide}
use Rattle.lines.specs.Putting.{put_at}
use Rattle.lines.specs.Laws.Putting.{put-after}
use Rattle.tables.specs.Usable.{tree_nodes}
use Rattle.tables.specs.Laws.KnownTables.{known-records}
use Rattle.writing.specs.Answers.{TextLeft}
use Rattle.writing.specs.Laws.Answering.{refused-left, answered-left}
use Rattle.booktext.specs.Parts.{contents_with, book_lines}
use Rattle.booktext.specs.Putting.{Put}
use Rattle.booktext.specs.Laws.Texts.{text-counted, text-put}
use Rattle.plainform.specs.LentTrees.{trees_in, there_in, Listed}
use Rattle.plainform.specs.Collecting.{Collected}
use Rattle.plainform.specs.Numbering.{all_words, Numberable}

-- words put at the front of a cleared table
put_first : (size : ℕ) (words : List ℕ) → put_at 0 words (cleared size) ≡ padded size words
put_first size words = rw (padded-none size) (put-after size [] words)

-- a tree asks for no more sets than it has nodes
sets-few : (t : Tree) → length (sets_in t) ≤ size_of t
unfolding sets_in size_of
sets-few (asking asked on_yes on_no) =
    omega (arith, length-append (sets_in on_yes) (sets_in on_no), sets-few on_yes, sets-few on_no)
sets-few (giving model) = omega arith

uses-few : (trees : List Tree) → length (concat_map sets_in trees) ≤ sizes trees
unfolding concat_map sum_of
uses-few [] = omega arith
uses-few (t ∷ trees) =
    omega (arith, length-append (sets_in t) (concat_map sets_in trees), sets-few t, uses-few trees)

-- ---- a book that is lent

-- the lengths of the tables that the code has for the plain form
abbrev pub node_room : ℕ
node_room = node_size * most_nodes

abbrev pub root_room : ℕ
root_room = 192

abbrev room : Lent
room = record { nodes = node_room; classes = most_nodes; roots = root_room; plains = 64 }

-- known records, and a book that lines can state, with all of these classes, roots and plain phones
pub record LentBook (header : Header) (nodes classes roots plains : List ℕ) : Type 0 where
  pub known : T (nodes_known header 0 (node_records header nodes))
  pub stated : Stated header (contents_with header nodes classes roots plains)

module _ {header : Header} {nodes classes roots plains : List ℕ}
    (lent : LentBook header nodes classes roots plains) where
  abbrev contents : Contents
  contents = contents_with header nodes classes roots plains

  abbrev trees : List (Option Tree)
  trees = trees_in header nodes classes roots

  abbrev there : List Tree
  there = there_in header nodes classes roots

  s : Stated header contents
  s = lent.stated

  pub roots-listed : Listed header roots
  roots-listed =
      record {
        each = every_in _ roots (λ root i. (T-or (eqb root no_root) (ltb root header.nodes)).1
            (by-test (eqb root no_root) (λ e. inl (rw e tt))
            (λ e.
            let given = in-select (λ root. not (eqb root no_root)) root roots i (rw e tt) in
            inr (lt→ltb root header.nodes
            (omega (arith, stated-root header contents s root given, s.heads.nodes))))));
      }

  -- how much is put down: nodes, uses of sets, roots and plain phones
  nodes-are : sizes there ≡ header.nodes
  unfolding trees_of
  nodes-are = stated-size header contents s

  nodes-fit : sizes there ≤ most_nodes
  nodes-fit = omega (arith, nodes-are, s.in-range.nodes_range.high)

  pub uses-fit : length (concat_map sets_in there) ≤ most_nodes
  uses-fit = omega (arith, uses-few there, nodes-fit)

  pub roots-fit : length roots ≤ root_room
  roots-fit = omega (arith, roots_few header s.in-range, s.heads.roots)

  pub plains-fit : length plains ≤ most_nodes
  plains-fit = omega (arith, s.in-range.phones_range.high, s.heads.plains)

  -- the sets that were collected
  module _ {before sets : List ℕ} {used : ℕ} (sized : length before ≡ most_nodes)
      (c : Collected before 0 (concat_map sets_in there) used sets) where
    pub used-few : used ≤ most_nodes
    used-few = omega (arith, c.few, uses-fit)

    pub used-many : length (take used sets) ≡ used
    used-many = length-take-le used sets (omega (arith, c.sized, used-few))

    used-sets : take used sets ≡ sets_of there
    unfolding sets_of
    used-sets = c.holds

    pub trees-numberable : {table : List ℕ} → length table ≡ node_room
        → Numberable (take used sets) 0 (length (all_nodes (take used sets) 0 there)) table
    trees-numberable e =
        let many = all-size (take used sets) 0 there in
        record {
          few_sets = omega (arith, used-many, used-few);
          few_nodes = omega (arith, many, nodes-fit);
          room = omega (arith, many, nodes-fit);
        }

    -- and the trees numbered by them: what is written then
    abbrev plain : Header
    plain =
        record {
          half = header.half;
          states = header.states;
          phones = header.phones;
          classes = used;
          nodes = header.nodes;
        }

    plain-header : plain ≡ header_for (plain_contents contents)
    unfolding header_for plain_contents numbered trees_of
    plain-header =
        let count : used ≡ length (sets_of there) = sym used-many ∙ ap length used-sets in
        let many : header.nodes ≡ (header_for (plain_contents contents)).nodes =
        sym (plain-nodes header contents s) in
        λ i. record {
          half = header.half;
          states = header.states;
          phones = header.phones;
          classes = count i;
          nodes = many i;
        }

    pub plain-written : (table starts : List ℕ) (count : ℕ) → count ≡ length roots
        → table ≡ put_at 0 (all_words (take used sets) 0 there) (cleared node_room)
        → starts ≡ put_at 0 (roots_from 0 trees) (cleared root_room)
        → book_lines plain table (take used sets) (take count starts) plains ≡ map book_line_for (plain_lines contents)
    unfolding plain_lines plain_contents numbered header_for trees_of tables_contents tables_of
    plain-written table starts count own-count t r =
        let new : Contents = plain_contents contents in
        let stated = plain-stated header contents s in
        let table_is : table ≡ padded node_room (concat_map node_words new.nodes) =
        t ∙ put_first node_room (all_words (take used sets) 0 there)
        ∙ ap (λ (l : List ℕ). padded node_room (all_words l 0 there)) used-sets in
        let many : count ≡ length (roots_from 0 trees) =
        own-count ∙ sym (roots-length 0 trees ∙ length-map roots (tree_for (tree_nodes header nodes) classes)) in
        let roots-there : take count starts ≡ new.roots =
        rw (r, put_first root_room (roots_from 0 trees)) (padded-take root_room count (roots_from 0 trees) many) in
        let nodes-there : tree_nodes (header_for new) table ≡ new.nodes =
        rw table_is (ap (λ (c : Contents). c.nodes) (tables-contents (header_for new) room new stated.heads)) in
        ap (λ (h : Header). book_lines h table (take used sets) (take count starts) plains) plain-header
        ∙ ap (λ (c : Contents). map book_line_for (lines_of_book (header_for new) c))
        (λ i. record {
          half = header.half;
          states = header.states;
          phones = header.phones;
          nodes = nodes-there i;
          classes = used-sets i;
          roots = roots-there i;
          plains = plains;
        })

-- ---- known tables

module _ (header : Header) (tables : Tables) (known : tables_known header tables ≡ true) where
  abbrev own : Contents
  own = tables_contents header tables

  held : T (tables_known header tables)
  held = rw known tt

  own-stated : Stated header own
  own-stated = known-stated header tables held

  -- how much of the lent tables it is
  pub own_room : Roomy (lent_of tables) header
  own_room = roomy (lent_of tables) header (known-wide header tables held)

  pub roots-lent : header.phones * header.states ≤ length tables.roots
  unfolding root_count
  roots-lent = own_room.roots

  pub roots-narrow : header.phones * header.states ≤ root_room
  unfolding root_count
  roots-narrow = roots_few header own-stated.in-range

  module _ {classes roots phones : ℕ} (c : classes ≡ header.classes) (r : roots ≡ header.phones * header.states)
      (p : phones ≡ header.phones) where
    -- what is lent on: the tables cut to what the header says
    abbrev cut : Contents
    cut =
        contents_with header tables.nodes (take classes tables.classes) (take roots tables.roots)
        (take phones tables.plains)

    own-cut : cut ≡ own
    unfolding tables_contents root_count
    own-cut = rw (c, r, p)

    pub own-lent : LentBook header tables.nodes (take classes tables.classes) (take roots tables.roots)
        (take phones tables.plains)
    own-lent =
        record {
          known =
              known-records header tables.nodes tables.classes tables.roots tables.plains held;
          stated = subst (Stated header) (sym own-cut) own-stated;
        }

    -- so its lines are those that are put
    pub own_put : {lines : List Line} {text after : List ℕ} {count : ℕ} → lines ≡ map book_line_for (plain_lines cut)
        → Put lines text 0 after count → Put (map book_line_for (plain_lines own)) text 0 after count
    own_put {text = text} {after} {count} e put =
        subst (λ (l : List Line). Put l text 0 after count)
        (e ∙ ap (λ (b : Contents). map book_line_for (plain_lines b)) own-cut) put

  plain-header-stated : Stated (header_for (plain_contents own)) (plain_contents own)
  plain-header-stated = plain-stated header own own-stated

  plain_fits : T (wide_enough (lent_of tables) (header_for (plain_contents own)))
  plain_fits = plain-wide header own own-stated (lent_of tables) (known-wide header tables held)

  -- the lines that were put into a cleared text
  module _ (size : ℕ) {count : ℕ} {text after : List ℕ} (clear : text ≡ cleared size)
      (put : Put (map book_line_for (plain_lines own)) text 0 after count) where
    p : Put (map book_line_for (plain_lines own)) (cleared size) 0 after count
    p = subst (λ (t : List ℕ). Put (map book_line_for (plain_lines own)) t 0 after count) clear put

    plain-counted : length (plain_text own) ≡ 32 * count
    unfolding plain_text plain_lines
    plain-counted = text-counted (lent_of tables) _ _ plain-header-stated plain_fits size p

    plain-put : 32 * count ≤ size → after ≡ padded size (plain_text own)
    unfolding plain_text plain_lines
    plain-put = text-put (lent_of tables) _ _ plain-header-stated plain_fits size p

    -- ---- what writing answers and leaves

    pub write-short : {answer : Result ℕ Refusal} {cleared-again : List ℕ} → size / 32 < count → answer ≡ Err (record { fault = Short; line = 0 })
        → cleared-again ≡ cleared size → TextLeft (write_plain header tables size) size answer cleared-again
    unfolding write_plain judge
    write-short l =
        let long : size < length (plain_text own) = omega (arith, plain-counted) in
        refused-left size Short (rw (known, lt-leb (length (plain_text own)) size long))

    pub write_done : 32 * count ≤ size → TextLeft (write_plain header tables size) size (Ok (32 * count)) after
    unfolding write_plain judge
    write_done room =
        let fits : length (plain_text own) ≤ size = omega (arith, plain-counted) in
        answered-left size (rw (known, le-leb (length (plain_text own)) size fits)) (sym plain-counted)
        (plain-put room)

pub write-foreign : (header : Header) (tables : Tables) (size : ℕ) {answer : Result ℕ Refusal} {after : List ℕ}
    → tables_known header tables ≡ false → answer ≡ Err (record { fault = Foreign; line = 0 }) → after ≡ cleared size
    → TextLeft (write_plain header tables size) size answer after
unfolding write_plain judge
write-foreign header tables size k = refused-left size Foreign (rw k)
