-- The plain form of a book that lines can state is a book that lines can state, and fits the tables that the
-- book fits: it has as many nodes and roots, and no more classes. So it is accepted as the book was.
use Rattle.std.specs.Prelude.{◌≡◌, ◌&&◌, ℕ, ◌*◌, ◌≤◌, ◌<◌, T, length}
use Rattle.std.proofs.Math.Path.{refl, sym}
use Rattle.std.proofs.Common.{◌∙◌, subst, arith}
use Rattle.std.proofs.Math.Logic.{⊎_elim}
use mathlib.Core.List.{List, []}
use Rattle.std.proofs.Math.Bool.{Bool}
use Rattle.std.proofs.Math.Option.{Option}
use Rattle.std.proofs.Math.Dec.{leb, le→leb}
use Rattle.std.proofs.lemmas.List.{length-map}
use Rattle.definitions.specs.declared.Header.{Header}
use Rattle.definitions.specs.Faults.{answered}
use Rattle.definitions.specs.Lists.{concat_map, IsIn, Distinct}
use Rattle.definitions.specs.BookLines.{BookLine, header_of, root_count, no_root}
use Rattle.definitions.specs.BookReading.{Lent, node_size, wide_enough, read_book}
use Rattle.definitions.specs.Tables.{Contents, contents_of, tables_left}
use Rattle.definitions.specs.ForeignTables.{plain_known, plains_known}
use Rattle.definitions.specs.PlainForm.{Tree, tree_at, trees_of, sets_in, sets_of, trees_there, numbered}
use Rattle.definitions.specs.PlainForm.{plain_contents, header_for}
use Rattle.definitions.proofs.Laws.Lists.Tests.{T_and, T-three}
use Rattle.definitions.proofs.Laws.Lists.Fewer.{Distinct-few}
use Rattle.definitions.proofs.Laws.Lists.Members.{of_map, of-concat_map, in-every, every_in}
use Rattle.definitions.specs.Ranges.{InRange}
use Rattle.definitions.proofs.Laws.Books.Books.{roomy, accepted-contents}
use Rattle.definitions.proofs.Laws.Trees.Walks.{Forward}
use Rattle.definitions.proofs.Laws.Books.Accepted.{fitting-forward}
use Rattle.definitions.proofs.Laws.Books.Tables.{Heads}
use Rattle.definitions.proofs.Laws.Books.AcceptedKnown.{accepted-known}
use Rattle.definitions.proofs.Laws.Books.KnownBooks.{Stated, known-stated}
use Rattle.definitions.proofs.Spelling.FirstUses.{first-used, used-first, uses-Distinct}
use Rattle.definitions.proofs.Spelling.PlainTrees.{sizes, all-size, roots-length}
use Rattle.definitions.proofs.Spelling.PlainNames.{plain-named}
use Rattle.definitions.proofs.Spelling.TreeSizes.{trees-size}
use Rattle.definitions.proofs.Spelling.TreesThere.{given, there-given}
use Rattle.definitions.proofs.Spelling.TreeFits.{TreeFits, sets-listed, tree-fits, all-nodes-fit}
use Rattle.definitions.proofs.Spelling.PlainRoots.{given-listed, roots-again}

-- the lines of an accepted book state it
pub accepted-stated : (lent : Lent) (text : List ℕ) (lines : List BookLine)
    → read_book lent text ≡ answered lines → Stated (header_of lines) (contents_of lines)
accepted-stated lent text lines e =
    subst (Stated (header_of lines)) (accepted-contents lent text lines e)
    (known-stated (header_of lines) (tables_left lent (read_book lent text)) (accepted-known lent text lines e))

module _ (header : Header) (contents : Contents) (s : Stated header contents) where
  abbrev trees : List (Option Tree)
  trees = trees_of contents

  abbrev there : List Tree
  there = trees_there trees

  abbrev plain : Header
  plain = header_for (plain_contents contents)

  pub stated-forward : Forward contents.nodes
  stated-forward = fitting-forward header contents.nodes s.nodes s.heads.nodes

  pub stated-root : (root : ℕ) → IsIn root (given contents.roots) → root < length contents.nodes
  stated-root root i =
      let listed = given-listed header contents.plains contents.roots s.in-range.states_range.low
      s.heads.roots s.roots root i in
      omega (arith, listed, s.heads.nodes)

  trees-fit : (t : Tree) → IsIn t there → TreeFits header.half contents.classes t
  unfolding trees_of
  trees-fit t i =
      let (root, listed, e) = of_map (tree_at contents.nodes contents.classes) t (given contents.roots)
      (subst (IsIn t) (there-given contents.nodes contents.classes contents.roots) i) in
      rw e (tree-fits header contents.nodes contents.classes s.nodes stated-forward s.heads.classes
      (length contents.nodes) root (stated-root root listed) (omega arith))

  -- ---- its classes

  pub used-listed : (set : ℕ) → IsIn set (sets_of there) → IsIn set contents.classes
  unfolding sets_of
  used-listed set i = ⊎_elim (λ j. absurd j) of_tree (first-used [] (concat_map sets_in there) set i)
    where
      of_tree : IsIn set (concat_map sets_in there) → IsIn set contents.classes
      of_tree j =
          let (t, k, u) = of-concat_map sets_in set there j in
          sets-listed header.half contents.classes t (trees-fit t k) set u

  pub used-once : Distinct (sets_of there)
  unfolding sets_of
  used-once = uses-Distinct [] (concat_map sets_in there) tt

  pub classes-few : length (sets_of there) ≤ header.classes
  classes-few =
      omega (arith, Distinct-few (sets_of there) contents.classes used-once used-listed, s.heads.classes)

  -- ---- its nodes and roots

  pub stated-size : sizes there ≡ header.nodes
  unfolding trees_of
  stated-size =
      trees-size contents.nodes contents.classes stated-forward contents.roots
      (omega (arith, s.in-range.nodes_range.high, s.heads.nodes)) stated-root s.named-once
      ∙ sym s.heads.nodes

  -- so no node has the number that is no root
  pub stated-few : sizes there ≤ no_root
  stated-few = omega (arith, stated-size, s.in-range.nodes_range.high)

  pub plain-nodes : plain.nodes ≡ header.nodes
  unfolding plain_contents numbered header_for
  plain-nodes = all-size (sets_of there) 0 there ∙ stated-size

  pub plain-roots : root_count plain ≡ root_count header
  unfolding plain_contents numbered header_for root_count
  plain-roots = rw (s.heads.phones, s.heads.states)

  -- ---- its header

  plain-ranges : InRange plain
  unfolding plain_contents numbered header_for
  plain-ranges =
      let r = s.in-range in
      record {
        half_range = rw (← s.heads.half) r.half_range;
        states_range = rw (← s.heads.states) r.states_range;
        phones_range = rw (← s.heads.phones) r.phones_range;
        classes_range = record { low = omega arith; high = omega (arith, classes-few, r.classes_range.high) };
        nodes_range = rw plain-nodes r.nodes_range;
      }

  plain-heads : Heads plain (plain_contents contents)
  unfolding plain_contents numbered header_for trees_of
  plain-heads =
      record {
        half = refl;
        states = refl;
        phones = refl;
        nodes = refl;
        classes = refl;
        roots =
            plain-roots ∙ s.heads.roots ∙ sym (length-map contents.roots _)
            ∙ sym (roots-length 0 trees);
        plains = sym s.heads.phones ∙ s.heads.plains;
      }

  pub plain-stated : Stated plain (plain_contents contents)
  unfolding plain_contents numbered header_for sets_of trees_of plains_known plain_known
  plain-stated =
      record {
        in-range = plain-ranges;
        heads = plain-heads;
        nodes =
            all-nodes-fit plain contents.classes (sets_of there) refl 0 there
            (λ t i. rw (← s.heads.half) (trees-fit t i))
            (used-first [] (concat_map sets_in there)) (omega (arith, stated-size, plain-nodes));
        sets =
            every_in _ (sets_of there) (λ set i.
            rw (← s.heads.phones) (in-every _ contents.classes s.sets set (used-listed set i)));
        plains = rw (← s.heads.phones) s.plains;
        roots =
            roots-again contents.nodes contents.classes header plain contents.plains contents.roots
            s.in-range.nodes_range.high plain-ranges.nodes_range.low
            (omega (arith, stated-size, plain-nodes)) (sym s.heads.states) (sym s.heads.phones) s.roots;
        named-once = plain-named (sets_of there) trees stated-few;
      }

  -- it is read into the same tables
  pub plain-wide : (lent : Lent) → T (wide_enough lent header) → T (wide_enough lent plain)
  unfolding wide_enough plain_contents numbered header_for
  plain-wide lent wide =
      let room = roomy lent header wide in
      let nodes : Bool = leb (node_size * plain.nodes) lent.nodes in
      let classes : Bool = leb plain.classes lent.classes in
      (T-three (nodes && classes) (leb (root_count plain) lent.roots) (leb plain.phones lent.plains)).1 (
        (T_and nodes classes).1 (
          le→leb (node_size * plain.nodes) lent.nodes (omega (arith, room.nodes, plain-nodes)),
          le→leb plain.classes lent.classes (omega (arith, room.classes, classes-few)),
        ),
        le→leb (root_count plain) lent.roots (omega (arith, room.roots, plain-roots)),
        le→leb plain.phones lent.plains (omega (arith, room.plains, s.heads.phones)),
      )
