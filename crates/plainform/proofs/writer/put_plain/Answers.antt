-- `writer::put_plain` meets its contract: the sets that were collected and the trees numbered by them are the plain
-- form, so its lines are those that are written.
use mathlib.Core.Path.{◌≡◌, refl, sym, ap₂}
use Prim.Native.Nat.{◌*◌, ◌≤◌}
use native.Mathlib.Omega.{arith}
use lib.Seq.{length-take-le}
use lib.ListN.{length, take}
use Rattle.definitions.specs.Forms.{most_nodes}
use Rattle.definitions.specs.Tables.{Tables}
use Rattle.tables.specs.Lending.{lent_tables}
use Rattle.plainform.specs.Laws.Writing.{LentBook, root_room, roots-listed, uses-fit, roots-fit, plains-fit}
use Rattle.plainform.specs.Laws.Writing.{used-few, used-many, trees-numberable, plain-written}
use Rattle.plainform.specs.Laws.Writing.{own_room, roots-lent, roots-narrow, own-lent, own_put}
use Rattle.plainform.proofs.writer.put_plain.Goals as goal
use Rattle.plainform.proofs.writer.put_plain.Goals.{After-collect_all-used, After-number_all, After-wide}

abbrev tables : goal.After-wide → Tables
tables c = let a = c.args in lent_tables a.nodes.now a.classes.now a.roots.now a.plains.now

-- how many roots there are
roots-many : (c : goal.After-wide)
    → c.wide-phones.result * c.wide.result
    ≡ c.args.header.phones * c.args.header.states
roots-many c = ap₂ ◌*◌ c.wide-phones.ensures c.wide.ensures

-- the tables cut to what the header says
record Cut (c : goal.After-wide) : Type 0 where
  classes : c.wide-held.result ≤ length c.args.classes.now
  roots : c.wide-phones.result * c.wide.result ≤ length c.args.roots.now
  plains : c.wide-phones.result ≤ length c.args.plains.now
  lent :
      LentBook c.args.header c.args.nodes.now
      (take c.wide-held.result c.args.classes.now)
      (take (c.wide-phones.result * c.wide.result) c.args.roots.now)
      (take c.wide-phones.result c.args.plains.now)

cut : (c : goal.After-wide) → Cut c
cut c =
    let header = c.args.header in
    record {
      classes = omega (arith, (own_room header (tables c) c.requires).classes, c.wide-held.ensures);
      roots = omega (arith, roots-many c, roots-lent header (tables c) c.requires);
      plains = omega (arith, (own_room header (tables c) c.requires).plains, c.wide-phones.ensures);
      lent = own-lent header (tables c) c.requires c.wide-held.ensures (roots-many c) c.wide-phones.ensures;
    }

pub slice_bounds-kept-end : goal.slice_bounds-kept-end
slice_bounds-kept-end c = sym (length-take-le _ _ (cut (goal.at.slice_bounds-kept-end c).After-wide).classes)

pub slice_bounds-given-end : goal.slice_bounds-given-end
slice_bounds-given-end c = sym (length-take-le _ _ (cut (goal.at.slice_bounds-given-end c).After-wide).roots)

pub invariant_of-trees : goal.invariant_of-trees
invariant_of-trees c = record { known = (cut (goal.at.invariant_of-trees c).After-wide).lent.known }

pub collect_all-used-requires : goal.collect_all-used-requires
collect_all-used-requires c =
    let lent = (cut (goal.at.collect_all-used-requires c).After-wide).lent in
    (roots-listed lent, uses-fit lent)

record Many (c : goal.After-collect_all-used) : Type 0 where
  few : c.collect_all-used.result ≤ most_nodes
  taken : length (take c.collect_all-used.result c.collect_all-used.new.sets) ≡ c.collect_all-used.result
  sized : length c.collect_all-used.new.sets ≡ most_nodes

many : (c : goal.After-collect_all-used)
    → LentBook c.args.header c.args.nodes.now
    (take c.wide-held.result c.args.classes.now)
    (take (c.wide-phones.result * c.wide.result) c.args.roots.now)
    (take c.wide-phones.result c.args.plains.now)
    → Many c
many c lent =
    record {
      few = used-few lent refl c.collect_all-used.ensures;
      taken = used-many lent refl c.collect_all-used.ensures;
      sized = c.collect_all-used.ensures.sized;
    }

pub slice_bounds-sets-end : goal.slice_bounds-sets-end
slice_bounds-sets-end c = let m = many (goal.at.slice_bounds-sets-end c).After-collect_all-used (cut (goal.at.slice_bounds-sets-end c).After-wide).lent in omega (arith, m.few, m.sized)

pub slice_bounds-own-end : goal.slice_bounds-own-end
slice_bounds-own-end c = sym (many (goal.at.slice_bounds-own-end c).After-collect_all-used (cut (goal.at.slice_bounds-own-end c).After-wide).lent).taken

pub number_all-requires : goal.number_all-requires
number_all-requires c =
    let lent = (cut (goal.at.number_all-requires c).After-wide).lent in (
      roots-listed lent,
      trees-numberable lent refl c.collect_all-used.ensures refl,
      roots-fit lent,
    )

-- the roots that were put
record Roots (c : goal.After-number_all) : Type 0 where
  sized : length c.number_all.new.starts ≡ root_room
  few :
      c.wide-phones.result * c.wide.result
      ≤ length c.number_all.new.starts

roots-put : (c : goal.After-number_all) → Roots c
roots-put c =
    let a = c.args in
    let many = ap₂ ◌*◌ c.wide-phones.ensures c.wide.ensures in
    let narrow = roots-narrow a.header (lent_tables a.nodes.now a.classes.now a.roots.now a.plains.now) c.requires in
    let all = c.number_all.auto.starts in
    record { sized = all; few = omega (arith, all, many, narrow) }

pub overflow_cast-plain : goal.overflow_cast-plain
overflow_cast-plain c = omega (arith, (many (goal.at.overflow_cast-plain c).After-collect_all-used (cut (goal.at.overflow_cast-plain c).After-wide).lent).few)

pub slice_bounds-starts-end : goal.slice_bounds-starts-end
slice_bounds-starts-end c = (roots-put (goal.at.slice_bounds-starts-end c).After-number_all).few

pub slice_bounds-put_book-end-2 : goal.slice_bounds-put_book-end-2
slice_bounds-put_book-end-2 c = sym (length-take-le _ _ (roots-put (goal.at.slice_bounds-put_book-end-2 c).After-number_all).few)

pub slice_bounds-put_book-end-3 : goal.slice_bounds-put_book-end-3
slice_bounds-put_book-end-3 c =
    sym (length-take-le _ _ (cut (goal.at.slice_bounds-put_book-end-3 c).After-wide).plains)

pub put_book-requires : goal.put_book-requires
put_book-requires c =
    let starts = c.number_all.new.starts in
    let m = many (goal.at.put_book-requires c).After-collect_all-used (cut (goal.at.put_book-requires c).After-wide).lent in
    let r = roots-put (goal.at.put_book-requires c).After-number_all in (
      (cut (goal.at.put_book-requires c).After-wide).lent.stated.in-range.states_range.low,
      omega (arith, m.few, m.taken),
      omega (arith, r.sized, r.few, length-take-le (c.wide-phones.result * c.wide.result) starts r.few),
      plains-fit (cut (goal.at.put_book-requires c).After-wide).lent,
    )

pub returns : goal.returns
returns c =
    let same =
    plain-written (cut (goal.at.returns c).After-wide).lent refl c.collect_all-used.ensures _ _ _
    (sym (length-take-le _ _ (cut (goal.at.returns c).After-wide).roots)) c.number_all.ensures.table c.number_all.ensures.starts in
    own_put c.args.header (tables (goal.at.returns c).After-wide) c.requires c.wide-held.ensures (roots-many (goal.at.returns c).After-wide)
    c.wide-phones.ensures same c.put_book.ensures
