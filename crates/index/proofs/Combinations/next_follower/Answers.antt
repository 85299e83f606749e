-- `next_follower` meets its contract. The loop's invariant: none before the next to try follows.
use mathlib.Core.Path.{◌≡◌, sym, ◌∙◌}
use Prim.Native.Nat.{ℕ}
use mathlib.Core.List.{List}
use Rattle.definitions.specs.declared.Header.{Header}
use Rattle.index.specs.RecordWords.{count_in}
use native.Mathlib.Omega.{arith}
use lib.ListN.{length}
use Rattle.index.specs.Combinations.{combinations_in}
use Rattle.index.specs.Laws.RecordWords.{combinations-length}
use Rattle.index.specs.Laws.Rows.{admitting-near, ahead-marked, ahead-listed, ahead-found, ahead-more, ahead-none}
use Rattle.index.proofs.Combinations.next_follower.Goals as goal

-- the count is that of the combinations
counted : (header : Header) (combinations : List ℕ) {count : ℕ}
    → count ≡ count_in header.half combinations
    → count ≡ length (combinations_in header combinations)
counted header combinations e = e ∙ sym (combinations-length header combinations)

pub next_marked-next-requires : goal.next_marked-next-requires
next_marked-next-requires c =
    let few = counted c.args.self.header c.args.self.words.now c.count_of-count.ensures in
    record {
      near = admitting-near c.requires.admitting;
      within = omega (arith, few, c.requires.within);
      few = omega (arith, few, c.requires.seeking.usable.few);
    }

pub loop-next-init : goal.loop-next-init
loop-next-init c =
    ahead-marked c.requires.admitting (counted c.args.self.header c.args.self.words.now c.count_of-count.ensures)
    c.next_marked-next.ensures

pub is_follower-requires : goal.is_follower-requires
is_follower-requires c =
    let s = c.requires.seeking in
    record { usable = s.usable; shaped = s.shaped; listed = ahead-listed c.in-Some.is c.loop-next.invariant }

pub returns-then-is_follower : goal.returns-then-is_follower
returns-then-is_follower c =
    ahead-found c.in-Some.is c.loop-next.invariant (sym c.is_follower.ensures ∙ c.if-is_follower.true)

pub after-requires : goal.after-requires
after-requires c =
    record {
      seeking = c.requires.seeking;
      listed = ahead-listed c.in-Some.is c.loop-next.invariant;
      fails = sym c.is_follower.ensures ∙ c.if-is_follower.false;
    }

pub next_marked-next-requires-in-Some : goal.next_marked-next-requires-in-Some
next_marked-next-requires-in-Some c =
    let few = counted c.args.self.header c.args.self.words.now c.count_of-count.ensures in
    record {
      near = admitting-near c.requires.admitting;
      within = omega (arith, few, c.after.ensures.1.within);
      few = omega (arith, few, c.requires.seeking.usable.few);
    }

pub loop-next-preserved : goal.loop-next-preserved
loop-next-preserved c =
    ahead-more c.in-Some.is c.loop-next.invariant c.after.ensures
    (ahead-marked c.requires.admitting (counted c.args.self.header c.args.self.words.now c.count_of-count.ensures)
    c.next_marked-next-in-Some.ensures)

pub returns : goal.returns
returns c = ahead-none c.in_default.is c.loop-next.invariant
