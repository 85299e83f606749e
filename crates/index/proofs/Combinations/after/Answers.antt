-- `after` meets its contract: where the centre lacks the phone, so it does up to the next phone
-- that it has.
use mathlib.Core.Path.{sym, ap, subst, ◌∙◌}
use Prim.Native.Nat.{ℕ, ◌+◌, ◌-◌, ◌≤◌, ◌<◌}
use native.Mathlib.Omega.{arith}
use Rattle.definitions.specs.Lists.{◌!◌}
use Rattle.matrix.specs.Shapes.{matrix_in}
use Rattle.index.specs.Combinations.{combinations_in}
use Rattle.index.specs.Following.{Beyond}
use Rattle.index.specs.Laws.RecordWords.{combinations-length, has-phone}
use Rattle.index.specs.Laws.Followers.{narrow, beyond-one, beyond-all, beyond-phones}
use Rattle.index.proofs.Combinations.after.Goals as goal
use Rattle.index.proofs.Combinations.after.Goals.{After-phone_of-phone, In_default, in_default-via-in-Some+else-next-header, in_default-via-in_default}
use Rattle.index.specs.Indexing.{NextMember}
use Rattle.definitions.proofs.Laws.Books.AcceptedKnown.{header-ranges}
use lib.ListN.{length}

phone-few : (c : goal.After-phone_of-phone) → c.phone_of-phone.result ≤ 64
phone-few c =
    let failed = c.requires in
    omega (arith, c.phone_of-phone.ensures, (has-phone _ _ failed.seeking.usable _ failed.listed).few)

pub bounds-shifted-wide : goal.bounds-shifted-wide
bounds-shifted-wide c =
    omega (arith, c.wide.ensures, narrow c.requires.seeking.usable)

pub phone_of-phone-requires : goal.phone_of-phone-requires
phone_of-phone-requires c =
    let failed = c.requires in
    has-phone _ _ failed.seeking.usable _ failed.listed

pub overflow_add-result : goal.overflow_add-result
overflow_add-result c =
    let failed = c.requires in
    omega (arith, failed.listed, failed.seeking.usable.few)

pub returns-then-has_phone : goal.returns-then-has_phone
returns-then-has_phone c =
    let failed = c.requires in
    let s = failed.seeking in
    beyond-one s.usable s.shaped failed.listed failed.fails

pub overflow_add-phone : goal.overflow_add-phone
overflow_add-phone c = omega (arith, phone-few (goal.at.overflow_add-phone c).After-phone_of-phone)

pub next_member-requires : goal.next_member-requires
next_member-requires c = (omega arith, omega (arith, phone-few (goal.at.next_member-requires c).After-phone_of-phone))

-- none of the phones after it
none_left : (c : goal.In_default) → (next : ℕ)
    → NextMember (c.args.shifted.columns ! c.wide.result) (c.phone_of-phone.result + 1) next → c.args.self.header.phones < next
    → Beyond (matrix_in c.args.self.header.half c.args.shifted.columns) (combinations_in c.args.self.header c.args.self.words.now)
    c.args.number (length (combinations_in c.args.self.header c.args.self.words.now))
none_left c next n last =
    let s = c.requires.seeking in
    beyond-all s.usable s.shaped s.indexed c.requires.listed c.phone_of-phone.ensures c.wide.ensures
    (sym c.has_phone.ensures ∙ c.if-has_phone.false) n last

pub returns-in_default : goal.returns-in_default
returns-in_default c =
    let a = c.args in
    let few = (header-ranges a.self.header c.requires.seeking.usable.header-known).phones_range.high in
    subst (λ (n : ℕ).
    Beyond (matrix_in a.self.header.half a.shifted.columns) (combinations_in a.self.header a.self.words.now) a.number n)
    (combinations-length a.self.header a.self.words.now ∙ sym c.count_of.ensures)
    (elim c.in_default.branch [
      | in_default-via-in-Some+else-next-header w ↦
          none_left (goal.at.returns-in_default c).In_default _ w.in-Some.ensures.next w.if-next-header.false
      | in_default-via-in_default w ↦
          none_left (goal.at.returns-in_default c).In_default _ w.in_default.ensures.next (omega (arith, few))
    ])

pub overflow_sub-result : goal.overflow_sub-result
overflow_sub-result c = omega (arith, c.wide-in-Some.ensures, c.in-Some.ensures.next.after)

pub bounds-self-wide : goal.bounds-self-wide
bounds-self-wide c =
    omega (
      arith,
      c.wide-in-Some.ensures,
      c.in-Some.ensures.next.within,
      c.in-Some.ensures.next.after,
      c.requires.seeking.indexed.sized,
    )

pub returns-in-Some : goal.returns-in-Some
returns-in-Some c =
    let s = c.requires.seeking in
    beyond-phones s.usable s.shaped s.indexed c.requires.listed c.phone_of-phone.ensures
    c.wide.ensures (sym c.has_phone.ensures ∙ c.if-has_phone.false)
    c.in-Some.ensures.next c.if-next-header.true
    (ap (λ (k : ℕ). c.args.self.index.now ! (k - 1)) c.wide-in-Some.ensures)
