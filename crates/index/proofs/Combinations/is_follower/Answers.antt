-- `is_follower` meets its contract: where the centre has the phone, the meet is tried.
use mathlib.Core.Path.{◌≡◌, sym, ◌∙◌}
use Prim.Native.Nat.{◌+◌, ◌*◌}
use native.Mathlib.Omega.{arith}
use Rattle.definitions.proofs.Laws.Lists.Tests.{failed}
use Rattle.matrix.specs.Shapes.{width_of}
use Rattle.index.specs.Laws.RecordWords.{is-listed, has-phone}
use Rattle.index.specs.Laws.Followers.{narrow, not-following, following-valid}
use Rattle.std.proofs.lemmas.Bool.{not_from_false}
use Rattle.index.proofs.Combinations.is_follower.Goals as goal

pub phone_of-requires : goal.phone_of-requires
phone_of-requires c =
    has-phone _ _ c.requires.usable _ c.requires.listed

pub returns-else-has_phone : goal.returns-else-has_phone
returns-else-has_phone c =
    let tried = c.requires in
    c.if-has_phone.false ∙ sym (not-following tried.usable tried.shaped tried.listed c.phone_of.ensures
    c.wide-n.ensures (failed c.has_phone.ensures (not_from_false _ c.if-has_phone.false)))

pub matrix_of-requires : goal.matrix_of-requires
matrix_of-requires c = let tried = c.requires in is-listed _ _ tried.usable _ tried.listed

pub returns-then-has_phone : goal.returns-then-has_phone
returns-then-has_phone c =
    let tried = c.requires in
    let wide = c.wide-n in
    let width : 2 * wide.result + 1 ≡ width_of c.args.self.header.half =
    omega (arith, wide.ensures) in
    following-valid tried.usable tried.shaped tried.listed c.matrix_of.ensures width
    c.meets.ensures

pub bounds-shifted-n : goal.bounds-shifted-n
bounds-shifted-n c =
    omega (arith, c.wide-n.ensures, narrow c.requires.usable)
