-- `following::follow` meets its contract. The loop's invariant: the followers before the next were entered.
use Rattle.std.proofs.Common.{rules, arith, ◌≡◌, ℕ, ◌+◌, ◌*◌}
use Rattle.std.proofs.lemmas.Result.{err_from_is_err_and}
use Rattle.definitions.specs.Matrices.{meet}
use Rattle.definitions.specs.Metastates.{numbered}
use Rattle.matrix.specs.Shapes.{width_of, matrix_in}
use Rattle.index.specs.Combinations.{combinations_in}
use Rattle.index.specs.Laws.RecordWords.{is-listed}
use Rattle.index.specs.Laws.Followers.{follower-matrix, follower-width}
use Rattle.followers.specs.Laws.Following.{seeks, followed-start, followed-underway, followed-listed, followed-follows}
use Rattle.followers.specs.Laws.Following.{followed-end, followed-stop, followed-next}
use Rattle.followers.proofs.following.follow.Goals as goal
use Rattle.followers.proofs.following.follow.Goals.{After-meet}

pub rows_for-rows-requires : goal.rows_for-rows-requires
rows_for-rows-requires c = seeks c.requires

pub next_follower-next-requires : goal.next_follower-next-requires
next_follower-next-requires c =
    record { seeking = seeks c.requires; within = search rules; admitting = c.rows_for-rows.ensures }

pub loop-next-init : goal.loop-next-init
loop-next-init c = followed-start _ _ c.requires.underway c.next_follower-next.ensures

pub matrix_of-own-requires : goal.matrix_of-own-requires
matrix_of-own-requires c =
    is-listed _ _ c.requires.searchable.connectable.usable _ (followed-listed c.loop-next.invariant c.in-Some.is)

-- what is met, and the matrix that is entered
width : {half wide : ℕ} → wide ≡ half → 2 * wide + 1 ≡ width_of half
width e = omega (arith, e)

matrix : (c : goal.After-meet)
    → matrix_in c.args.search.rules.header.half c.meet.result.matrix.columns
    ≡ meet (matrix_in c.args.search.rules.header.half c.args.shifted.columns)
    (numbered (combinations_in c.args.search.rules.header c.args.search.rules.combinations.now)
    c.in-Some.number).carried
matrix c =
    let s = c.requires in
    let listed = followed-listed c.loop-next.invariant c.in-Some.is in
    follower-matrix s.searchable.connectable.usable s.shaped listed c.matrix_of-own.ensures
    (followed-follows c.loop-next.invariant c.in-Some.is) (width c.wide.ensures) c.meet.ensures.matrix

pub enter-requires : goal.enter-requires
enter-requires c =
    let s = c.requires in
    let connectable = s.searchable.connectable in
    let listed = followed-listed c.loop-next.invariant c.in-Some.is in
    record {
      connectable = connectable;
      underway = followed-underway c.loop-next.invariant;
      listed = listed;
      shaped =
          follower-width connectable.usable s.shaped listed c.matrix_of-own.ensures
          (followed-follows c.loop-next.invariant c.in-Some.is) (width c.wide.ensures) c.meet.ensures.matrix;
    }

pub returns-in_err-now : goal.returns-in_err-now
returns-in_err-now c =
    let at = goal.at.returns-in_err-now c in
    let p = err_from_is_err_and c.from_residual.result c.from_residual.ensures.1 in
    rw (p.1, p.2)
    (followed-stop c.loop-next.invariant c.in-Some.is (matrix at.After-meet) c.enter.ensures
    c.in_err-now.was)

pub next_follower-next-requires-in-Some : goal.next_follower-next-requires-in-Some
next_follower-next-requires-in-Some c =
    record {
      seeking = seeks c.requires;
      within = omega (arith, followed-listed c.loop-next.invariant c.in-Some.is);
      admitting = c.rows_for-rows.ensures;
    }

pub loop-next-preserved : goal.loop-next-preserved
loop-next-preserved c =
    let at = goal.at.loop-next-preserved c in
    followed-next c.loop-next.invariant c.in-Some.is (matrix at.After-meet) c.enter.ensures
    c.in_ok-now.was c.next_follower-next-in-Some.ensures

pub returns : goal.returns
returns c = followed-end c.loop-next.invariant c.in_default.is
