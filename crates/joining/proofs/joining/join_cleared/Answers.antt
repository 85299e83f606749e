-- `joining::join_cleared` meets its contract, by the first test that fails.
use Rattle.std.proofs.Common.{◌≡◌, refl, sym, ap, ◌∙◌, true, arith, rules, length-take-le, Err}
use Rattle.std.proofs.lemmas.Result.{err_from_is_err_and}
use Rattle.definitions.specs.declared.Fault.TheVariants.{Foreign}
use Rattle.definitions.specs.declared.Refusal.{Refusal}
use Rattle.definitions.specs.Faults.{refuse}
use Rattle.definitions.specs.Joining.{join}
use Rattle.definitions.specs.NetworkText.{network_known}
use Rattle.definitions.specs.WordBooks.{words_known}
use Rattle.joining.specs.Answers.{space_of}
use Rattle.joining.specs.Laws.Lending.{arcs-held, words-held, refusal-held, refusal-answer, foreign-arcs}
use Rattle.joining.specs.Laws.Lending.{foreign-words, too_few, startable, join-held, join-answered, join-refused}
use Rattle.joining.proofs.joining.join_cleared.Goals as goal
use Rattle.joining.proofs.joining.join_cleared.Goals.{Else-state_room-lt2, then-not-network_known-via-then-not-network_known, then-not-network_known-via-else-not-network_known+then-not-words_known}

-- what they say
network : (c : goal.Else-state_room-lt2) → network_known c.args.counts c.args.arcs.now ≡ true
network c = sym c.if-not-network_known.ensures

book : (c : goal.Else-state_room-lt2) → words_known c.args.count c.args.words.now ≡ true
book c = sym c.if-not-words_known.ensures

pub returns-then-not-network_known : goal.returns-then-not-network_known
returns-then-not-network_known c =
    let a = c.args in
    let none : join a.counts a.arcs.now a.count a.words.now (space_of a.states.now a.joined.now) ≡ refuse Foreign 0 =
    elim c.then-not-network_known.branch [
      | then-not-network_known-via-then-not-network_known w ↦
          foreign-arcs a.counts a.arcs.now a.count a.words.now a.states.now a.joined.now
          (sym w.if-not-network_known.ensures)
      | then-not-network_known-via-else-not-network_known+then-not-words_known w ↦
          foreign-words a.counts a.arcs.now a.count a.words.now a.states.now a.joined.now
          (sym w.if-not-network_known.ensures) (sym w.if-not-words_known.ensures)
    ] in
    record {
      answer = ap (λ (r : Refusal). Err r) c.into.ensures
          ∙ refusal-answer a.counts a.arcs.now a.count a.words.now a.states.now a.joined.now none;
      left = refusal-held a.counts a.arcs.now a.count a.words.now a.states.now a.joined.now none refl refl;
    }

pub returns-then-state_room-lt2 : goal.returns-then-state_room-lt2
returns-then-state_room-lt2 c =
    let a = c.args in
    let crowded = too_few a.counts a.arcs.now a.count a.words.now a.states.now a.joined.now
    (sym c.if-not-network_known.ensures) (sym c.if-not-words_known.ensures)
    (omega (arith, c.if-state_room-lt2.true, c.state_room.ensures)) in
    record {
      answer = ap (λ (r : Refusal). Err r) c.into-then-state_room-lt2.ensures
          ∙ refusal-answer a.counts a.arcs.now a.count a.words.now a.states.now a.joined.now crowded;
      left = refusal-held a.counts a.arcs.now a.count a.words.now a.states.now a.joined.now crowded refl refl;
    }

pub overflow_mul-spelled : goal.overflow_mul-spelled
overflow_mul-spelled c =
    let held = words-held c.args.count c.args.words.now (book (goal.at.overflow_mul-spelled c).Else-state_room-lt2) in
    search rules

pub slice_bounds-join_known-end : goal.slice_bounds-join_known-end
slice_bounds-join_known-end c =
    let a = c.args in
    sym (length-take-le _ a.arcs.now
    (arcs-held a.counts a.arcs.now c.wide-used.ensures (network (goal.at.slice_bounds-join_known-end c).Else-state_room-lt2)))

pub slice_bounds-join_known-end-2 : goal.slice_bounds-join_known-end-2
slice_bounds-join_known-end-2 c =
    let a = c.args in
    sym (length-take-le _ a.words.now (words-held a.count a.words.now (book (goal.at.slice_bounds-join_known-end-2 c).Else-state_room-lt2)))

pub join_known-requires : goal.join_known-requires
join_known-requires c =
    let a = c.args in
    let at = (goal.at.join_known-requires c).Else-state_room-lt2 in
    startable a.counts a.arcs.now a.count a.words.now a.states.now a.joined.now (network at) (book at)
    c.wide-used.ensures c.requires.0 c.requires.1
    (omega (arith, c.if-state_room-lt2.false, c.state_room.ensures))

pub returns-in_err-sizes : goal.returns-in_err-sizes
returns-in_err-sizes c =
    let a = c.args in
    let at = (goal.at.returns-in_err-sizes c).Else-state_room-lt2 in
    let p = err_from_is_err_and c.from_residual.result c.from_residual.ensures.1 in
    record {
      answer = p.1 ∙ ap (λ (r : Refusal). Err r) p.2
          ∙ join-refused a.counts a.arcs.now a.count a.words.now a.states.now a.joined.now (network at) (book at)
          c.wide-used.ensures c.join_known.ensures c.in_err-sizes.was;
      left = join-held a.counts a.arcs.now a.count a.words.now a.states.now a.joined.now (network at) (book at)
          c.wide-used.ensures c.join_known.ensures;
    }

pub returns : goal.returns
returns c =
    let a = c.args in
    let at = (goal.at.returns c).Else-state_room-lt2 in
    record {
      answer = join-answered a.counts a.arcs.now a.count a.words.now a.states.now a.joined.now (network at) (book at)
          c.wide-used.ensures c.join_known.ensures c.in_ok-sizes.was;
      left = join-held a.counts a.arcs.now a.count a.words.now a.states.now a.joined.now (network at) (book at)
          c.wide-used.ensures c.join_known.ensures;
    }
