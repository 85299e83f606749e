-- `transcription::transcribe` meets its contract, test by test.
use Rattle.std.proofs.Common.{rules, Err}
use mathlib.Core.Path.{subst, ◌≡◌, refl, ap, sym, ◌∙◌}
use mathlib.Core.List.{List}
use mathlib.Core.Bool.{true}
use Prim.Native.Nat.{ℕ, ◌*◌, ◌≤◌, ◌<◌}
use native.Mathlib.Omega.{arith}
use lib.Dec.{T}
use lib.ListN.{length}
use Rattle.definitions.specs.Tables.{Tables}
use Rattle.definitions.specs.ForeignTables.{tables_known}
use Rattle.definitions.specs.Transcription.{is_utterance}
use Rattle.tables.specs.Lending.{lent_tables}
use Rattle.tables.specs.Usable.{book_with}
use Rattle.tables.specs.Laws.KnownTables.{tables-fit, forced-book, known-forceable}
use Rattle.transcripts.specs.Laws.Answering.{ends_foreign, ends-utterance, ends-short, ends-given, some_state}
use Rattle.transcripts.specs.Laws.Answering.{no_room, has_room}
use Rattle.transcripts.proofs.transcription.transcribe.Goals as goal
use Rattle.transcripts.proofs.transcription.transcribe.Goals.{After-wide-states, Else-not-is_utterance, Else-not-tables_known}

-- the tables are known
known : (c : goal.Else-not-tables_known)
    → tables_known c.args.header
    (lent_tables c.args.nodes.now c.args.classes.now c.args.roots.now c.args.plains.now) ≡ true
known c = sym c.tables_known.ensures ∙ c.if-not-tables_known.false

known-fact : (c : goal.Else-not-tables_known)
    → T (tables_known c.args.header
    (lent_tables c.args.nodes.now c.args.classes.now c.args.roots.now c.args.plains.now))
known-fact c = rw (known c) tt

-- the sequence is an utterance
spoken : (c : goal.Else-not-is_utterance) → is_utterance c.args.header.phones c.args.sequence.now ≡ true
spoken c = sym c.is_utterance.ensures ∙ c.if-not-is_utterance.false

some : (c : goal.After-wide-states) → 0 < c.wide-states.result
some c =
    let tables : Tables =
    lent_tables c.args.nodes.now c.args.classes.now c.args.roots.now c.args.plains.now in
    let known : tables_known c.args.header tables ≡ true =
    sym c.tables_known.ensures ∙ c.if-not-tables_known.false in
    omega (arith, some_state _ _ known, c.wide-states.ensures)

pub returns-then-not-tables_known : goal.returns-then-not-tables_known
returns-then-not-tables_known c =
    let a = c.args in
    let ends = ends_foreign a.header (lent_tables a.nodes.now a.classes.now a.roots.now a.plains.now) a.sequence.now
    (length a.models.now) (Err c.at.result) c.fill.new.self
    (sym c.tables_known.ensures ∙ c.if-not-tables_known.true) (ap Err c.at.ensures) (search rules) in
    record { answer = ends.0; leaves = ends.1 }

pub returns-then-not-is_utterance : goal.returns-then-not-is_utterance
returns-then-not-is_utterance c =
    let a = c.args in
    let ends = ends-utterance a.header (lent_tables a.nodes.now a.classes.now a.roots.now a.plains.now) a.sequence.now
    (length a.models.now) (Err c.at-then-not-is_utterance.result) c.fill.new.self
    (known (goal.at.returns-then-not-is_utterance c).Else-not-tables_known)
    (sym c.is_utterance.ensures ∙ c.if-not-is_utterance.true) (ap Err c.at-then-not-is_utterance.ensures)
    (search rules) in
    record { answer = ends.0; leaves = ends.1 }

pub nonzero_div-room : goal.nonzero_div-room
nonzero_div-room c = some (goal.at.nonzero_div-room c).After-wide-states

pub returns-then-room-sequence : goal.returns-then-room-sequence
returns-then-room-sequence c =
    let a = c.args in
    let words : List ℕ = c.fill.new.self in
    let n : ℕ = length words in
    let ends = ends-short a.header (lent_tables a.nodes.now a.classes.now a.roots.now a.plains.now) a.sequence.now
    (length a.models.now) (Err c.at-then-room-sequence.result) words
    (known (goal.at.returns-then-room-sequence c).Else-not-tables_known)
    (spoken (goal.at.returns-then-room-sequence c).Else-not-is_utterance) _ n
    c.wide-states.ensures c.fill.auto.self _ refl
    (no_room (length a.sequence.now) n _ (some (goal.at.returns-then-room-sequence c).After-wide-states)
    c.if-room-sequence.true)
    (ap Err c.at-then-room-sequence.ensures) (search rules) in
    record { answer = ends.0; leaves = ends.1 }

pub roots_in_force-requires : goal.roots_in_force-requires
roots_in_force-requires c =
    known-forceable _ _ _ _ _ (known-fact (goal.at.roots_in_force-requires c).Else-not-tables_known)

pub invariant_of-trees : goal.invariant_of-trees
invariant_of-trees c =
    record {
      fit = tables-fit _ _ _ _ _ (known-fact (goal.at.invariant_of-trees c).Else-not-tables_known) _
          c.roots_in_force.ensures;
    }

pub all_models-questions-requires : goal.all_models-questions-requires
all_models-questions-requires c =
    let a = c.args in
    let words : List ℕ = c.fill.new.self in
    let room = has_room (length a.sequence.now) (length words) _
    (some (goal.at.all_models-questions-requires c).After-wide-states) c.if-room-sequence.false in
    let fits = subst (λ (n : ℕ). length a.sequence.now * n ≤ length words) c.wide-states.ensures room in
    (rw (spoken (goal.at.all_models-questions-requires c).Else-not-is_utterance) tt, fits)

pub overflow_mul-result : goal.overflow_mul-result
overflow_mul-result c =
    let words : List ℕ = c.fill.new.self in
    let fits = has_room (length c.args.sequence.now) (length words) _
    (some (goal.at.overflow_mul-result c).After-wide-states) c.if-room-sequence.false in
    omega (arith, fits, c.fill.auto.self)

pub returns : goal.returns
unfolding book_with
returns c =
    let a = c.args in
    let words : List ℕ = c.fill.new.self in
    let all = c.all_models-questions in
    let ends = ends-given a.header (lent_tables a.nodes.now a.classes.now a.roots.now a.plains.now) a.sequence.now
    (length a.models.now) _ all.new.models
    (known (goal.at.returns c).Else-not-tables_known) (spoken (goal.at.returns c).Else-not-is_utterance) _ (length words)
    c.wide-states.ensures c.fill.auto.self _
    (forced-book _ _ _ _ _ (known-fact (goal.at.returns c).Else-not-tables_known) _ c.roots_in_force.ensures)
    (has_room (length a.sequence.now) (length words) _ (some (goal.at.returns c).After-wide-states)
    c.if-room-sequence.false) _ all.ensures.questions_are refl words (search rules) all.ensures.models_are in
    record { answer = ends.0; leaves = ends.1 }
