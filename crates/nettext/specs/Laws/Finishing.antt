-- Laws about what follows the last line: the state gives the answer of document 01, and what is accepted is the
-- lines.
use Rattle.std.specs.Prelude.{◌≡◌, List, [], ℕ, suc, length}
use Rattle.std.proofs.Common.{sym, add-one}
use Rattle.definitions.specs.declared.Fault.TheVariants.{Count}
use Rattle.definitions.specs.Faults.{answered, judge}
use Rattle.definitions.specs.Reading.{read_from}
use Rattle.definitions.specs.Said.{result_of}
use Rattle.definitions.specs.NetworkText.{NetworkLine, counts_of, network_complete, network_kind}
use Rattle.definitions.proofs.Laws.Lists.Tests.{by-test}
use Rattle.definitions.proofs.Laws.Text.Judging.{test-answered}
use Rattle.nettext.specs.States.{state_of}
use Rattle.nettext.specs.Taking.{finish_of}

pub finish-state : (lent : ℕ) (before : List NetworkLine)
    → finish_of (state_of before) ≡ result_of counts_of (read_from (network_kind lent) (suc (length before)) before [])
unfolding state_of read_from judge network_kind network_complete result_of
finish-state lent before = by-test (network_complete before) (λ e. rw e) (λ e. rw (e, add-one))

pub finish-accepted : (lent : ℕ) (before answer : List NetworkLine) (at : ℕ)
    → read_from (network_kind lent) at before [] ≡ answered answer → answer ≡ before
unfolding read_from judge network_kind
finish-accepted lent before answer at h =
    sym (test-answered (network_complete before) Count at before answer h).1
