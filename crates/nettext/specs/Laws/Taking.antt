-- Laws about taking a line: the answer on each way that the code goes, and what a step says of the line.
use Rattle.std.specs.Prelude.{◌≡◌, refl, List, ℕ, T, Ok, Err}
use Rattle.std.specs.Result.{is_ok}
use Rattle.std.proofs.Common.{sym, ap, subst}
use Rattle.definitions.specs.declared.Fault.{Fault}
use Rattle.definitions.specs.NetworkText.{NetworkLine, network_kind}
use Rattle.lines.specs.Judging.{Verdict, line_taken}
use Rattle.nettext.specs.declared.State.{State}
use Rattle.nettext.specs.States.{next_state}
use Rattle.nettext.specs.Taking.{verdict_in, step_after, step_of}

-- ---- the step by the verdict, and what it says of the line

module _ (lent : ℕ) (s : State) (bytes : List ℕ) where
  pub step-failed : {fault : Fault} → verdict_in lent s bytes ≡ Err fault → Err fault ≡ step_of lent s bytes
  unfolding step_of step_after
  step-failed v = rw v

  pub step-passed : verdict_in lent s bytes ≡ Ok tt
      → Ok (next_state s (line_taken (network_kind lent) bytes)) ≡ step_of lent s bytes
  unfolding step_of step_after
  step-passed v = rw v

  -- a line that was taken passed its tests
  pub step-next : (next : State) → step_of lent s bytes ≡ Ok next
      → (verdict_in lent s bytes ≡ Ok tt) × (next ≡ next_state s (line_taken (network_kind lent) bytes))
  unfolding step_of step_after
  step-next next e = by (verdict_in lent s bytes) e
    where
      line : NetworkLine
      line = line_taken (network_kind lent) bytes

      by : (v : Verdict) → step_after v s line ≡ Ok next → (v ≡ Ok tt) × (next ≡ next_state s line)
      by (Ok done) q = (refl, cc)
      by (Err fault) q = absurd (subst T (sym (ap is_ok q)) tt)

  -- a line that stops failed one
  pub step-stop : (fault : Fault) → step_of lent s bytes ≡ Err fault → verdict_in lent s bytes ≡ Err fault
  unfolding step_of step_after
  step-stop fault e = by (verdict_in lent s bytes) e
    where
      by : (v : Verdict) → step_after v s (line_taken (network_kind lent) bytes) ≡ Err fault → v ≡ Err fault
      by (Ok done) q = absurd (subst T (ap is_ok q) tt)
      by (Err other) q = let same : other ≡ fault = cc in ap Err same
