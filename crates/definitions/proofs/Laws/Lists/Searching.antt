-- Laws about a search over places with a test: the places passed so far fail it, and the search ends at the first
-- that holds, or where there are no more.
use Rattle.std.specs.Prelude.{◌≡◌, Bool, true, false, ℕ, ◌+◌, ◌≤◌, ◌<◌, ltb}
use Rattle.std.proofs.Common.{ap, ◌∙◌, arith, ltb-true, ltb-false}
use Rattle.definitions.specs.Searching.{NoneFrom, FirstFrom}
use Rattle.definitions.proofs.Laws.Lists.Tests.{by-test}

module _ {test : ℕ → Bool} {size from : ℕ} where
  pub none-start : from ≤ size → NoneFrom test size from from
  none-start h = record { after = omega arith; within = h; passed = λ i a b. absurd (omega arith) }

  pub none-one : from < size → test from ≡ false → NoneFrom test size from (from + 1)
  none-one h e = record {
    after = omega arith;
    within = omega arith;
    passed = λ i a b. let same : i ≡ from = omega arith in ap test same ∙ e;
  }

  module _ {place : ℕ} (p : NoneFrom test size from place) where
    pub none_more : {next : ℕ} → NoneFrom test size place next → NoneFrom test size from next
    none_more q = record {
      after = omega (arith, p.after, q.after);
      within = q.within;
      passed = λ i a b.
          by-test (ltb i place) (λ t. p.passed i a (ltb-true i place t))
          (λ t. q.passed i (ltb-false i place t) b);
    }

    pub none_found : test place ≡ true → FirstFrom test size from place
    none_found e = record { none = p; found = λ h. e }

    pub none-all : size ≤ place → FirstFrom test size from place
    none-all h = record { none = p; found = λ k. absurd (omega arith) }
