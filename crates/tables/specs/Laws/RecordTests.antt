-- The law of the test of a single set of phones.
use Rattle.std.specs.Prelude.{◌≡◌, ℕ, suc, ◌-◌, ◌*◌, ◌/◌, ◌^◌, ◌≤◌, ◌<◌, leb, ltb}
use Rattle.std.proofs.Common.{ap, ◌∙◌, div-lt_iff_lt-mul, pow-suc, arith, ltb→lt, lt→ltb, leb→le, le→leb, pow_pos}
use Rattle.definitions.proofs.Laws.Lists.Tests.{same_tests}

-- what is left of a set when all phones but the last are shifted out
module _ (set phones : ℕ) (h : 1 ≤ phones) where
  doubled : 2 ^ phones ≡ 2 * 2 ^ (phones - 1)
  doubled =
      ap (λ (n : ℕ). 2 ^ n) {x = phones} {y = suc (phones - 1)} (omega arith)
      ∙ omega (arith, pow-suc 2 (phones - 1))

  -- at most that one is left exactly where the set holds no phone beyond the last
  pub set-test : leb (set / 2 ^ (phones - 1)) 1 ≡ ltb set (2 ^ phones)
  set-test =
      same_tests _ _
      (λ a. let few : set / 2 ^ (phones - 1) ≤ 1 = leb→le _ 1 a in
      let less : set < 2 * 2 ^ (phones - 1) = (div-lt_iff_lt-mul (pow_pos (phones - 1))).0 (omega arith) in
      lt→ltb _ _ (omega (arith, doubled)))
      (λ b. let less : set < 2 * 2 ^ (phones - 1) = omega (arith, doubled, ltb→lt _ _ b) in
      let few : set / 2 ^ (phones - 1) < 2 = (div-lt_iff_lt-mul (pow_pos (phones - 1))).1 less in
      le→leb _ _ (omega arith))
