-- The phones after one, up to another, as the code goes through them: by the numbers from 0 on.
use Rattle.std.specs.Prelude.{◌≡◌, refl, Bool, ◌&&◌, ℕ, zero, suc, ◌+◌}
use Rattle.std.specs.List.{list_all, range_with_len}
use Rattle.std.proofs.Common.{ap, add-one}
use Rattle.definitions.specs.Lists.{every, up_from}

pub every-from : (test : ℕ → Bool) (a n : ℕ)
    → list_all (λ x. test (x + 1)) (range_with_len a n) ≡ every test (up_from (a + 1) n)
unfolding every up_from
every-from test a zero = refl
every-from test a (suc n) = rw (← add-one (a + 1)) (ap (λ rest. test (a + 1) && rest) (every-from test (a + 1) n))
