-- What is spoken of words begins and ends with silence. So of what an accepting path may carry (Given), only that the
-- trees give the models is asked of it.
use Rattle.std.specs.Prelude.{◌≡◌, List, [], ◌∷◌, ◌++◌, ℕ, suc, ◌-◌, T, length}
use Rattle.std.proofs.Common.{arith, length-append}
use Rattle.std.proofs.Math.Seq.{get_or-append_seam}
use Rattle.definitions.specs.Lists.{concat_map}
use Rattle.definitions.specs.TreesGive.{silent_ends}
use Rattle.definitions.specs.Joining.{phones_in, spoken}

pub spoken-silent : (words : List (List ℕ)) (W : List ℕ) → T (silent_ends (spoken words W))
unfolding silent_ends spoken
spoken-silent words W =
    let inner : List ℕ = concat_map (phones_in words) W in
    let place : length (1 ∷ (inner ++ (1 ∷ []))) - 1 ≡ suc (length inner) =
    omega (arith, length-append inner (1 ∷ [])) in
    rw (place, get_or-append_seam inner 1 [] 0) tt
