-- Laws about the states of metastates: they are few, and which is a metastate's last.
use Rattle.std.specs.Prelude.{◌≡◌, ℕ, ◌+◌, ◌*◌, ◌≤◌, T}
use Rattle.std.proofs.Math.Nat.{add-mul}
use Rattle.std.proofs.Common.{mul-le-mul, arith}
use Rattle.definitions.specs.declared.Header.{Header}
use Rattle.definitions.specs.Arcs.{first_state, last_state}
use Rattle.definitions.specs.ForeignTables.{header_known}
use Rattle.definitions.proofs.Laws.Books.AcceptedKnown.{header-ranges}

module _ (header : Header) (known : T (header_known header)) {states : ℕ} (e : states ≡ header.states) where
  -- a network's states are few, so that they are words
  pub states-few : (places : ℕ) → places ≤ 65535 → places * states ≤ 196605
  states-few places h =
      let few : states ≤ 3 = omega (arith, e, (header-ranges header known).states_range.high) in
      omega (arith, mul-le-mul {n₁ = places} {m₁ = states} {n₂ = 65535} {m₂ = 3} h few)

  pub last-state : (place : ℕ) → 1 + (place + 1) * states ≡ last_state header.states place
  unfolding last_state first_state
  last-state place =
      rw (← e) (omega (arith, e, (header-ranges header known).states_range.low, add-mul place 1 states))
