-- What writing a text answers and leaves, whatever kind of text it is.
use Rattle.std.specs.Prelude.{◌≡◌, List, ℕ, length, Result}
use Rattle.definitions.specs.declared.Refusal.{Refusal}
use Rattle.definitions.specs.Faults.{Outcome, answer_left}
use Rattle.definitions.specs.Said.{result_of}

-- how many bytes or the refusal, and what is left in a buffer of so many bytes
abbrev pub TextLeft : Outcome (List ℕ) → (size : ℕ) → Result ℕ Refusal → (after : List ℕ) → Type 0
TextLeft o size answer after = (answer ≡ result_of length o) × (after ≡ answer_left size o)
