-- What connecting leaves and answers, by what the definition connects.
use Rattle.std.specs.Prelude.{◌≡◌, List, ℕ, length, Result}
use Rattle.definitions.specs.declared.Header.{Header}
use Rattle.definitions.specs.Faults.{Outcome, answered, refused}
use Rattle.definitions.specs.Lists.{concat_map, padded, cleared}
use Rattle.definitions.specs.Arcs.{arc_words}
use Rattle.definitions.specs.Metastates.{metastate_words}
use Rattle.definitions.specs.Connecting.{Built}
use Rattle.definitions.specs.Building.{network_in}
use Rattle.definitions.specs.declared.Refusal.{Refusal}
use Rattle.definitions.specs.Said.{result_of}
use Rattle.network.specs.declared.Build.{Build}
use Rattle.network.specs.Answers.{build_of}

-- what connecting leaves and answers
pub record Connected (header : Header) (metastates arcs : List ℕ) (outcome : Outcome Built) (answer : Result Build Refusal)
    (metastates' arcs' : List ℕ) : Type 0 where
  pub answers : answer ≡ result_of (build_of header.states) outcome
  pub metastate-words : (built : Built) → outcome ≡ answered built
      → metastates' ≡ padded (length metastates) (concat_map (metastate_words header.half) (network_in built).table)
  pub arc-words : (built : Built) → outcome ≡ answered built
      → arcs' ≡ padded (length arcs) (concat_map arc_words (network_in built).arcs)
  pub metastates-sized : length metastates' ≡ length metastates
  pub arcs-sized : length arcs' ≡ length arcs

-- the same with the space of combinations, and all cleared where it is refused
pub record BuiltIn (header : Header) (combinations metastates arcs : List ℕ) (outcome : Outcome Built)
    (answer : Result Build Refusal) (combinations' metastates' arcs' : List ℕ) : Type 0 where
  pub answers : answer ≡ result_of (build_of header.states) outcome
  pub kept : (built : Built) → outcome ≡ answered built → combinations' ≡ combinations
  pub metastate-words : (built : Built) → outcome ≡ answered built
      → metastates' ≡ padded (length metastates) (concat_map (metastate_words header.half) (network_in built).table)
  pub arc-words : (built : Built) → outcome ≡ answered built
      → arcs' ≡ padded (length arcs) (concat_map arc_words (network_in built).arcs)
  pub combinations-cleared : (r : Refusal) → outcome ≡ refused r
      → combinations' ≡ cleared (length combinations)
  pub metastates-cleared : (r : Refusal) → outcome ≡ refused r → metastates' ≡ cleared (length metastates)
  pub arcs-cleared : (r : Refusal) → outcome ≡ refused r → arcs' ≡ cleared (length arcs)
