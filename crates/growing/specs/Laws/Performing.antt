-- Laws about performing events, whichever machine grows the table: events after events, and one alone.
use Rattle.std.specs.Prelude.{◌≡◌}
use Rattle.std.proofs.Math.Path.{refl}
use mathlib.Core.List.{List, [], ◌∷◌, ◌++◌}
use Rattle.definitions.specs.Faults.{Outcome, answered, refused, and_then}
use Rattle.definitions.specs.Growing.{Grown, Machine, Event, Room, perform, perform_all}

pub once_more : {X : Type 0} (outcome : Outcome (Grown X)) → and_then outcome (λ net. answered net) ≡ outcome
unfolding and_then
once_more (answered net) = refl
once_more (refused r) = refl

module _ {X E : Type 0} (m : Machine X E) (room : Room) where
  abbrev all : List (Event E) → Grown X → Outcome (Grown X)
  all events net = perform_all m room net events

  pub performed-parts : (net : Grown X) (events later : List (Event E))
      → perform_all m room net (events ++ later)
      ≡ and_then (perform_all m room net events) (λ next. perform_all m room next later)
  unfolding perform_all and_then
  performed-parts net [] later = refl
  performed-parts net (event ∷ events) later =
      go (perform m room net event) (λ next. performed-parts next events later)
    where
      go : (o : Outcome (Grown X))
          → ((next : Grown X) → all (events ++ later) next ≡ and_then (all events next) (all later))
          → and_then o (all (events ++ later)) ≡ and_then (and_then o (all events)) (all later)
      go (answered next) rest = rest next
      go (refused r) rest = refl
