-- Each fact about lent tables has one proof at most, so a type can hold it.
use Rattle.std.specs.Prelude.{List, [], ◌∷◌}
use Rattle.definitions.specs.Lists.{Distinct}

pub Distinct-prop : {A : Type 0} (l : List A) → IsProp (Distinct l)
Distinct-prop [] = hlevel
Distinct-prop (x ∷ l) = let rest = Distinct-prop l in hlevel
