-- Connecting depends on the nodes of a book alone: with other classes and roots its rules are the same.
use Rattle.std.specs.Prelude.{◌≡◌, List, ℕ}
use Rattle.std.proofs.Math.Path.{refl}
use Rattle.std.proofs.Common.{ap}
use Rattle.definitions.specs.declared.Header.{Header}
use Rattle.definitions.specs.Tables.{tables_book, book_in, tables_contents}
use Rattle.definitions.specs.Combinations.{Combination}
use Rattle.definitions.specs.Metastates.{starts, followers, models_of, may_end}
use Rattle.definitions.specs.Growing.{Room}
use Rattle.definitions.specs.Connecting.{Rules, rules_of, connect}
use Rattle.tables.specs.Lending.{lent_tables}
use Rattle.tables.specs.Usable.{book_with}
use Rattle.index.specs.Combinations.{nodes_book}

module _ (header : Header) (nodes classes roots plains : List ℕ) (cs : List Combination) where
  rules-nodes : rules_of (tables_book header (lent_tables nodes classes roots plains)) cs
      ≡ rules_of (nodes_book header nodes) cs
  unfolding starts followers models_of may_end tables_book book_in tables_contents book_with
  rules-nodes = refl

  pub connect-nodes : (room : Room) (limit : ℕ)
      → connect (rules_of (tables_book header (lent_tables nodes classes roots plains)) cs) room limit
      ≡ connect (rules_of (nodes_book header nodes) cs) room limit
  connect-nodes room limit = ap (λ (rules : Rules). connect rules room limit) rules-nodes
