-- Laws about the arc into a metastate: the four words that the lent words say are those of that arc.
use Rattle.std.specs.Prelude.{◌≡◌, List, [], ℕ, ◌+◌, ◌*◌, ◌<◌, drop}
use Rattle.std.proofs.Math.Path.{refl, ap}
use Rattle.std.proofs.Common.{◌∙◌, arith}
use Rattle.definitions.specs.declared.Header.{Header}
use Rattle.definitions.specs.Lists.{◌!◌}
use Rattle.definitions.specs.BookReading.{node_size}
use Rattle.definitions.specs.Tables.{node_of}
use Rattle.definitions.specs.Metastates.{Metastate, phone_of, combination_of, models_of}
use Rattle.definitions.specs.Arcs.{arc, first_state}
use Rattle.definitions.specs.Connecting.{arc_into}
use Rattle.definitions.proofs.Laws.Books.AcceptedKnown.{header-ranges}
use Rattle.tables.specs.Usable.{book_with}
use Rattle.index.specs.Combinations.{combinations_in, nodes_book, Usable}
use Rattle.index.specs.RecordWords.{phone_word, model_word}
use Rattle.index.specs.Laws.RecordWords.{phone-word, leaf-word, model-word}
use Rattle.metastates.specs.Underway.{Placed}
use Rattle.metastates.specs.Steps.{into_arc}

module _ {header : Header} {nodes words : List ℕ} {number place : ℕ}
    (p : Placed header nodes words number place)
  where
    usable : Usable header words
    usable = p.connectable.usable

    abbrev itself : Metastate
    itself = record { number = number; carried = [] }

    pub first-state : 0 < header.states
    first-state = omega (arith, (header-ranges header usable.header-known).states_range.low)

    module _ (from : ℕ) {states model phone : ℕ} (e : states ≡ header.states)
        (f : model ≡ model_word header.half words number nodes 0)
        (g : phone ≡ phone_word header.half words number) where
      pub into-arc : arc from (2 + place * states) model phone ≡ into_arc header nodes words from number place
      unfolding arc_into first_state book_with phone_of combination_of
      into-arc =
          let first : model ≡ models_of (nodes_book header nodes) (combinations_in header words) itself ! 0 =
          f
          ∙ ap (λ (k : ℕ). (node_of (drop (node_size * k) nodes)).value)
          (leaf-word header words usable number p.listed 0 (omega arith))
          ∙ model-word header words usable number p.listed nodes p.connectable.modelled itself refl 0
          first-state in
          let own = g ∙ phone-word header words usable number p.listed in
          rw (e, first, own)
