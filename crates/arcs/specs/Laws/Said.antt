-- What is said of where a part stands determines what is answered.
use Rattle.std.specs.Prelude.{◌≡◌, Result}
use Rattle.std.proofs.Common.{refl, ap, ◌∙◌}
use Rattle.definitions.specs.declared.Refusal.{Refusal}
use Rattle.definitions.specs.Faults.{Outcome}
use Rattle.definitions.specs.Leaving.{Part}
use Rattle.definitions.specs.Said.{result_of, result_said, said_of, Span, span_of, no_span}
use Rattle.definitions.proofs.Laws.Results.{said-result, result-told}
use Rattle.arcs.specs.declared.Span as declared
use Rattle.arcs.specs.Spans.{span_at, span_said}

abbrev span_back : Span → declared.Span
span_back span = record { start = span.start; length = span.length }

module _ {stands : Result declared.Span Refusal} (o : Outcome Part) where
  pub standing-said : stands ≡ result_of span_at o → result_said span_said no_span stands ≡ said_of span_of no_span o
  standing-said e = ap (result_said span_said no_span) e ∙ said-result span_at span_said no_span o

  pub standing-told : result_said span_said no_span stands ≡ said_of span_of no_span o → stands ≡ result_of span_at o
  standing-told h = result-told span_said span_back (λ span. refl) no_span span_at o h
