-- Laws about steps one after the other: what has been done so far leaves the rest to do, each step takes its part of
-- it, and the last one answers for the whole.
use Rattle.std.specs.Prelude.{◌≡◌, refl, List, length, Result, Ok, Err}
use Rattle.std.proofs.Common.{sym, ◌∙◌}
use Rattle.std.proofs.Math.Path.{ap}
use Prim.Native.Nat.{ℕ, ◌/◌, min}
use Rattle.definitions.specs.declared.Fault.{Fault}
use Rattle.definitions.specs.Faults.{Outcome, answered, refused, and_then}
use Rattle.definitions.specs.Arcs.{arc_size}
use Rattle.definitions.specs.Growing.{Grown, Room}
use Rattle.definitions.specs.Building.{most_arcs}
use Rattle.definitions.proofs.Laws.Text.Judging.{refused-not-answered}
use Rattle.growing.specs.declared.Sizes.{Sizes}
use Rattle.growing.specs.Chains.{Code}
use Rattle.growing.specs.Steps.{held_in, Underway, step_of, StepLeft}
use Rattle.growing.specs.Laws.Steps.{held-sizes, step-stop, next-answered, next-kept, left-answered}

-- of an outcome, what is left to do with what has grown so far; the words are as long as they were
pub record Going {X : Type 0} (code : Code X) (room : Room) (table₀ arcs₀ chains₀ : List ℕ)
    (whole : Outcome (Grown X)) (rest : Grown X → Outcome (Grown X)) (sizes : Sizes) (table arcs chains : List ℕ)
    : Type 0 where
  pub underway : Underway code room sizes table arcs chains
  pub equal : whole ≡ rest (held_in code sizes table arcs)
  pub table-sized : length table ≡ length table₀
  pub arcs-sized : length arcs ≡ length arcs₀
  pub chains_sized : length chains ≡ length chains₀

module _ {X : Type 0} {code : Code X} {room : Room} where
  -- nothing is done yet
  pub going_start : (whole : Outcome (Grown X)) (rest : Grown X → Outcome (Grown X)) {sizes : Sizes}
      {table arcs chains : List ℕ} → Underway code room sizes table arcs chains
      → whole ≡ rest (held_in code sizes table arcs)
      → Going code room table arcs chains whole rest sizes table arcs chains
  going_start whole rest u e =
      record { underway = u; equal = e; table-sized = refl; arcs-sized = refl; chains_sized = refl }

  module _ {table₀ arcs₀ chains₀ : List ℕ} {whole : Outcome (Grown X)} {rest : Grown X → Outcome (Grown X)}
      {sizes : Sizes} {table arcs chains : List ℕ}
      (g : Going code room table₀ arcs₀ chains₀ whole rest sizes table arcs chains) where
    -- all is done
    pub going_done : rest (held_in code sizes table arcs) ≡ answered (held_in code sizes table arcs)
        → StepLeft code room table₀ arcs₀ chains₀ whole (Ok sizes) table arcs chains
    going_done e =
        left-answered g.table-sized g.arcs-sized g.chains_sized (held_in code sizes table arcs) (g.equal ∙ e)
        (ap Ok (sym (held-sizes code sizes table arcs))) g.underway.kept

    -- a step does all that is left
    module _ {answer : Result Sizes Fault} {table' arcs' chains' : List ℕ} where
      pub going-last
          : StepLeft code room table arcs chains (rest (held_in code sizes table arcs)) answer table' arcs' chains'
          → StepLeft code room table₀ arcs₀ chains₀ whole answer table' arcs' chains'
      going-last left =
          record {
            answers = left.answers ∙ ap step_of (sym g.equal);
            holds = λ net e. left.holds net (sym g.equal ∙ e);
            table-sized = left.table-sized ∙ g.table-sized;
            arcs-sized = left.arcs-sized ∙ g.arcs-sized;
            chains_sized = left.chains_sized ∙ g.chains_sized;
          }

      -- or a part of it
      module _ {outcome : Outcome (Grown X)} (after : Grown X → Outcome (Grown X))
          (left : StepLeft code room table arcs chains outcome answer table' arcs' chains')
          (e : rest (held_in code sizes table arcs) ≡ and_then outcome after) where
        -- and goes on
        pub going_more : {next : Sizes} → answer ≡ Ok next
            → Going code room table₀ arcs₀ chains₀ whole after next table' arcs' chains'
        unfolding and_then
        going_more {next} a =
            record {
              underway =
                  record {
                    kept = next-kept left a;
                    whole =
                        g.underway.whole
                        ∙ ap (λ (n : ℕ). min (n / arc_size) most_arcs) (sym left.arcs-sized);
                  };
              equal = g.equal ∙ e ∙ ap (λ o. and_then o after) (next-answered left a);
              table-sized = left.table-sized ∙ g.table-sized;
              arcs-sized = left.arcs-sized ∙ g.arcs-sized;
              chains_sized = left.chains_sized ∙ g.chains_sized;
            }

        -- or stops
        pub going-stop : {fault : Fault} → answer ≡ Err fault
            → StepLeft code room table₀ arcs₀ chains₀ whole (Err fault) table' arcs' chains'
        unfolding and_then step_of
        going-stop {fault} a =
            let (r, is, same) = step-stop outcome fault (sym a ∙ left.answers) in
            let whole_is : whole ≡ refused r = g.equal ∙ e ∙ ap (λ o. and_then o after) is in
            record {
              answers = ap Err (sym same) ∙ ap step_of (sym whole_is);
              holds = λ net f. absurd (refused-not-answered whole r.fault r.line net whole_is f);
              table-sized = left.table-sized ∙ g.table-sized;
              arcs-sized = left.arcs-sized ∙ g.arcs-sized;
              chains_sized = left.chains_sized ∙ g.chains_sized;
            }
