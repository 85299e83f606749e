-- Laws about the answer of a step: the outcome that it stands for, what the words hold then, and an arc that is
-- appended as the definition appends it.
use Rattle.std.specs.Prelude.{◌≡◌, List, [], ◌∷◌, ◌++◌, ℕ, ◌+◌, ◌*◌, ◌≤◌, Result, Ok, Err}
use Rattle.std.proofs.Math.Path.{refl, ap, subst}
use Rattle.std.proofs.Common.{sym, ◌∙◌, arith, length-append}
use Rattle.std.proofs.Math.Bool.{true, false}
use Rattle.std.proofs.Math.Dec.{ltb}
use Rattle.std.proofs.Math.ListN.{length, take, drop}
use borrow.Author.Tests.{ltb-true}
use Rattle.definitions.specs.declared.Fault.{Fault}
use Rattle.definitions.specs.declared.Fault.TheVariants.{Tangle}
use Rattle.definitions.specs.declared.Refusal.{Refusal}
use Rattle.definitions.specs.Faults.{Outcome, answered, refused, refuse}
use Rattle.definitions.specs.Lists.{concat_map}
use Rattle.definitions.specs.Arcs.{Arc, arc_size, arc_words}
use Rattle.definitions.specs.Growing.{Grown, Room, add_arc}
use Rattle.definitions.proofs.Laws.Lists.Tests.{by-test}
use Rattle.definitions.proofs.Laws.Lists.Records.{read_length}
use Rattle.definitions.proofs.Laws.Text.Judging.{refused-not-answered}
use Rattle.definitions.proofs.Laws.Networks.KnownNetworks.{arcs-length}
use Rattle.definitions.proofs.Laws.Networks.Limits.{with_arc}
use Rattle.growing.specs.declared.Sizes.{Sizes}
use Rattle.growing.specs.Chains.{Code}
use Rattle.growing.specs.Kept.{Kept}
use Rattle.growing.specs.Steps.{sizes_of, held_in, step_of, StepLeft, arc_room, ArcAppended, ArcAnswered}
use Rattle.growing.specs.Steps.{ArcAdded}
use Rattle.growing.specs.Laws.KeptBack.{kept_back}
use Rattle.growing.specs.Laws.KeptMore.{kept-arcs, put-arcs}

-- ---- the outcome of an answer

pub step-next : {X : Type 0} (outcome : Outcome (Grown X)) (sizes : Sizes) → Ok sizes ≡ step_of outcome
    → (net : Grown X) × (outcome ≡ answered net) × (sizes_of net ≡ sizes)
unfolding step_of
step-next (answered net) sizes e = (net, refl, cc)
step-next (refused r) sizes e = let z : ◌≡◌ {A = ℕ} 0 1 = cc in absurd (omega arith)

pub step-stop : {X : Type 0} (outcome : Outcome (Grown X)) (fault : Fault) → Err fault ≡ step_of outcome
    → (r : Refusal) × (outcome ≡ refused r) × (r.fault ≡ fault)
unfolding step_of
step-stop (refused r) fault e = (r, refl, cc)
step-stop (answered net) fault e = let z : ◌≡◌ {A = ℕ} 0 1 = cc in absurd (omega arith)

-- ---- what words hold

pub held-sizes : {X : Type 0} (code : Code X) (sizes : Sizes) (table arcs : List ℕ)
    → sizes_of (held_in code sizes table arcs) ≡ sizes
held-sizes code sizes table arcs = λ i. record {
  table = read_length code.size code.read sizes.table table i;
  arcs = arcs-length sizes.arcs arcs i;
}

-- where a step goes on, the words hold what has grown by its outcome; where it stops, nothing has
module _ {X : Type 0} {code : Code X} {room : Room} {table arcs chains table' arcs' chains' : List ℕ}
    {outcome : Outcome (Grown X)} {answer : Result Sizes Fault}
    (left : StepLeft code room table arcs chains outcome answer table' arcs' chains') where
  pub next-answered : {next : Sizes} → answer ≡ Ok next
      → outcome ≡ answered (held_in code next table' arcs')
  next-answered {next} a =
      let (net, is, sized) = step-next outcome next (sym a ∙ left.answers) in
      let back : held_in code next table' arcs' ≡ net =
      ap (λ (z : Sizes). held_in code z table' arcs') (sym sized) ∙ kept_back (left.holds net is) in
      is ∙ ap answered (sym back)

  pub next-kept : {next : Sizes} → answer ≡ Ok next
      → Kept code room (held_in code next table' arcs') table' arcs' chains'
  next-kept {next} a = left.holds (held_in code next table' arcs') (next-answered a)

  pub stop-refused : {fault : Fault} → answer ≡ Err fault → (net : Grown X) → outcome ≡ answered net → ⊥
  stop-refused {fault} a net e =
      let (r, is, _) = step-stop outcome fault (sym a ∙ left.answers) in
      refused-not-answered outcome r.fault r.line net is e

-- ---- what a step leaves

module _ {X : Type 0} {code : Code X} {room : Room} {table arcs chains table' arcs' chains' : List ℕ}
    {outcome : Outcome (Grown X)} {answer : Result Sizes Fault} (t : length table' ≡ length table)
    (a : length arcs' ≡ length arcs) (c : length chains' ≡ length chains) where
  pub left-answered : (net : Grown X) → outcome ≡ answered net → answer ≡ Ok (sizes_of net)
      → Kept code room net table' arcs' chains'
      → StepLeft code room table arcs chains outcome answer table' arcs' chains'
  unfolding step_of
  left-answered net e f kept = record {
    answers = rw e f;
    holds = λ other g.
        let same : net ≡ other = cc in subst (λ n. Kept code room n table' arcs' chains') same kept;
    table-sized = t;
    arcs-sized = a;
    chains_sized = c;
  }

  pub left-refused : (fault : Fault) → outcome ≡ refuse fault 0 → answer ≡ Err fault
      → StepLeft code room table arcs chains outcome answer table' arcs' chains'
  unfolding step_of
  left-refused fault e f = record {
    answers = rw e f;
    holds = λ net g. absurd (refused-not-answered outcome fault 0 net e g);
    table-sized = t;
    arcs-sized = a;
    chains_sized = c;
  }

-- an arc is appended as the definition appends it
module _ (table₀ chains₀ : List ℕ) {X : Type 0} {code : Code X} {room : Room} {net : Grown X}
    {table arcs chains : List ℕ} (kept : Kept code room net table arcs chains) (r : room.arcs ≡ arc_room arcs)
    (t : length table ≡ length table₀) (c : length chains ≡ length chains₀)
    (a : Arc) (sizes : Sizes) (e : sizes ≡ sizes_of net) where
  counted : sizes.arcs ≡ length net.arcs
  counted = ap (λ (s : Sizes). s.arcs) e

  more : ◌≡◌ {A = Sizes} (record { table = sizes.table; arcs = sizes.arcs + 1 }) (sizes_of (with_arc net a))
  more =
      let one : sizes.arcs + 1 ≡ length (net.arcs ++ (a ∷ [])) =
      ap (λ (n : ℕ). n + 1) counted ∙ sym (length-append net.arcs (a ∷ [])) in
      λ i. record { table = (e i).table; arcs = one i }

  by-room : {outcome : Outcome (Grown X)} {answer : Result Sizes Fault} {arcs' : List ℕ} → outcome ≡ add_arc room a net
      → ArcAnswered sizes arcs answer → ArcAppended sizes a arcs arcs'
      → StepLeft code room table₀ arcs chains₀ outcome answer table arcs' chains
  unfolding add_arc concat_map arc_words
  by-room {outcome} {answer} {arcs'} o f g = by-test (ltb sizes.arcs (arc_room arcs))
      (λ t₁.
      let test : ltb (length net.arcs) room.arcs ≡ true =
      ap (λ (n : ℕ). ltb n room.arcs) (sym counted) ∙ ap (ltb sizes.arcs) r ∙ t₁ in
      let free : length net.arcs + 1 ≤ room.arcs =
      omega (arith, ltb-true sizes.arcs (arc_room arcs) t₁, counted, r) in
      let put : arcs' ≡ take (arc_size * length net.arcs) arcs ++ arc_words a
      ++ drop (arc_size * length net.arcs + arc_size) arcs =
      (rw t₁ at g)
      ∙ ap (λ (k : ℕ). take (arc_size * k) arcs ++ arc_words a ++ drop (arc_size * k + arc_size) arcs) counted in
      let (size, grown) = kept-arcs kept (a ∷ []) free (put-arcs kept (a ∷ []) refl free put) in
      left-answered t size c (with_arc net a) (o ∙ rw test) ((rw t₁ at f) ∙ ap Ok more) grown)
      (λ t₁.
      let test : ltb (length net.arcs) room.arcs ≡ false =
      ap (λ (n : ℕ). ltb n room.arcs) (sym counted) ∙ ap (ltb sizes.arcs) r ∙ t₁ in
      left-refused t (ap length (rw t₁ at g)) c Tangle (o ∙ rw test) (rw t₁ at f))

  pub arc-left : {outcome : Outcome (Grown X)} {answer : Result Sizes Fault} {arcs' : List ℕ} → outcome ≡ add_arc room a net
      → ArcAdded sizes a arcs answer arcs'
      → StepLeft code room table₀ arcs chains₀ outcome answer table arcs' chains
  arc-left o added = by-room o added.answers added.words
