-- Laws about the arcs of a state that are passed over: nothing leads along them.
use Rattle.std.specs.Prelude.{None, ◌≡◌, false, ℕ, ◌+◌, ◌*◌, ◌/◌, ◌≤◌, ◌<◌, eqb, drop}
use Rattle.std.proofs.Common.{sym, ◌∙◌, arith, drop_of_length-le, eq-eqb, true≢false}
use Rattle.std.proofs.Math.Path.{ap}
use mathlib.Core.List.{List, [], ◌++◌}
use Rattle.std.proofs.Math.ListN.{length, get_or}
use Rattle.definitions.specs.Lists.{◌!◌, select, concat_map}
use Rattle.definitions.specs.Arcs.{Arc, arc_size, arc_of}
use Rattle.definitions.specs.Joining as joining
use Rattle.definitions.specs.Joining.{◌⊚◌, steps, Move, moves_along}
use Rattle.definitions.proofs.Laws.Lists.Selected.{select-here}
use Rattle.definitions.proofs.Laws.Networks.KnownNetworks.{arcs-length}
use Rattle.arcs.specs.Laws.KnownArcs.{arc-at, source-at, arc-words-at, arcs-next}
use Rattle.arcs.specs.Whole.{all_arcs, arc_at}
use Rattle.arcs.specs.Laws.Leaving.{leaves, own-past}
use Rattle.marks.specs.Wanting.{steps_by, Leads}
use Rattle.std.proofs.lemmas.Bool.{or_parts}
use Rattle.marks.specs.declared.Mark.{Mark}
use Rattle.marks.specs.declared.Wanted.{Wanted}
use Rattle.marks.specs.declared.Wanted.TheVariants.{Words, Phone, Nothing}
use Rattle.moves.specs.Skipping.{leads_along, moves_from, AfterSources, Skipped, NextFound}

module _ (arcs : List ℕ) (at : ℕ) (l : at < length arcs / arc_size) where
  -- the moves along an arc of the state, and then those from the next on
  module _ (words : List (List ℕ)) (p : joining.Mark) {state : ℕ} (e : arcs ! (arc_size * at) ≡ state) where
    pub moves-here : moves_from words p arcs state at
        ≡ moves_along words p (arc_at arcs at) ++ moves_from words p arcs state (at + 1)
    unfolding concat_map
    moves-here =
        let own : (arc_at arcs at).from ≡ state = source-at arcs at ∙ e in
        ap (λ (k : List Arc). concat_map (moves_along words p) (select (leaves state) k))
        (arcs-next (length arcs / arc_size) arcs at l)
        ∙ ap (concat_map (moves_along words p))
        (select-here (leaves state) (arc_at arcs at) (drop (at + 1) (all_arcs arcs)) (eq-eqb _ _ own))

  -- none from an arc of another state on
  moves-past : (words : List (List ℕ)) (p : joining.Mark) {state from : ℕ} → AfterSources arcs state from → from ≤ at
      → (arcs ! (arc_size * at) ≡ state → ⊥) → moves_from words p arcs state at ≡ []
  unfolding concat_map
  moves-past words p {state} after up other =
      let count : length (all_arcs arcs) ≡ length arcs / arc_size = arcs-length (length arcs / arc_size) arcs in
      let there : get_or (all_arcs arcs) at (arc_of []) ≡ arc_at arcs at = arc-at (length arcs / arc_size) arcs at l in
      ap (concat_map (moves_along words p))
      (own-past state (all_arcs arcs) (arc_of []) after.ordered at (omega (arith, after.after)) (omega (arith, count))
      (λ e. other (sym (source-at arcs at) ∙ ap (λ (a : Arc). a.from) (sym there) ∙ e)))

-- none at the end
pub moves-end : (words : List (List ℕ)) (p : joining.Mark) (arcs : List ℕ) (state : ℕ) {at : ℕ} → length arcs / arc_size ≤ at
    → moves_from words p arcs state at ≡ []
unfolding concat_map select
moves-end words p arcs state {at} h =
    ap (λ (k : List Arc). concat_map (moves_along words p) (select (leaves state) k))
    (drop_of_length-le (all_arcs arcs) {i = at} (omega (arith, h, arcs-length (length arcs / arc_size) arcs)))

-- one phone that leads on is not the words that begin, nor is nothing
pub phone-only : {own : ℕ} {next : Mark} → Phone own next ≡ Words → ⊥
phone-only e = let z : ◌≡◌ {A = ℕ} 0 1 = cc in absurd (omega arith)

pub nothing-only : Nothing ≡ Words → ⊥
nothing-only e = let z : ◌≡◌ {A = ℕ} 0 1 = cc in absurd (omega arith)

-- nothing leads along an arc whose phone is not wanted
pub nothing-along : {words : List (List ℕ)} {word mark : ℕ} (wanted : Wanted) → Leads words word mark wanted
    → (a : Arc) → leads_along wanted a.phone ≡ false → moves_along words (word ⊚ mark) a ≡ []
unfolding moves_along steps_by select leads_along
nothing-along Words leads a bars = absurd (true≢false bars)
nothing-along (Phone own next) leads a bars =
    let (silent, other) = or_parts (eqb a.phone 0) (eqb a.phone own) bars in
    rw (leads.shut phone-only a.phone, silent, other)
nothing-along Nothing leads a bars = rw (leads.shut nothing-only a.phone, bars)

-- ---- the loop

-- from a place to another nothing leads on
pub record Passing (arcs : List ℕ) (state : ℕ) (wanted : Wanted) (from at : ℕ) : Type 0 where
  pub up : from ≤ at
  pub within : at ≤ length arcs / arc_size
  pub same : (words : List (List ℕ)) (word mark : ℕ) → Leads words word mark wanted
      → moves_from words (word ⊚ mark) arcs state from ≡ moves_from words (word ⊚ mark) arcs state at

module _ {arcs : List ℕ} {state from : ℕ} (after : AfterSources arcs state from) (wanted : Wanted) where
  module _ {at : ℕ} (p : Passing arcs state wanted from at) where
    -- no further arc of the state
    skipped-all : ((words : List (List ℕ)) (q : joining.Mark) → moves_from words q arcs state at ≡ [])
        → Skipped arcs state wanted from (length arcs / arc_size)
    skipped-all none = record {
      up = omega (arith, p.up, p.within);
      within = omega arith;
      own = λ h. absurd (omega arith);
      same = λ words word mark leads.
          p.same words word mark leads ∙ none words (word ⊚ mark)
          ∙ sym (moves-end words (word ⊚ mark) arcs state {at = length arcs / arc_size} (omega arith));
    }

    pub skipped-past : at < length arcs / arc_size → (arcs ! (arc_size * at) ≡ state → ⊥)
        → NextFound arcs state wanted from None
    skipped-past l other =
        record { skipped = skipped-all (λ words q. moves-past arcs at l words q after p.up other); inside = tt }

    pub passing-more : at < length arcs / arc_size → arcs ! (arc_size * at) ≡ state
        → leads_along wanted (arcs ! (arc_size * at + 3)) ≡ false → Passing arcs state wanted from (at + 1)
    passing-more l e bars = record {
      up = omega (arith, p.up);
      within = omega (arith, l);
      same = λ words word mark leads.
          let none =
          nothing-along wanted leads (arc_at arcs at) (ap (leads_along wanted) phone-here ∙ bars) in
          p.same words word mark leads ∙ moves-here arcs at l words (word ⊚ mark) e
          ∙ ap (λ (k : List Move). k ++ moves_from words (word ⊚ mark) arcs state (at + 1)) none;
    }
      where
        phone-here : (arc_at arcs at).phone ≡ arcs ! (arc_size * at + 3)
        phone-here = ap (λ (a : Arc). a.phone) (arc-words-at arcs at)
