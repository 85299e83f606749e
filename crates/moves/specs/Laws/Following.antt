-- Laws about all moves along an arc from a mark, by what is wanted there.
use Rattle.std.specs.Prelude.{◌≡◌, ℕ}
use Rattle.std.proofs.Common.{sym, ◌∙◌, subst}
use Rattle.std.proofs.Math.Path.{ap}
use mathlib.Core.List.{List, [], ◌∷◌, map}
use borrow.Author.Tests.{eq-eqb, ne_eqb}
use Rattle.definitions.specs.Joining.{◌⊚◌, step, steps, move_by, moves_along}
use Rattle.marks.specs.Wanting.{mark_of, steps_by, Leads}
use Rattle.marks.specs.declared.Mark.{Mark}
use Rattle.marks.specs.declared.Wanted.{Wanted}
use Rattle.marks.specs.declared.Wanted.TheVariants.{Phone, Nothing}
use Rattle.moves.specs.Skipping.{leads_along}
use Rattle.moves.specs.Laws.Skipping.{phone-only, nothing-along}
use Rattle.moves.specs.declared.Hop.{Hop}
use Rattle.moves.specs.Moving.{hop_arc, allowed}

module _ {words : List (List ℕ)} {word mark : ℕ} {wanted : Wanted} (leads : Leads words word mark wanted) (hop : Hop)
  where
    -- an arc without phone keeps the mark
    pub along-silent : hop.arc.phone ≡ 0
        → allowed (move_by (hop_arc hop) (step 0 (word ⊚ mark)) ∷ []) ≡ moves_along words (word ⊚ mark) (hop_arc hop)
    unfolding moves_along steps
    along-silent e = rw (eq-eqb hop.arc.phone 0 e)

    -- the phone that is wanted leads on
    pub along-wanted : {own : ℕ} {next : Mark} → wanted ≡ Phone own next → (hop.arc.phone ≡ 0 → ⊥) → own ≡ hop.arc.phone
        → allowed (move_by (hop_arc hop) (step 0 (mark_of next)) ∷ []) ≡ moves_along words (word ⊚ mark) (hop_arc hop)
    unfolding moves_along steps_by
    along-wanted {own} {next} is n e =
        let those : Leads words word mark (Phone own next) = subst (Leads words word mark) is leads in
        let one : steps words (word ⊚ mark) hop.arc.phone ≡ step 0 (mark_of next) ∷ [] =
        those.shut phone-only hop.arc.phone
        ∙ rw (ne_eqb hop.arc.phone 0 n, eq-eqb hop.arc.phone own (sym e)) in
        ap (λ l. allowed (map (move_by (hop_arc hop)) l)) (sym one)

    -- and no other phone
    pub along-other : {own : ℕ} {next : Mark} → wanted ≡ Phone own next → (hop.arc.phone ≡ 0 → ⊥)
        → (own ≡ hop.arc.phone → ⊥) → moves_along words (word ⊚ mark) (hop_arc hop) ≡ []
    unfolding leads_along
    along-other {own} is n m =
        nothing-along wanted leads (hop_arc hop)
        (rw (is, ne_eqb hop.arc.phone 0 n, ne_eqb hop.arc.phone own (λ e. m (sym e))))

    pub along-none : wanted ≡ Nothing → (hop.arc.phone ≡ 0 → ⊥) → moves_along words (word ⊚ mark) (hop_arc hop) ≡ []
    unfolding leads_along
    along-none is n = nothing-along wanted leads (hop_arc hop) (rw (is, ne_eqb hop.arc.phone 0 n))
