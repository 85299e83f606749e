-- Laws about the answer of a join, by the outcome: what it leaves in the lent space, and what it promises.
use Rattle.std.specs.Prelude.{◌≡◌, refl, Bool, true, false, List, ℕ, length, T, Result}
use Rattle.std.specs.Result.{is_err}
use Rattle.std.proofs.Common.{sym, ap₂, ◌∙◌, subst}
use Rattle.std.proofs.Math.Path.{ap}
use Rattle.definitions.specs.declared.Counts.{Counts}
use Rattle.definitions.specs.declared.Refusal.{Refusal}
use Rattle.definitions.specs.Faults.{Outcome, answered, refused}
use Rattle.definitions.specs.Lists.{cleared}
use Rattle.definitions.specs.Said.{result_of}
use Rattle.definitions.specs.Growing.{Grown}
use Rattle.definitions.specs.Joining.{Joined, JoinSpace, join, join_left}
use Rattle.definitions.specs.JoinedPaths.{JoinedPaths}
use Rattle.definitions.proofs.Joined.JoinedPaths.{joined-paths}
use Rattle.definitions.specs.WordBooks.{words_in}
use Rattle.definitions.proofs.Laws.Lists.Lists.{clear-length}
use Rattle.definitions.proofs.Laws.Results.{answered-ok}
use Rattle.joining.specs.declared.JoinedCounts.{JoinedCounts}
use Rattle.joining.specs.Beginning.{Cleared}
use Rattle.joining.specs.Answers.{space_of, counts_of, JoinHeld, KeepsPaths}

-- joining into space that was cleared
module _ (counts : Counts) (arcs : List ℕ) (count : ℕ) (words states₀ joined₀ : List ℕ) {states joined : List ℕ}
    (s : states ≡ cleared (length states₀)) (j : joined ≡ cleared (length joined₀)) where
  abbrev space : JoinSpace
  space = space_of states₀ joined₀

  abbrev outcome : Outcome (Grown Joined)
  outcome = join counts arcs count words space

  pub cleared_both : Cleared states × Cleared joined
  cleared_both = (
    s ∙ ap cleared (sym (clear-length states₀ states s)),
    j ∙ ap cleared (sym (clear-length joined₀ joined j)),
  )

  same-space : space_of states joined ≡ space_of states₀ joined₀
  same-space =
      ap₂ (λ (m n : ℕ). record { states = m; arcs = n }) (clear-length states₀ states s)
      (clear-length joined₀ joined j)

  module _ {answer : Result JoinedCounts Refusal} {states' joined' : List ℕ}
      (a : answer ≡ result_of counts_of (join counts arcs count words (space_of states joined)))
      (held : JoinHeld counts arcs count words states joined states' joined') where
    pub join-answer : answer ≡ result_of counts_of (join counts arcs count words (space_of states₀ joined₀))
    join-answer = a ∙ ap (λ room. result_of counts_of (join counts arcs count words room)) same-space

    -- the kind of the answer is the outcome's
    kind : {b : Bool} → is_err answer ≡ b → (o : Outcome (Grown Joined)) → outcome ≡ o
        → is_err (result_of counts_of o) ≡ b
    kind k o e = ap is_err (sym (join-answer ∙ ap (result_of counts_of) e)) ∙ k

    -- an answer leaves the join
    pub join-left : is_err answer ≡ false
        → (states' ≡ (join_left (space_of states₀ joined₀) (join counts arcs count words (space_of states₀ joined₀))).states)
        × (joined' ≡ (join_left (space_of states₀ joined₀) (join counts arcs count words (space_of states₀ joined₀))).arcs)
    unfolding result_of
    join-left k = by outcome refl
      where
        by : (o : Outcome (Grown Joined)) → outcome ≡ o
            → (states' ≡ (join_left space outcome).states) × (joined' ≡ (join_left space outcome).arcs)
        by (answered net) e =
            let (m, n) = held.holds net (ap (join counts arcs count words) same-space ∙ e) in (
              m ∙ ap (λ room. (join_left room (answered net)).states) same-space
                  ∙ ap (λ o. (join_left space o).states) (sym e),
              n ∙ ap (λ room. (join_left room (answered net)).arcs) same-space
                  ∙ ap (λ o. (join_left space o).arcs) (sym e),
            )
        by (refused r) e = absurd (subst T (kind k (refused r) e) tt)

    -- and keeps the path statement
    pub join-paths : is_err answer ≡ false → KeepsPaths counts arcs count words answer joined'
    join-paths k lines other e demand last =
        let got = answered-ok counts_of outcome other (sym join-answer ∙ e) in
        let left = (join-left k).1 ∙ ap (λ o. (join_left space o).arcs) got.was in
        subst (λ (b : List ℕ). JoinedPaths lines (words_in count words) other.arcs b) (sym left)
        (subst (λ (c : JoinedCounts). JoinedPaths lines (words_in count words) c.arcs
        (join_left space (answered got.answer)).arcs) got.said
        (joined-paths counts arcs count words space lines got.answer demand last got.was))

    -- a refusal leaves what was cleared again, and promises no paths
    module _ (k : is_err answer ≡ true) where
      pub none-left : {states'' joined'' : List ℕ} → states'' ≡ cleared (length states')
          → joined'' ≡ cleared (length joined')
          → (states'' ≡ (join_left (space_of states₀ joined₀) (join counts arcs count words (space_of states₀ joined₀))).states)
          × (joined'' ≡ (join_left (space_of states₀ joined₀) (join counts arcs count words (space_of states₀ joined₀))).arcs)
      unfolding result_of join_left
      none-left {states''} {joined''} d f = by outcome refl
        where
          by : (o : Outcome (Grown Joined)) → outcome ≡ o
              → (states'' ≡ (join_left space outcome).states) × (joined'' ≡ (join_left space outcome).arcs)
          by (answered net) e = absurd (subst T (sym (kind k (answered net) e)) tt)
          by (refused r) e = (
            d ∙ ap cleared (held.states_sized ∙ clear-length states₀ states s)
                ∙ ap (λ o. (join_left space o).states) (sym e),
            f ∙ ap cleared (held.joined_sized ∙ clear-length joined₀ joined j)
                ∙ ap (λ o. (join_left space o).arcs) (sym e),
          )

      pub no-paths : (joined'' : List ℕ) → KeepsPaths counts arcs count words answer joined''
      no-paths joined'' lines other e = absurd (subst T (sym k ∙ ap is_err e) tt)
