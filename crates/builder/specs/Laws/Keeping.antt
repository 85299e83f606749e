-- Laws about the tables that a build was lent: they stay where it answers, and are cleared where it is refused.
-- One law for each way that it ends.
use Rattle.std.specs.Prelude.{◌≡◌, List, ℕ, T, true, false, length, Result, Ok}
use Rattle.std.specs.Result.{is_ok, is_err}
use Rattle.std.proofs.Math.Path.{refl}
use Rattle.std.proofs.Common.{sym, ap, subst, ◌∙◌, arith}
use Rattle.definitions.specs.declared.Refusal.{Refusal}
use Rattle.definitions.specs.Lists.{cleared}
use Rattle.definitions.specs.Faults.{Outcome, answered, refused}
use Rattle.definitions.specs.Tables.{Tables, no_tables}
use Rattle.definitions.specs.Growing.{finished, stopped}
use Rattle.definitions.specs.Connecting.{Network, Built}
use Rattle.definitions.specs.Said.{result_of}
use Rattle.tables.specs.Lending.{lent_tables}
use Rattle.network.specs.declared.Totals.{Totals}
use Rattle.network.specs.declared.Build.{Build}
use Rattle.network.specs.declared.Build.TheVariants as build
use Rattle.network.specs.Answers.{totals_of, build_of}
use Rattle.builder.specs.Tables.{tables_kept}

-- a finished answer is of a finished build
pub finished-inverted : (states : ℕ) (outcome : Outcome Built) (totals : Totals)
    → Ok (build.Finished totals) ≡ result_of (build_of states) outcome
    → (turns : ℕ) × (net : Network) × (outcome ≡ answered (finished turns net))
    × (totals ≡ totals_of states turns net)
unfolding result_of
finished-inverted states (answered (finished turns net)) totals e = (turns, net, refl, (cc))
finished-inverted states (answered (stopped turns net)) totals e =
    let z : ◌≡◌ {A = ℕ} 0 1 = cc in absurd (omega arith)
finished-inverted states (refused r) totals e = absurd (subst T (ap is_ok e) tt)

module _ (states : ℕ) (outcome : Outcome Built) (tables : Tables) {answer : Result Build Refusal}
    (e : answer ≡ result_of (build_of states) outcome) where
  pub left-kept : is_err answer ≡ false → tables ≡ tables_kept tables outcome
  unfolding tables_kept result_of
  left-kept k = by outcome refl
    where
      by : (o : Outcome Built) → outcome ≡ o → tables ≡ tables_kept tables outcome
      by (answered built) s = rw s
      by (refused r) s = absurd (subst T (ap is_err (sym (ap (result_of (build_of states)) s) ∙ sym e) ∙ k) tt)

  pub clear-kept : is_err answer ≡ true → (nodes classes roots plains : List ℕ)
      → nodes ≡ cleared (length tables.nodes) → classes ≡ cleared (length tables.classes)
      → roots ≡ cleared (length tables.roots) → plains ≡ cleared (length tables.plains)
      → lent_tables nodes classes roots plains ≡ tables_kept tables outcome
  unfolding tables_kept no_tables result_of
  clear-kept k nodes classes roots plains n c t p = by outcome refl
    where
      by : (o : Outcome Built) → outcome ≡ o → lent_tables nodes classes roots plains ≡ tables_kept tables outcome
      by (answered built) s =
          absurd (subst T (sym (ap is_err (sym (ap (result_of (build_of states)) s) ∙ sym e) ∙ k)) tt)
      by (refused r) s = rw (s, n, c, t, p)
