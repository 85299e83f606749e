-- What the library's `all` and `any` over a slice answer, in the words of the definitions. `k` says of one call of the
-- closure that it is the test: `λ x b q k. search (rules, tests)` finds it.
use Rattle.std.specs.Prelude.{◌≡◌, refl, Option, List, [], ◌∷◌, Bool, true, false, ◌&&◌, ◌||◌}
use Rattle.std.specs.Fn.{Called}
use Rattle.std.specs.Iterator.{YieldsThen}
use Rattle.std.specs.List.{FoldsTo, list_all, list_any}
use Rattle.std.specs.Option.{MatchOption}
use Rattle.std.specs.Slice.Iter.{iter_rest}
use Rattle.std.specs.declared.slice.Iter.{Iter}
use Rattle.std.proofs.Common.{ap, sym, ◌∙◌}
use Rattle.std.proofs.iter.Yields.{fronts}
use Rattle.std.proofs.lemmas.Iterator.{YieldsList-from_slice}
use Rattle.std.proofs.lemmas.Iterator.Search.{all_from_yields_List, any_from_yields_List}
use denote.Param.Members.{Mut}
use denote.Ref.{Bor}
use Rattle.definitions.specs.Lists.{every, at_least_one}

module _ {A : Type 0} (test : A → Bool) where
  pub every_is : (l : List A) → every test l ≡ list_all test l
  unfolding every
  every_is [] = refl
  every_is (x ∷ l) = ap (λ rest. test x && rest) (every_is l)

  pub at-least-one_is : (l : List A) → at_least_one test l ≡ list_any test l
  unfolding at_least_one
  at-least-one_is [] = refl
  at-least-one_is (x ∷ l) = ap (λ rest. test x || rest) (at-least-one_is l)

  module _ {F : Type 0} {g : Mut F (Bor A × Unit {0}) Bool} {s : Iter A} {l : List A} (u : Iter A) (f : F) (r : Bool)
    where
      pub every-by_all : (xs : List (Bor A)) × (o : Option (Bor A)) × (j : F) × YieldsThen fronts s xs o u
          × FoldsTo (λ p x q. Called g p (x, tt) true q) f xs j
          × MatchOption o (r ≡ true) (λ x. (r ≡ false) × ((h : F) × Called g j (x, tt) false h))
          → iter_rest s ≡ l → ((x : Bor A) (b : Bool) (q : F) → Called g f (x, tt) b q → (q ≡ f) × (b ≡ test x.now))
          → r ≡ every test l
      every-by_all ran e k =
          all_from_yields_List test u f r ran (YieldsList-from_slice l e) k ∙ sym (every_is l)

      pub some-by_any : (xs : List (Bor A)) × (o : Option (Bor A)) × (j : F) × YieldsThen fronts s xs o u
          × FoldsTo (λ p x q. Called g p (x, tt) false q) f xs j
          × MatchOption o (r ≡ false) (λ x. (r ≡ true) × ((h : F) × Called g j (x, tt) true h))
          → iter_rest s ≡ l → ((x : Bor A) (b : Bool) (q : F) → Called g f (x, tt) b q → (q ≡ f) × (b ≡ test x.now))
          → r ≡ at_least_one test l
      some-by_any ran e k =
          any_from_yields_List test u f r ran (YieldsList-from_slice l e) k ∙ sym (at-least-one_is l)
