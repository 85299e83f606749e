-- Laws about the R lines of a written book: phone by phone, each phone's roots or none of them, they pass the
-- test for R lines that are left out. The idea: from phone to phone, what is left out ends at the start of a
-- phone. The laws about the texts of books use them.
use Rattle.std.specs.Prelude.{◌≡◌, ◌⊎◌, ◌≢◌, ◌&&◌, leb}
use Rattle.std.proofs.Math.Path.{refl, ap, ap₂, subst}
use Rattle.std.proofs.Common.{sym, ◌∙◌, inl, inr, ⊎_elim, arith, lt→ltb, leb-true, leb-false, ne_eqb, eq-eqb, ext_get_or}
use mathlib.Core.List.{List, [], ◌∷◌, ◌++◌, map, map-append}
use Rattle.std.proofs.Math.Bool.{Bool}
use Prim.Native.Nat.{ℕ, zero, suc, ◌+◌, ◌-◌, ◌*◌, ◌/◌, ◌%◌, ◌≤◌, ◌<◌}
use Rattle.std.proofs.Math.Nat.{suc-mul}
use Rattle.std.proofs.Math.Dec.{T, ltb, eqb}
use Rattle.std.proofs.Math.ListN.{length}
use Rattle.definitions.specs.Lists.{◌!◌, up_from, every}
use Rattle.definitions.specs.BookLines.{Root, root_place, next_place, no_root}
use Rattle.definitions.specs.BookReading.{left_out}
use Rattle.definitions.specs.BookText.{roots_listed}
use Rattle.definitions.proofs.Laws.Lists.Tests.{T_and, T-or, eq→eqb, by-test}
use Rattle.definitions.proofs.Laws.Lists.Members.{of-up_from, every_in}
use Rattle.definitions.proofs.Laws.Lists.Lists.{up_from-parts, map-up_from-length, map-up_from-at}
use Rattle.definitions.proofs.Laws.Books.ListedRoots.{listed-parts}
use Rattle.definitions.proofs.Laws.Books.LeftOut.{Spot, spot-phone, spot-state, Gap, left_out_lem}

-- from a place on, roots each of which may follow, and the place after the last of them
abbrev pub Follows : (states : ℕ) → (edge : ℕ → Bool) → (from : ℕ) → List Root → Type 0
Follows states edge from [] = Unit {0}
Follows states edge from (r ∷ roots) =
    T (left_out edge states from (root_place states r.phone r.state))
    × Follows states edge (suc (root_place states r.phone r.state)) roots

abbrev pub ends_at : (states from : ℕ) → List Root → ℕ
ends_at states from [] = from
ends_at states from (r ∷ roots) = ends_at states (suc (root_place states r.phone r.state)) roots

pub ends_next : (states : ℕ) (roots : List Root) → next_place states roots ≡ ends_at states 0 roots
unfolding next_place
ends_next states [] = refl
ends_next states (r ∷ []) = refl
ends_next states (r ∷ s ∷ roots) = ends_next states (s ∷ roots)

follows-parts : (states : ℕ) (edge : ℕ → Bool) (from : ℕ) (k l : List Root)
    → Follows states edge from k → Follows states edge (ends_at states from k) l
    → Follows states edge from (k ++ l)
follows-parts states edge from [] l f g = g
follows-parts states edge from (r ∷ k) l f g = (f.0, follows-parts states edge (suc (root_place states r.phone r.state)) k l f.1 g)

ends-parts : (states from : ℕ) (k l : List Root)
    → ends_at states from (k ++ l) ≡ ends_at states (ends_at states from k) l
ends-parts states from [] l = refl
ends-parts states from (r ∷ k) l = ends-parts states (suc (root_place states r.phone r.state)) k l

-- words by their places
words-again : (words : List ℕ) → map (λ n. words ! n) (up_from 0 (length words)) ≡ words
words-again words =
    ext_get_or 0 (map (λ n. words ! n) (up_from 0 (length words))) words
    (map-up_from-length (λ n. words ! n) 0 (length words)) (λ i h.
    map-up_from-at (λ n. words ! n) 0 (length words) i i
    (omega (arith, h, map-up_from-length (λ n. words ! n) 0 (length words))) (omega arith))

-- ---- what passes as left out

module _ (states : ℕ) (edge : ℕ → Bool) where
  left-same : (from to : ℕ) → from ≡ to → T (left_out edge states from to)
  unfolding left_out
  left-same from to e = (T-or (eqb from to) _).1 (inl (eq→eqb from to e))

  gap-left : (from to : ℕ) → Gap states edge from to → T (left_out edge states from to)
  unfolding left_out
  gap-left from to g =
      let phones : List ℕ = up_from (from / states + 1) (to / states - from / states) in
      let less : Bool = ltb from to in
      let begins : Bool = eqb (from % states) 0 in
      let ends : Bool = eqb (to % states) 0 in
      let all : T (every edge phones) =
      every_in edge phones (λ phone i.
      let (low, high) = of-up_from (from / states + 1) (to / states - from / states) phone i in
      g.between phone (omega (arith, low)) (omega (arith, low, high))) in
      (T-or (eqb from to) _).1 (inr ((T_and (less && begins && ends) (every edge phones)).1 (
        (T_and (less && begins) ends).1
            ((T_and less begins).1 (lt→ltb from to g.less, eq→eqb _ 0 g.from_whole), eq→eqb _ 0 g.to_whole),
        all,
      )))

  module _ (low : 1 ≤ states) where
    start : (phone : ℕ) → 1 ≤ phone → Spot states phone 1
    start phone p = record { phone_low = p; state_low = omega arith; state_high = low }

    -- a phone's start and the next one's
    start-more : (phone : ℕ) → 1 ≤ phone → root_place states (suc phone) 1 ≡ root_place states phone 1 + states
    start-more phone p =
        let one : suc phone - 1 ≡ suc (phone - 1) = omega (arith, p) in
        let all : (suc phone - 1) * states ≡ (phone - 1) * states + states =
        ap (λ (n : ℕ). n * states) one ∙ suc-mul (phone - 1) states in
        omega (arith, all)

    -- one boundary phone more is left out
    left-more : (from phone : ℕ) → 1 ≤ phone → T (left_out edge states from (root_place states phone 1))
        → T (edge phone) → T (left_out edge states from (root_place states (suc phone) 1))
    left-more from phone p t own-edge =
        gap-left from (root_place states (suc phone) 1) (⊎_elim here over (left_out_lem states edge from _ t))
      where
        at_next : root_place states (suc phone) 1 / states ≡ phone
        at_next = spot-phone (start (suc phone) (omega arith)) ∙ omega arith

        here : from ≡ root_place states phone 1 → Gap states edge from (root_place states (suc phone) 1)
        here e =
            let own : from / states ≡ phone - 1 =
            ap (λ (n : ℕ). n / states) e ∙ spot-phone (start phone p) in
            record {
              less = omega (arith, e, start-more phone p, low);
              from_whole = ap (λ (n : ℕ). n % states) e ∙ spot-state (start phone p);
              to_whole = spot-state (start (suc phone) (omega arith));
              between = λ x above below.
                  subst (λ n. T (edge n)) {x = phone} {y = x}
                  (omega (arith, above, below, at_next, own, p)) own-edge;
            }

        over : Gap states edge from (root_place states phone 1)
            → Gap states edge from (root_place states (suc phone) 1)
        over g = record {
          less = omega (arith, g.less, start-more phone p);
          from_whole = g.from_whole;
          to_whole = spot-state (start (suc phone) (omega arith));
          between = λ x above below.
              by-test (leb x (phone - 1))
              (λ e. g.between x above (omega (arith, leb-true x (phone - 1) e, spot-phone (start phone p))))
              (λ e. subst (λ n. T (edge n)) {x = phone} {y = x}
              (omega (arith, leb-false x (phone - 1) e, below, at_next)) own-edge);
        }

    -- ---- the roots of a phone, and of all phones

    module _ (roots : List ℕ) where
      abbrev root_at : (phone state : ℕ) → Root
      root_at phone state = record { phone = phone; state = state; node = roots ! root_place states phone state }

      -- states one after the other, from one that may follow
      run : (phone state count from : ℕ) → 1 ≤ state
          → T (left_out edge states from (root_place states phone state))
          → Follows states edge from (map (root_at phone) (up_from state (suc count)))
          × (ends_at states from (map (root_at phone) (up_from state (suc count)))
          ≡ root_place states phone (state + suc count))
      unfolding up_from
      run phone state zero from s t = ((t, tt), omega arith)
      run phone state (suc count) from s t =
          let next : suc (root_place states phone state) ≡ root_place states phone (suc state) = omega (arith, s) in
          let (follow, ends) = run phone (suc state) count (suc (root_place states phone state)) (omega arith)
          (left-same _ _ next) in (
            (t, follow),
            ends ∙ ap (λ (n : ℕ). root_place states phone n) {x = suc state + suc count}
                {y = state + suc (suc count)} (omega arith),
          )

      -- ---- words that are listed

      abbrev words_from : (at count : ℕ) → List ℕ
      words_from at count = map (λ n. roots ! n) (up_from at count)

      -- states one after the other, whose roots are all given
      given-run : (phone state count : ℕ) → 1 ≤ phone → 1 ≤ state → state + count ≤ suc states
          → ((n : ℕ) → state ≤ n → n < state + count → roots ! root_place states phone n ≢ no_root)
          → roots_listed states (root_place states phone state) (words_from (root_place states phone state) count)
          ≡ map (root_at phone) (up_from state count)
      unfolding roots_listed up_from
      given-run phone state zero p s S given = refl
      given-run phone state (suc count) p s S given =
          let at : ℕ = root_place states phone state in
          let here : Spot states phone state =
          record { phone_low = p; state_low = s; state_high = omega (arith, S) } in
          let next : suc at ≡ root_place states phone (suc state) = omega (arith, s) in
          let same-phone : at / states + 1 ≡ phone = omega (arith, spot-phone here, p) in
          let same-state : at % states + 1 ≡ state = omega (arith, spot-state here, s) in
          let more = given-run phone (suc state) count p (omega arith) (omega (arith, S))
          (λ n low high. given n (omega (arith, low)) (omega (arith, high))) in
          rw (ne_eqb (roots ! at) no_root (given state (omega arith) (omega arith)))
          (ap₂ (λ (r : Root) (l : List Root). r ∷ l)
          (ap₂ (λ (a b : ℕ). record { phone = a; state = b; node = roots ! at }) same-phone same-state)
          (ap (λ (n : ℕ). roots_listed states n (words_from n count)) next ∙ more))

      -- words that are all left out
      left-run : (at count : ℕ) → ((n : ℕ) → at ≤ n → n < at + count → roots ! n ≡ no_root)
          → roots_listed states at (words_from at count) ≡ []
      unfolding roots_listed up_from
      left-run at zero left = refl
      left-run at (suc count) left =
          rw (eq-eqb (roots ! at) no_root (left at (omega arith) (omega arith)))
          (left-run (suc at) count (λ n low high. left n (omega (arith, low)) (omega (arith, high))))

      -- the roots of a phone are all given, or it may be left out and none is given
      abbrev pub WholePhone : (phone : ℕ) → Type 0
      WholePhone phone =
          ((state : ℕ) → 1 ≤ state → state ≤ states → roots ! root_place states phone state ≢ no_root)
          ⊎ (T (edge phone)
          × ((state : ℕ) → 1 ≤ state → state ≤ states → roots ! root_place states phone state ≡ no_root))

      -- from a place on: the roots of words follow, and what is left out then ends at another place
      abbrev Onward : (from to : ℕ) → List Root → Type 0
      Onward from to l = Follows states edge from l × T (left_out edge states (ends_at states from l) to)

      phone-on : (phone from : ℕ) → 1 ≤ phone → T (left_out edge states from (root_place states phone 1))
          → WholePhone phone
          → Onward from (root_place states (suc phone) 1)
          (roots_listed states (root_place states phone 1) (words_from (root_place states phone 1) states))
      phone-on phone from p t whole = ⊎_elim all none whole
        where
          to : ℕ
          to = root_place states (suc phone) 1

          words : List Root
          words = roots_listed states (root_place states phone 1) (words_from (root_place states phone 1) states)

          run_on : (count : ℕ) → suc count ≡ states → Onward from to (map (root_at phone) (up_from 1 states))
          run_on count e =
              subst (λ n. Onward from to (map (root_at phone) (up_from 1 n))) e
              (let (follow, ends) = run phone 1 count from (omega arith) t in
              (follow, left-same _ _ (ends ∙ omega (arith, e, start-more phone p))))

          all : ((state : ℕ) → 1 ≤ state → state ≤ states → roots ! root_place states phone state ≢ no_root)
              → Onward from to words
          all given =
              subst (Onward from to)
              (sym (given-run phone 1 states p (omega arith) (omega arith)
              (λ n first last. given n first (omega (arith, last)))))
              (run_on (states - 1) (omega (arith, low)))

          none : T (edge phone)
              × ((state : ℕ) → 1 ≤ state → state ≤ states → roots ! root_place states phone state ≡ no_root)
              → Onward from to words
          none (own-edge, left) =
              let at : ℕ = root_place states phone 1 in
              subst (Onward from to)
              (sym (left-run at states (λ n first last.
              let same : root_place states phone (suc (n - at)) ≡ n = omega (arith, first) in
              ap (λ (k : ℕ). roots ! k) (sym same) ∙ left (suc (n - at)) (omega arith) (omega (arith, last)))))
              (tt, left-more from phone p t own-edge)

      -- phone by phone
      phones-on : (phone count from : ℕ) → 1 ≤ phone → T (left_out edge states from (root_place states phone 1))
          → ((p : ℕ) → phone ≤ p → p < phone + count → WholePhone p)
          → Onward from (root_place states (phone + count) 1)
          (roots_listed states (root_place states phone 1) (words_from (root_place states phone 1) (count * states)))
      unfolding roots_listed up_from
      phones-on phone zero from p t whole =
          let at : ℕ = root_place states phone 1 in
          subst (λ n. Onward from (root_place states (phone + 0) 1) (roots_listed states at (words_from at n)))
          {x = 0} {y = 0 * states} (omega arith) (
            tt,
            subst (λ n. T (left_out edge states from (root_place states n 1))) {x = phone} {y = phone + 0}
                (omega arith) t,
          )
      phones-on phone (suc count) from p t whole =
          let at : ℕ = root_place states phone 1 in
          let next : ℕ = root_place states (suc phone) 1 in
          let to : ℕ = root_place states (phone + suc count) 1 in
          let own : List Root = roots_listed states at (words_from at states) in
          let others : List Root = roots_listed states next (words_from next (count * states)) in
          let (first, on) = phone-on phone from p t (whole phone (omega arith) (omega arith)) in
          let (rest, end) = phones-on (suc phone) count (ends_at states from own) (omega arith) on
          (λ q above below. whole q (omega (arith, above)) (omega (arith, below))) in
          let end_same : root_place states (suc phone + count) 1 ≡ to =
          ap (λ (n : ℕ). root_place states n 1) {x = suc phone + count} {y = phone + suc count} (omega arith) in
          subst (Onward from to) (sym (words-parts at next (start-more phone p) count)) (
            follows-parts states edge from own others first rest,
            subst (λ n. T (left_out edge states n to)) (sym (ends-parts states from own others))
                (subst (λ n. T (left_out edge states (ends_at states (ends_at states from own) others) n)) end_same end),
          )
        where
          words-parts : (at next : ℕ) → next ≡ at + states → (count : ℕ)
              → roots_listed states at (words_from at (suc count * states))
              ≡ roots_listed states at (words_from at states)
              ++ roots_listed states next (words_from next (count * states))
          words-parts at next e count =
              let many : suc count * states ≡ states + count * states = omega (arith, suc-mul count states) in
              let parts : words_from at (states + count * states)
              ≡ words_from at states ++ words_from (at + states) (count * states) =
              ap (map (λ n. roots ! n)) (up_from-parts at states (count * states))
              ∙ map-append (λ n. roots ! n) (up_from at states) (up_from (at + states) (count * states)) in
              let sized = map-up_from-length (λ n. roots ! n) at states in
              ap (λ (n : ℕ). roots_listed states at (words_from at n)) many ∙ ap (roots_listed states at) parts
              ∙ listed-parts states at (words_from at states) (words_from (at + states) (count * states))
              ∙ ap₂ (λ (n m : ℕ). roots_listed states at (words_from at states)
              ++ roots_listed states n (words_from m (count * states))) {x = at + length (words_from at states)}
              {y = next} {u = at + states} {v = next} (omega (arith, sized, e)) (sym e)

      -- all phones of a book, from its first place to its last
      module _ (phones : ℕ) (sized : length roots ≡ phones * states)
          (whole : (phone : ℕ) → 1 ≤ phone → phone ≤ phones → WholePhone phone)
        where
          all-on : Onward 0 (root_place states (1 + phones) 1) (roots_listed states 0 roots)
          all-on =
              let words : words_from 0 (phones * states) ≡ roots =
              ap (words_from 0) (sym sized) ∙ words-again roots in
              subst (λ l. Onward 0 (root_place states (1 + phones) 1) (roots_listed states 0 l)) words
              (subst (λ n. Onward 0 (root_place states (1 + phones) 1)
              (roots_listed states n (words_from n (phones * states)))) {x = root_place states 1 1} {y = 0} (omega arith)
              (phones-on 1 phones 0 (omega arith) (left-same 0 (root_place states 1 1) (omega arith))
              (λ p above below. whole p above (omega (arith, below)))))

          -- so the roots listed follow, and the text may end after them
          pub written-follow : Follows states edge 0 (roots_listed states 0 roots)
          written-follow = all-on.0

          pub written-end : T (left_out edge states (ends_at states 0 (roots_listed states 0 roots)) (phones * states))
          written-end =
              let one : 1 + phones - 1 ≡ phones = omega arith in
              let all : (1 + phones - 1) * states ≡ phones * states = ap (λ (n : ℕ). n * states) one in
              subst (λ n. T (left_out edge states (ends_at states 0 (roots_listed states 0 roots)) n))
              {x = root_place states (1 + phones) 1} (omega (arith, all)) all-on.1
