-- Laws about words that hold a growing table, with arcs or one element more: written after the used words, they hold
-- it with these.
use Rattle.std.specs.Prelude.{◌≡◌, refl, List, [], ◌∷◌, ◌++◌, ℕ, suc, ◌+◌, ◌-◌, ◌*◌, ◌/◌, ◌≤◌, ◌<◌}
use Rattle.std.proofs.Common.{sym, ap₂, ◌∙◌, subst, ⊎_elim, mul-suc, mul-le-mul_left, arith}
use Rattle.std.proofs.Math.Path.{ap}
use Rattle.std.proofs.Math.ListN.{length, take, drop, length-append}
use Rattle.std.proofs.lemmas.List.{length-replicate}
use Rattle.std.proofs.Math.Seq.{drop-append-add}
use Rattle.definitions.specs.Lists.{concat_map, cleared, padded, IsIn}
use Rattle.definitions.specs.Arcs.{Arc, arc_size, arc_words}
use Rattle.definitions.specs.Growing.{Grown, Room}
use Rattle.definitions.proofs.Laws.Lists.Lists.{concat_map-append, concat_map-snoc, drop-cleared, padded-take}
use Rattle.definitions.proofs.Laws.Lists.Lists.{padded-length}
use Rattle.definitions.proofs.Laws.Lists.Members.{of-append, of-single, distinct_more}
use Rattle.definitions.proofs.Laws.Networks.Limits.{with_element}
use Rattle.definitions.proofs.Laws.Lists.Records.{flat-length, written-length, arc-sized}
use Rattle.growing.specs.Chains.{Code, Coded, heads_in, Linked, linked_to}
use Rattle.growing.specs.Kept.{Kept}
use Rattle.growing.specs.Laws.Linking.{chained-length, linked-more}

-- ---- words after the used ones

module _ (words used new : List ℕ) (u : words ≡ padded (length words) used)
    (room : length used + length new ≤ length words) where
  abbrev n : ℕ
  n = length used

  abbrev k : ℕ
  k = length new

  left : ℕ
  left = length words - n - k

  front : take n words ≡ used
  front = ap (take n) u ∙ padded-take (length words) n used refl

  rest : drop (n + k) words ≡ cleared left
  unfolding padded left
  rest =
      ap (drop (n + k)) u ∙ drop-append-add used (cleared (length words - n)) k
      ∙ drop-cleared k (length words - n)

  put : take n words ++ new ++ drop (n + k) words ≡ used ++ new ++ cleared left
  put = ap₂ (λ (f r : List ℕ). f ++ new ++ r) front rest

  -- by the number of used words, and with the length of what comes out
  pub put-after : {at : ℕ} {words' : List ℕ} → at ≡ length used
      → words' ≡ take at words ++ new ++ drop (at + length new) words
      → (length words' ≡ length words) × (words' ≡ padded (length words) (used ++ new))
  unfolding padded left
  put-after {at} {words'} e f =
      let there : words' ≡ used ++ new ++ cleared left =
      f ∙ ap (λ (i : ℕ). take i words ++ new ++ drop (i + length new) words) e ∙ put in
      let same : length words - n - k ≡ length words - length (used ++ new) = rw length-append (omega arith) in (
        ap length there ∙ simp (length-append, length-replicate) (omega arith),
        there ∙ ap (λ (i : ℕ). used ++ new ++ cleared i) same,
      )

-- ---- more

-- what has grown, with arcs more
abbrev pub with_arcs : {X : Type 0} → Grown X → List Arc → Grown X
with_arcs net arcs = record { table = net.table; arcs = net.arcs ++ arcs }

module _ {X : Type 0} {code : Code X} {room : Room} {net : Grown X} {table arcs chains : List ℕ}
    (kept : Kept code room net table arcs chains) where
  arcs-words : (l : List Arc) → length (concat_map arc_words l) ≡ arc_size * length l
  unfolding arc_words
  arcs-words = flat-length arc_words arc_size arc-sized

  -- arcs more, as the words come out
  pub kept-arcs : (added : List Arc) {arcs' : List ℕ} → length net.arcs + length added ≤ room.arcs
      → arcs' ≡ padded (length arcs) (concat_map arc_words (net.arcs ++ added))
      → (length arcs' ≡ length arcs) × Kept code room (with_arcs net added) table arcs' chains
  kept-arcs added {arcs'} h f =
      let all : List ℕ = concat_map arc_words (net.arcs ++ added) in
      let few : length all ≤ length arcs =
      omega (arith, arcs-words (net.arcs ++ added), length-append net.arcs added, h, kept.arcs-fit) in
      let size : length arcs' ≡ length arcs = ap length f ∙ padded-length (length arcs) all few in (
        size,
        record {
          table-words = kept.table-words;
          arc-words = f ∙ ap (λ (n : ℕ). padded n all) (sym size);
          table_fits = kept.table_fits;
          arcs-fit = omega (arith, size, kept.arcs-fit);
          table-room = kept.table-room;
          arc-room = rw length-append h;
          link-room = kept.link-room;
          linked = kept.linked;
          once = kept.once;
          coded = kept.coded;
        },
      )

  -- and as they are written after the used ones
  pub put-arcs : (added : List Arc) {new arcs' : List ℕ} → new ≡ concat_map arc_words added
      → length net.arcs + length added ≤ room.arcs
      → arcs' ≡ take (arc_size * length net.arcs) arcs ++ new
      ++ drop (arc_size * length net.arcs + length new) arcs
      → arcs' ≡ padded (length arcs) (concat_map arc_words (net.arcs ++ added))
  put-arcs added {new} {arcs'} e h f =
      let used : List ℕ = concat_map arc_words net.arcs in
      let few : length used + length new ≤ length arcs =
      omega (arith, arcs-words net.arcs, ap length e ∙ arcs-words added, h, kept.arcs-fit) in
      (put-after arcs used new kept.arc-words few (sym (arcs-words net.arcs)) f).1
      ∙ ap (λ (l : List ℕ). padded (length arcs) l)
      (ap (λ (l : List ℕ). used ++ l) e ∙ sym (concat_map-append arc_words net.arcs added))

  elements-words : length (concat_map code.words net.table) ≡ code.size * length net.table
  elements-words = written-length code.words code.size net.table (λ x i. (kept.coded x i).sized)

  pub kept-element : (x : X) {table' chains' : List ℕ} → Coded code x → (IsIn x net.table → ⊥)
      → length net.table < room.table
      → table' ≡ take (code.size * length net.table) table ++ code.words x
      ++ drop (code.size * length net.table + code.size) table
      → chains' ≡ linked_to (heads_in chains) chains (length net.table) (code.key x)
      → (length table' ≡ length table) × Kept code room (with_element net x) table' arcs chains'
  kept-element x {table'} {chains'} told new h f g =
      let used : List ℕ = concat_map code.words net.table in
      let row : List ℕ = code.words x in
      let most : code.size * suc (length net.table) ≤ code.size * room.table = mul-le-mul_left code.size h in
      let few : length used + length row ≤ length table =
      omega (
        arith,
        elements-words,
        told.sized,
        most,
        mul-suc code.size (length net.table),
        kept.table_fits,
      ) in
      let there : table' ≡ take (code.size * length net.table) table ++ row
      ++ drop (code.size * length net.table + length row) table =
      f ∙ ap (λ (i : ℕ). take (code.size * length net.table) table ++ row
      ++ drop (code.size * length net.table + i) table) (sym told.sized) in
      let (size, words) = put-after table used row kept.table-words few (sym elements-words) there in
      let free : length net.table + 1 < heads_in chains = omega (arith, h, kept.link-room) in
      let as_many : length chains ≡ length chains' =
      sym (chained-length kept.linked x free) ∙ ap length (sym g) in
      let more : length (net.table ++ (x ∷ [])) ≡ length net.table + 1 = length-append net.table (x ∷ []) in (
        size,
        record {
          table-words =
              words ∙ ap₂ padded (sym size) (sym (concat_map-snoc code.words net.table x));
          arc-words = kept.arc-words;
          table_fits = omega (arith, size, kept.table_fits);
          arcs-fit = kept.arcs-fit;
          table-room = omega (arith, more, h);
          arc-room = kept.arc-room;
          link-room = omega (arith, as_many, kept.link-room);
          linked =
              subst (λ (k : ℕ). Linked code k chains' (net.table ++ (x ∷ []))) (ap (λ (k : ℕ). k / 2) as_many)
              (subst (λ (l : List ℕ). Linked code (heads_in chains) l (net.table ++ (x ∷ []))) (sym g)
              (linked-more kept.linked x free));
          once = distinct_more net.table x kept.once new;
          coded = λ y i.
              ⊎_elim (kept.coded y) (λ j. subst (Coded code) (sym (of-single x y j)) told)
              (of-append y net.table (x ∷ []) i);
        },
      )
