-- Laws about the build as a whole, one for each answer of the code: combinations connected in lent space,
-- which is cleared where there is no room, and the build from tables, refused by combining or left to
-- connecting.
use Rattle.std.proofs.Math.Path.{◌≡◌, refl, sym, ap}
use Rattle.std.proofs.Common.{ap₂, ◌∙◌, subst, leb→le, lit<}
use mathlib.Core.List.{List, [], ◌∷◌}
use Rattle.std.specs.Prelude.{ℕ, ◌*◌, ◌≤◌, T, take, true, false, is_err, Result, Ok, Err}
use native.Mathlib.Omega.{arith}
use Rattle.std.proofs.Math.Dec.{leb}
use Rattle.std.proofs.Math.ListN.{length}
use Rattle.definitions.specs.declared.Header.{Header}
use Rattle.definitions.specs.declared.Refusal.{Refusal}
use Rattle.definitions.specs.declared.Fault.TheVariants.{Foreign, Choices}
use Rattle.definitions.specs.Faults.{Outcome, answered, refused, Test, ◌unless◌, and_then}
use Rattle.definitions.specs.Lists.{concat_map, cleared, padded}
use Rattle.definitions.specs.Tables.{Book, Tables, tables_book, book_in, tables_contents}
use Rattle.definitions.specs.ForeignTables.{tables_known}
use Rattle.definitions.specs.Combinations.{Combination, combinations, combination_size, combination_words}
use Rattle.definitions.specs.Combinations.{combination_room, combine, combination_space}
use Rattle.definitions.specs.Arcs.{arc_words}
use Rattle.definitions.specs.Metastates.{metastate_words}
use Rattle.definitions.specs.Connecting.{rules_of, Network, Built, connect}
use Rattle.definitions.specs.Building.{Space, room_in, build, network_in, buffers_of, no_buffers, buffers_left}
use Rattle.definitions.specs.Said.{result_of}
use Rattle.definitions.proofs.Laws.Results.{answered-ok, refused-err}
use Rattle.definitions.proofs.Laws.Text.Judging.{passes_at, judge-answered}
use Rattle.definitions.proofs.Laws.Lists.Records.{records-within}
use Rattle.definitions.proofs.Laws.Lists.Lists.{padded-length, padded-take, clear-length, clear-itself}
use Rattle.tables.specs.Lending.{lent_tables}
use Rattle.combinations.specs.declared.ByPhone.{ByPhone}
use Rattle.combinations.specs.Answers.{ends_of, by_phone}
use Rattle.index.specs.Combinations.{combinations_in, nodes_book, Modelled}
use Rattle.metastates.specs.Networks.{room_of}
use Rattle.metastates.specs.Outcomes.{connected_in}
use Rattle.network.specs.declared.Build.{Build}
use Rattle.network.specs.Answers.{build_of, lent_space, lent_buffers}
use Rattle.network.specs.Workspace.{Ready}
use Rattle.network.specs.Connected.{Connected, BuiltIn}
use Rattle.network.specs.Laws.Nodes.{connect-nodes}
use Rattle.network.specs.Laws.UsableCombinations.{combinations-length, combinations-back}
use Rattle.network.specs.Laws.UsableCombinations.{combinations-usable, combinations-modelled}
use Rattle.network.specs.Laws.UsableCombinations.{combinations-ending}

-- ---- lent buffers

buffers-equal : {combinations combinations₁ metastates metastates₁ arcs arcs₁ : List ℕ}
    → combinations ≡ combinations₁ → metastates ≡ metastates₁ → arcs ≡ arcs₁
    → lent_buffers combinations metastates arcs ≡ lent_buffers combinations₁ metastates₁ arcs₁
buffers-equal e f g = λ i. record { combinations = e i; metastates = f i; arcs = g i }

-- ---- connecting in lent space

-- of outcomes that are equal, what is left of one is left of the other
pub connected-as : {header : Header} {metastates arcs : List ℕ} {outcome own : Outcome Built} {answer : Result Build Refusal}
    {metastates₁ arcs₁ : List ℕ} → Connected header metastates arcs outcome answer metastates₁ arcs₁
    → outcome ≡ own → Connected header metastates arcs own answer metastates₁ arcs₁
connected-as {header} {metastates} {arcs} {answer = answer} {metastates₁} {arcs₁} c e =
    subst (λ (o : Outcome Built). Connected header metastates arcs o answer metastates₁ arcs₁) e c

module _ {header : Header} {metastates arcs : List ℕ} {outcome : Outcome Built} {answer : Result Build Refusal}
    {metastates₁ arcs₁ : List ℕ} (c : Connected header metastates arcs outcome answer metastates₁ arcs₁) where
  -- all stays
  pub answered-returns : {combinations : List ℕ} → is_err answer ≡ false
      → BuiltIn header combinations metastates arcs outcome answer combinations metastates₁ arcs₁
  unfolding result_of
  answered-returns e =
      let never : ((r : Refusal) → outcome ≡ refused r → ⊥) =
      λ r k. subst T (sym (ap is_err (c.answers ∙ ap (result_of (build_of header.states)) k)) ∙ e) tt in
      record {
        answers = c.answers;
        kept = λ built k. refl;
        metastate-words = c.metastate-words;
        arc-words = c.arc-words;
        combinations-cleared = λ r k. absurd (never r k);
        metastates-cleared = λ r k. absurd (never r k);
        arcs-cleared = λ r k. absurd (never r k);
      }

  -- all is cleared again
  pub refused-returns : {combinations combinations₂ metastates₂ arcs₂ : List ℕ} → is_err answer ≡ true
      → combinations₂ ≡ cleared (length combinations) → metastates₂ ≡ cleared (length metastates₁)
      → arcs₂ ≡ cleared (length arcs₁)
      → BuiltIn header combinations metastates arcs outcome answer combinations₂ metastates₂ arcs₂
  unfolding result_of
  refused-returns e f g h =
      let never : ((built : Built) → outcome ≡ answered built → ⊥) =
      λ built k. subst T (sym e ∙ ap is_err (c.answers ∙ ap (result_of (build_of header.states)) k)) tt in
      record {
        answers = c.answers;
        kept = λ built k. absurd (never built k);
        metastate-words = λ built k. absurd (never built k);
        arc-words = λ built k. absurd (never built k);
        combinations-cleared = λ r k. f;
        metastates-cleared = λ r k. g ∙ ap cleared c.metastates-sized;
        arcs-cleared = λ r k. h ∙ ap cleared c.arcs-sized;
      }

-- ---- the build

module _ (header : Header) (nodes classes roots plains space : List ℕ) where
  abbrev tables : Tables
  tables = lent_tables nodes classes roots plains

  abbrev book : Book
  book = tables_book header tables

  abbrev found : List Combination
  found = combinations book

  abbrev words : List ℕ
  words = concat_map (combination_words header.half) found

  abbrev combining : Outcome (List Combination)
  combining = combine header tables (length space)

  -- where combining answers how many combinations there are, and of which phones
  record Counted (by : ByPhone) : Type 0 where
    known : T (tables_known header tables)
    room : length found ≤ combination_room header.half (length space)
    is : by ≡ by_phone book found
    found_is : combining ≡ answered found

  module _ {answer : Result ByPhone Refusal} (e : answer ≡ result_of (by_phone book) combining) where
    counted : (by : ByPhone) → answer ≡ Ok by → Counted by
    unfolding combine result_of
    counted by k =
        let a = answered-ok (by_phone book) combining by (sym e ∙ k) in
        let tests : List Test =
        Foreign unless tables_known header tables
        ∷ Choices unless leb (length found) (combination_room header.half (length space))
        ∷ [] in
        let (passed, same) = judge-answered 0 tests (answered found) a.answer a.was in
        let all : combining ≡ answered found = a.was ∙ sym same in
        let own : Ok by ≡ Ok (by_phone book found) = sym k ∙ e ∙ ap (result_of (by_phone book)) all in
        record {
          known = passes_at tests passed 0 (lit< tt);
          room =
              leb→le (length found) (combination_room header.half (length space))
              (passes_at tests passed 1 (lit< tt));
          is = cc;
          found_is = all;
        }

  module _ (metastates arcs : List ℕ) {metastates₁ arcs₁ : List ℕ}
      (m : metastates₁ ≡ cleared (length metastates)) (a : arcs₁ ≡ cleared (length arcs)) where
    abbrev lent : Space
    lent = lent_space space metastates arcs

    abbrev building : (limit : ℕ) → Outcome Built
    building limit = build header tables lent limit

    -- what it answers
    abbrev Answers : (limit : ℕ) → Result Build Refusal → Type 0
    Answers limit answer = answer ≡ result_of (build_of header.states) (building limit)

    -- what combining answered and left
    module _ {answer : Result ByPhone Refusal} {space₁ : List ℕ}
        (e : answer ≡ result_of (by_phone book) combining)
        (g : space₁ ≡ combination_space header.half (length space) combining) where
      module _ (by : ByPhone) (k : answer ≡ Ok by) where
        abbrev count : ℕ
        count = by.count

        c : Counted by
        c = counted e by k

        count-is : count ≡ length found
        count-is = ap (λ (z : ByPhone). z.count) c.is

        words-length : length words ≡ combination_size header.half * count
        words-length =
            combinations-length header nodes classes roots plains c.known
            ∙ ap (λ (n : ℕ). combination_size header.half * n) (sym count-is)

        within : length words ≤ length space
        unfolding combination_room
        within =
            omega (
              arith,
              records-within (combination_size header.half) (length found) {space = length space}
                  (omega (arith, c.room)),
              combinations-length header nodes classes roots plains c.known,
            )

        few : length found ≤ 65535
        unfolding combination_room
        few = omega (arith, c.room)

        space-is : space₁ ≡ padded (length space) words
        unfolding combination_space
        space-is = g ∙ ap (combination_space header.half (length space)) c.found_is

        space-length : length space₁ ≡ length space
        space-length = ap length space-is ∙ padded-length (length space) words within

        used : take (combination_size header.half * count) space₁ ≡ words
        used =
            ap (take (combination_size header.half * count)) space-is
            ∙ padded-take (length space) _ words (sym words-length)

        ends-are : by.ends ≡ padded 65 (ends_of book)
        ends-are = ap (λ (z : ByPhone). z.ends) c.is

        -- so connecting may go on
        pub connect-ready : (combination_size header.half * count ≤ length space₁)
            × Ready header nodes (take (combination_size header.half * count) space₁) by.ends metastates₁ arcs₁
        connect-ready = (
          omega (arith, space-length, words-length, within),
          record {
            connectable = record {
              usable = rw used (combinations-usable header nodes classes roots plains c.known few);
              modelled =
                  subst (Modelled header nodes) (sym used)
                  (combinations-modelled header nodes classes roots plains c.known);
            };
            ending = rw (used, ends-are) (combinations-ending header nodes classes roots plains c.known);
            metastates_clear = clear-itself metastates metastates₁ m;
            arcs_clear = clear-itself arcs arcs₁ a;
          },
        )

        room-is : room_of header.half metastates₁ arcs₁ ≡ room_in header.half lent
        unfolding room_in
        room-is = rw (clear-length metastates metastates₁ m, clear-length arcs arcs₁ a)

        found_back : combinations_in header (take (combination_size header.half * count) space₁) ≡ found
        found_back =
            ap (combinations_in header) used ∙ combinations-back header nodes classes roots plains c.known

        -- and the build is what it connects
        module _ (limit : ℕ) where
          abbrev connected : Outcome Built
          connected =
              connected_in header nodes (take (combination_size header.half * count) space₁) metastates₁ arcs₁ limit

          built-is : building limit ≡ connected
          unfolding build and_then
          built-is =
              ap (λ o. and_then o (λ cs. connect (rules_of book cs) (room_in header.half lent) limit)) c.found_is
              ∙ connect-nodes header nodes classes roots plains found (room_in header.half lent) limit
              ∙ sym
              (ap₂ (λ cs room. connect (rules_of (nodes_book header nodes) cs) room limit) found_back room-is)

          module _ {own : Result Build Refusal} {space₂ metastates₂ arcs₂ : List ℕ}
              (b : BuiltIn header space₁ metastates₁ arcs₁ connected own space₂ metastates₂ arcs₂)
            where
              left : (o : Outcome Built) → connected ≡ o
                  → lent_buffers space₂ metastates₂ arcs₂ ≡ buffers_left book lent o
              unfolding buffers_left buffers_of no_buffers tables_book book_in tables_contents
              left (answered built) q =
                  let net : Network = network_in built in
                  buffers-equal (b.kept built q ∙ space-is)
                  (b.metastate-words built q
                  ∙ ap (λ (n : ℕ). padded n (concat_map (metastate_words header.half) net.table))
                  (clear-length metastates metastates₁ m))
                  (b.arc-words built q
                  ∙ ap (λ (n : ℕ). padded n (concat_map arc_words net.arcs)) (clear-length arcs arcs₁ a))
              left (refused r) q =
                  buffers-equal (b.combinations-cleared r q ∙ ap cleared space-length)
                  (b.metastates-cleared r q ∙ ap cleared (clear-length metastates metastates₁ m))
                  (b.arcs-cleared r q ∙ ap cleared (clear-length arcs arcs₁ a))

              pub connect-returns : Answers limit own
                  × (lent_buffers space₂ metastates₂ arcs₂ ≡ buffers_left book lent (building limit))
              connect-returns = (
                b.answers ∙ ap (result_of (build_of header.states)) (sym built-is),
                left connected refl ∙ ap (buffers_left book lent) (sym built-is),
              )

      -- what combining refuses, the build refuses
      pub combine-returns : (limit : ℕ) (r : Refusal) → answer ≡ Err r
          → Answers limit (Err r)
          × (lent_buffers space₁ metastates₁ arcs₁ ≡ buffers_left book lent (building limit))
      unfolding build and_then result_of buffers_left no_buffers combination_space
      combine-returns limit r k =
          let refuses : combining ≡ refused r = refused-err (by_phone book) combining r (sym e ∙ k) in
          let none : building limit ≡ refused r =
          ap (λ o. and_then o (λ cs. connect (rules_of book cs) (room_in header.half lent) limit)) refuses in (
            sym (ap (result_of (build_of header.states)) none),
            buffers-equal (g ∙ ap (combination_space header.half (length space)) refuses) m a
                ∙ sym (ap (buffers_left book lent) none),
          )
