-- Laws about the rows for a matrix: no follower is missing from them, and the search along them passes none.
-- The idea: where a column of the matrix has one phone alone, a combination that follows has that phone in
-- that column, so its bit is set.
use Rattle.std.specs.Option.{unwrap_or}
use Rattle.std.specs.Prelude.{Option, Some, None, IfSome, if◌then◌else◌, ◌≡◌, refl, List, Bool, true, false, ℕ, ◌+◌, ◌-◌, ◌*◌, ◌/◌, ◌%◌, ◌≤◌, ◌<◌, T, leb, ltb, length, drop}
use Rattle.std.proofs.Common.{sym, ap, ◌∙◌, subst, arith, eqb→eq, get_or-take, ltb-true, ltb-false, leb-true, lt-ltb, le-leb}
use Rattle.std.specs.Int.Bits.{bit_and}
use Rattle.definitions.specs.declared.Header.{Header}
use Rattle.definitions.specs.Lists.{◌!◌}
use Rattle.definitions.specs.PhoneSets.{has, alone, all_phones}
use Rattle.definitions.specs.Matrices.{Matrix, most_columns, matrix_words, meet}
use Rattle.definitions.specs.Combinations.{Combination, combination_size}
use Rattle.definitions.proofs.Laws.Lists.Tests.{by-test, T_and}
use Rattle.definitions.proofs.Laws.Matrices.PhoneSets.{has-and, has-alone, has_all, member-nonzero}
use Rattle.definitions.proofs.Laws.Matrices.Matrices.{valid-columns, meet-has, meet-length}
use Rattle.definitions.specs.Metastates.{numbered}
use Rattle.definitions.specs.Searching.{NoneFrom}
use Rattle.definitions.proofs.Laws.Lists.Searching.{none_more, none_found, none-all}
use Rattle.definitions.proofs.Laws.Matrices.SevenWords.{words_take}
use Rattle.matrix.specs.Shapes.{width_of, matrix_in}
use Rattle.matrix.specs.Laws.Widths.{width-taken}
use Rattle.matrix.specs.Laws.Words.{seven_at}
use Rattle.index.specs.declared.rows.Rows.{Rows}
use Rattle.index.specs.Combinations.{combinations_in}
use Rattle.index.specs.RecordWords.{record_of, column_word}
use Rattle.index.specs.Following.{follows_at, Beyond, FollowerFound}
use Rattle.index.specs.Indexing.{block_size, blocks_in, row_at, farthest, IsMarked, NextMember}
use Rattle.index.specs.Rows.{Admits, Admitting, Near, AllSet, AllMarked, HasAllSet, NextMarked, MarkedFound}
use Rattle.index.specs.Seeking.{Seeking}
use Rattle.index.specs.Laws.RecordWords.{matrix-word}
use Rattle.index.specs.Laws.Followers.{narrow}

-- ---- the row for a column

-- the one member of a phone alone; a number that is no phone has none
only : (p phone : ℕ) → 1 ≤ phone → T (has p (if leb phone 64 then alone phone else 0))
    → (p ≡ phone) × (phone ≤ 64)
only p phone some h =
    by-test (leb phone 64)
    (λ t.
    let one : T (has p (alone phone)) = subst (λ (b : Bool). T (has p (if b then alone phone else 0))) t h in
    (eqb→eq p phone (subst T (has-alone p phone (omega arith)) one), leb-true phone 64 t))
    (λ t. absurd (member-nonzero p 0
    (subst (λ (b : Bool). T (has p (if b then alone phone else 0))) t h) refl))

module _ {header : Header} {words index columns : List ℕ} (s : Seeking header words index columns) where
  abbrev cs : List Combination
  cs = combinations_in header words

  abbrev shifted : Matrix
  shifted = matrix_in header.half columns

  abbrev width : ℕ
  width = width_of header.half

  thin : width ≤ most_columns
  thin = omega (arith, narrow s.usable)

  -- no row: all bits count as set
  pub no_row : Admits shifted cs index (length index)
  no_row = record { near = s.indexed.small; marked = λ number h f l. absurd (omega (arith, l)) }

  module _ (number : ℕ) (h : number < length cs) where
    abbrev own : Matrix
    own = (numbered cs number).carried

    own_is : (c : ℕ) → c < width → (own ! c) ≡ column_word header.half words number c
    own_is c l =
        ap (λ (m : List ℕ). m ! c) (sym (words_take own (s.usable.each number h).width))
        ∙ get_or-take width (matrix_words own) c 0 l
        ∙ ap (λ (m : List ℕ). m ! c) (sym (matrix-word header words s.usable number h))
        ∙ sym (seven_at (drop 4 (record_of (combination_size header.half) words number)) c (omega (arith, l, thin)))

    -- a follower and the matrix have a phone in common in each column
    common : (c : ℕ) → c < width → follows_at shifted cs number ≡ true
        → (p : ℕ) × T (has p (columns ! c)) × T (has p (column_word header.half words number c))
    common c l follows =
        let long : length (meet shifted own) ≡ width =
        meet-length shifted own (width-taken thin s.shaped ∙ sym (s.usable.each number h).width)
        ∙ width-taken thin s.shaped in
        let (p, t) =
        (valid-columns (meet shifted own)).0 (subst T (sym follows) tt) c (omega (arith, l, long)) in
        let (a, b) = (T_and (has p (shifted ! c)) (has p (own ! c))).0
        (subst T (meet-has p shifted own c) t) in (
          p,
          subst (λ (z : ℕ). T (has p z)) (get_or-take width columns c 0 l) a,
          subst (λ (z : ℕ). T (has p z)) (own_is c l) b,
        )

  -- the row of the phone that a column has alone
  pub row-admits : {column phone one row blocks : ℕ} → column < header.half → 1 ≤ phone
      → one ≡ (if leb phone 64 then alone phone else 0) → columns ! column ≡ one
      → blocks ≡ blocks_in header.half words
      → row ≡ row_at header.phones blocks column phone → row ≤ farthest → Admits shifted cs index row
  row-admits {column} {phone} {one} {row} {blocks} left some e f b r near =
      record {
        near = near;
        marked = λ number h follows.
            let (p, mine, theirs) = common number h column (omega (arith, left)) follows in
            let (same, few) = only p phone some (subst (λ (z : ℕ). T (has p z)) (f ∙ e) mine) in
            let at : row_at header.phones (blocks_in header.half words) column p ≡ row =
            ap (λ (q : ℕ). row_at header.phones (blocks_in header.half words) column q) same
            ∙ ap (λ (k : ℕ). row_at header.phones k column phone) (sym b) ∙ sym r in
            subst (λ (q : ℕ). IsMarked index q number) at
            ((s.indexed.marks number column h left).each p (omega (arith, same, few)) theirs);
      }

-- ---- the words of a block

pub all_set : (p : ℕ) → 1 ≤ p → p ≤ 64 → T (has p 18446744073709551615)
unfolding all_phones
all_set p a b =
    subst T (sym (has_all p 64))
    ((T_and (ltb 0 p) (leb p 64)).1 (rw (lt-ltb 0 p (omega arith)) tt, rw (le-leb p 64 b) tt))

pub in_all : (p a b c : ℕ) → T (has p a) → T (has p b) → T (has p c) → T (has p (bit_and (bit_and a b) c))
in_all p a b c h k l =
    subst T (sym (has-and p (bit_and a b) c))
    ((T_and (has p (bit_and a b)) (has p c)).1
    (subst T (sym (has-and p a b)) ((T_and (has p a) (has p b)).1 (h, k)), l))

-- ---- the search

pub admitting-near : {shifted : Matrix} {cs : List Combination} {index : List ℕ} {rows : Rows}
    → Admitting shifted cs index rows → Near rows
admitting-near a = record { first = a.first.near; second = a.second.near; third = a.third.near }

pub marked_start : {index : List ℕ} {rows : Rows} {from count : ℕ} → from ≤ count
    → NextMarked index rows from count from
marked_start h = record { after = omega arith; within = h; passed = λ i a b. absurd (omega arith) }

module _ {index : List ℕ} {rows : Rows} {from count number : ℕ} (m : NextMarked index rows from count number)
    {block place next word : ℕ} (e : block ≡ number / block_size) (f : place ≡ number % block_size + 1)
    (has-marked : HasAllSet index rows block word) (n : NextMember word place next)
  where
    -- none of the block from the number on up to the next member
    unmarked : (i : ℕ) → number ≤ i → i < block_size * block + next - 1 → AllMarked index rows i → ⊥
    unmarked i a b all =
        let same : i / block_size ≡ block = omega (arith, a, b, e, f, n.within) in
        let lacks : has (i % block_size + 1) word ≡ false =
        n.passed (i % block_size + 1) (omega (arith, a, b, e, f, n.within))
        (omega (arith, a, b, e, f, n.within)) in
        subst T lacks
        (has-marked (i % block_size + 1) (omega arith) (omega arith)
        (subst (λ (k : ℕ). AllSet index rows k (i % block_size + 1)) same all))

    pub marked_next : (other : ℕ) → other ≤ count → number ≤ other → other ≤ block_size * block + next - 1
        → NextMarked index rows from count other
    marked_next other inside later near =
        record {
          after = omega (arith, m.after, later);
          within = inside;
          passed = λ i a b.
              by-test (ltb i number)
              (λ t. m.passed i a (ltb-true i number t))
              (λ t. unmarked i (ltb-false i number t) (omega (arith, b, near)));
        }

-- none that the search passes follows
pub marked-none : {shifted : Matrix} {cs : List Combination} {index : List ℕ} {rows : Rows}
    {from count next : ℕ}
    → Admitting shifted cs index rows → count ≡ length cs → NextMarked index rows from count next
    → NoneFrom (follows_at shifted cs) (length cs) from next
marked-none {shifted} {cs} a e n =
    record {
      after = n.after;
      within = omega (arith, n.within, e);
      passed = λ i h l.
          by-test (follows_at shifted cs i)
          (λ t.
          let inside : i < length cs = omega (arith, n.within, e, l) in
          absurd (n.passed i h l (record {
            first = a.first.marked i inside t;
            second = a.second.marked i inside t;
            third = a.third.marked i inside t;
          })))
          (λ t. t);
    }

-- the next to try, if there is one: none before it follows
pub record Ahead (shifted : Matrix) (cs : List Combination) (from : ℕ) (next : Option ℕ) : Type 0 where
  pub none : NoneFrom (follows_at shifted cs) (length cs) from (unwrap_or next (length cs))
  pub some : IfSome next (λ n. n < length cs)

pub ahead-marked : {shifted : Matrix} {cs : List Combination} {index : List ℕ} {rows : Rows}
    {from count : ℕ} {next : Option ℕ}
    → Admitting shifted cs index rows → count ≡ length cs → MarkedFound index rows from count next
    → Ahead shifted cs from next
ahead-marked {shifted} {cs} {from = from} {next = next} a e m =
    record {
      none =
          subst (λ (k : ℕ). NoneFrom (follows_at shifted cs) (length cs) from (unwrap_or next k)) e
          (marked-none a e m.next);
      some = subst (λ (k : ℕ). IfSome next (λ n. n < k)) e m.some;
    }

module _ {shifted : Matrix} {cs : List Combination} {from number : ℕ} {next : Option ℕ}
    (e : next ≡ Some number) (h : Ahead shifted cs from next)
  where
    here : Ahead shifted cs from (Some number)
    here = subst (λ (n : Option ℕ). Ahead shifted cs from n) e h

    pub ahead-listed : number < length cs
    ahead-listed = here.some

    pub ahead-found : follows_at shifted cs number ≡ true → FollowerFound shifted cs from (Some number)
    ahead-found f = record { next = none_found here.none f; some = here.some }

    pub ahead-more : {past : ℕ} {other : Option ℕ} → Beyond shifted cs number past
        → Ahead shifted cs past other → Ahead shifted cs from other
    ahead-more b later =
        record { none = none_more (none_more here.none b.1) later.none; some = later.some }

pub ahead-none : {shifted : Matrix} {cs : List Combination} {from : ℕ} {next : Option ℕ}
    → next ≡ None → Ahead shifted cs from next → FollowerFound shifted cs from None
ahead-none {shifted} {cs} {from} e h =
    let none = subst (λ (n : Option ℕ). Ahead shifted cs from n) e h in
    record { next = none-all none.none (omega arith); some = tt }
