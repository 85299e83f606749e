-- Laws about the followers from a combination on: those that the search passes give none, and the one that it
-- finds gives the first. And about each step of the search, over the words of the combinations and of a
-- matrix: where the matrix's centre lacks the phone of a combination, the two do not meet validly.
use Rattle.std.specs.Prelude.{◌≡◌, List, [], ◌∷◌, Bool, true, false, ℕ, zero, suc, ◌+◌, ◌-◌, ◌≤◌, ◌<◌, T, ltb, eqb, length, take, drop}
use Rattle.std.proofs.Common.{sym, ap, ◌∙◌, subst, arith, drop_of_length-le, drop-cons, get_or-take, ltb-true, ltb-false, eqb-true}
use Rattle.std.proofs.lemmas.Bool.{eqb-false}
use Rattle.definitions.specs.declared.Header.{Header}
use Rattle.definitions.specs.Lists.{◌!◌}
use Rattle.definitions.specs.PhoneSets.{has}
use Rattle.definitions.specs.Matrices.{Matrix, most_columns, matrix_words, valid, meet}
use Rattle.definitions.specs.Meeting.{met_words}
use Rattle.definitions.specs.Combinations.{Combination}
use Rattle.definitions.specs.Metastates.{Metastate, no_combination, followers_from, numbered}
use Rattle.definitions.proofs.Laws.Lists.Tests.{T_and, by-test}
use Rattle.definitions.proofs.Laws.Matrices.Matrices.{meet-has, meet-length, valid-columns}
use Rattle.definitions.specs.Searching.{NoneFrom}
use Rattle.definitions.proofs.Laws.Lists.Searching.{none-one}
use Rattle.definitions.proofs.Laws.Books.AcceptedKnown.{header-ranges}
use Rattle.matrix.specs.Shapes.{width_of, matrix_in, HasWidth}
use Rattle.matrix.specs.Laws.Meeting.{met-test, met-whole}
use Rattle.matrix.specs.Laws.Widths.{width-taken, met-matrix, met-width}
use Rattle.index.specs.Combinations.{combinations_in, IsCombination, Usable, EndsAt}
use Rattle.index.specs.RecordWords.{phone_word, own_columns}
use Rattle.index.specs.Indexing.{Indexed, NextMember}
use Rattle.index.specs.Following.{follows_at, Beyond, NextFollower}
use Rattle.index.specs.Laws.RecordWords.{phone-word, matrix-word}

-- ---- the followers from a combination on

module _ (shifted : Matrix) (cs : List Combination) where
  abbrev pub followers_at : (number : ℕ) → List Metastate
  followers_at number = followers_from shifted number (drop number cs)

  -- the metastate that a combination gives
  abbrev pub met_at : (number : ℕ) → Metastate
  met_at number = record { number = number; carried = meet shifted (numbered cs number).carried }

  follower-passed : (number : ℕ) → number < length cs
      → follows_at shifted cs number ≡ false → followers_at number ≡ followers_at (suc number)
  unfolding followers_from
  follower-passed number h e = rw (drop-cons cs number no_combination h, e)

  followers-passed : (gap from number : ℕ) → from + gap ≡ number
      → NoneFrom (follows_at shifted cs) (length cs) from number → followers_at from ≡ followers_at number
  followers-passed zero from number e none = ap followers_at {x = from} {y = number} (omega arith)
  followers-passed (suc gap) from number e none =
      follower-passed from (omega (arith, none.within)) (none.passed from (omega arith) (omega arith))
      ∙ followers-passed gap (suc from) number (omega arith) (record {
        after = omega arith;
        within = none.within;
        passed = λ i h k. none.passed i (omega arith) k;
      })

  pub followers-skip : {from number : ℕ} → NextFollower shifted cs from number
      → followers_at from ≡ followers_at number
  followers-skip {from} {number} next =
      followers-passed (number - from) from number (omega (arith, next.none.after)) next.none

  pub followers-found : (number : ℕ) → (number < length cs → follows_at shifted cs number ≡ true)
      → number < length cs → followers_at number ≡ met_at number ∷ followers_at (suc number)
  unfolding followers_from
  followers-found number found h = rw (drop-cons cs number no_combination h, found h)

  pub followers-out : (number : ℕ) → length cs ≤ number → followers_at number ≡ []
  unfolding followers_from
  followers-out number h = rw (drop_of_length-le cs {i = number} h)

-- ---- one step of the search

-- a combination whose phone the centre lacks
lacks : (header : Header) (c : Combination) (m : Matrix) → IsCombination header c
    → length m ≡ width_of header.half → has c.phone (m ! header.half) ≡ false
    → valid (meet m c.carried) ≡ false
lacks header c m choice e missing =
    by-test (valid (meet m c.carried)) (λ t. absurd (never (rw t tt))) (λ t. t)
  where
    never : T (valid (meet m c.carried)) → ⊥
    never v =
        let wide : length (meet m c.carried) ≡ length m =
        meet-length m c.carried (e ∙ sym choice.width) in
        let (p, t) = (valid-columns (meet m c.carried)).0 v header.half (omega arith) in
        let (there, own) =
        (T_and (has p (m ! header.half)) (has p (c.carried ! header.half))).0
        (subst T (meet-has p m c.carried header.half) t) in
        let same : p ≡ c.phone = choice.centre p own in
        subst T (ap (λ (q : ℕ). has q (m ! header.half)) same ∙ missing) there

pub narrow : {header : Header} {words : List ℕ} → Usable header words → header.half ≤ 3
narrow {header} usable = (header-ranges header usable.header-known).half_range.high

-- seven words of a matrix, and combinations in words
module _ {header : Header} {words columns : List ℕ} (usable : Usable header words)
    (e : HasWidth (width_of header.half) columns) where
  abbrev shifted : Matrix
  shifted = matrix_in header.half columns

  abbrev cs : List Combination
  cs = combinations_in header words

  thin : width_of header.half ≤ most_columns
  thin = omega (arith, narrow usable)

  -- ---- one combination

  module _ {number : ℕ} (h : number < length cs) where
    abbrev own : Matrix
    own = (numbered cs number).carried

    pub not-following : {phone place : ℕ} → phone ≡ phone_word header.half words number → place ≡ header.half
        → has phone (columns ! place) ≡ false → follows_at shifted cs number ≡ false
    not-following p q missing =
        let centre : shifted ! header.half ≡ columns ! header.half =
        get_or-take (width_of header.half) columns header.half 0 (omega arith) in
        lacks header (numbered cs number) shifted (usable.each number h) (width-taken thin e)
        (rw (centre, ← p ∙ phone-word header words usable number h, ← q) missing)

    -- the words of its matrix, and the meeting with them
    module _ {record-columns : List ℕ} (r : record-columns ≡ own_columns header.half words number) where
      own-words : record-columns ≡ matrix_words own
      own-words = r ∙ matrix-word header words usable number h

      pub following-valid : {answer : Bool} {width : ℕ} → width ≡ width_of header.half
          → answer ≡ valid (meet (take width columns) (take width record-columns))
          → answer ≡ follows_at shifted cs number
      following-valid w = met-test columns own (usable.each number h).width own-words w

      module _ (follows : follows_at shifted cs number ≡ true) {width : ℕ} (w : width ≡ width_of header.half)
          {met : List ℕ} (m : met ≡ met_words (take width columns) (take width record-columns)) where
        met-own : met ≡ matrix_words (meet shifted own)
        met-own = met-whole columns own (usable.each number h).width own-words w follows m

        pub follower-matrix : matrix_in header.half met ≡ meet shifted own
        follower-matrix = met-matrix thin e own (usable.each number h).width met-own

        pub follower-width : HasWidth (width_of header.half) met
        follower-width = met-width thin e own (usable.each number h).width met-own

  -- ---- where to look next

  pub beyond-one : {number : ℕ} → number < length cs → follows_at shifted cs number ≡ false
      → Beyond shifted cs number (number + 1)
  beyond-one h invalid = (omega arith, none-one h invalid)

  -- where the centre lacks the phone of a combination and those after it, up to one: none follows before that
  -- one's combinations
  module _ {index : List ℕ} (ix : Indexed header words index) {number : ℕ} (h : number < length cs)
      {phone place next : ℕ} (p : phone ≡ phone_word header.half words number) (q : place ≡ header.half)
      (missing : has phone (columns ! place) ≡ false) (n : NextMember (columns ! place) (phone + 1) next)
    where
      its-phone : phone ≡ (numbered cs number).phone
      its-phone = p ∙ phone-word header words usable number h

      -- phones do not descend
      above : (i : ℕ) → number ≤ i → i < length cs → phone ≤ (numbered cs i).phone
      above i a l =
          let least : 1 ≤ phone = omega (arith, its-phone, (usable.each number h).phone) in
          let few : phone - 1 ≤ header.phones = omega (arith, its-phone, (usable.each number h).phones) in
          let at : EndsAt cs index (phone - 1) = ix.ends_at (phone - 1) few in
          by-test (ltb number (index ! (phone - 1)))
          (λ t.
          let low = at.before number (ltb-true number (index ! (phone - 1)) t) in
          absurd (omega (arith, low, its-phone, least)))
          (λ t.
          omega (
            arith,
            at.after i (omega (arith, ltb-false number (index ! (phone - 1)) t, a)) l,
            least,
          ))

      -- a phone from the combination's own on, below the next member
      not_there : (i : ℕ) → number ≤ i → i < length cs → (numbered cs i).phone < next
          → follows_at shifted cs i ≡ false
      not_there i a l below =
          let from : phone ≤ (numbered cs i).phone = above i a l in
          let lacked : has (numbered cs i).phone (columns ! place) ≡ false =
          by-test (eqb (numbered cs i).phone phone)
          (λ t. ap (λ (k : ℕ). has k (columns ! place)) (eqb-true (numbered cs i).phone phone t) ∙ missing)
          (λ t.
          n.passed (numbered cs i).phone
          (omega (arith, from, eqb-false (numbered cs i).phone phone t)) below) in
          not-following l (sym (phone-word header words usable i l)) q lacked

      -- no phone is left
      pub beyond-all : header.phones < next → Beyond shifted cs number (length cs)
      beyond-all last = (
        h,
        record {
          after = omega (arith, h);
          within = omega arith;
          passed = λ i a b. not_there i a b (omega (arith, (usable.each i b).phones, last));
        },
      )

      -- the combinations of the next member
      pub beyond-phones : {end : ℕ} → next ≤ header.phones → end ≡ index ! (next - 1)
          → Beyond shifted cs number end
      beyond-phones {end} listed e =
          let at : EndsAt cs index (next - 1) = ix.ends_at (next - 1) (omega (arith, listed)) in
          let within : end ≤ length cs = omega (arith, e, at.within) in
          let later : number < end =
          by-test (ltb number end) (ltb-true number end)
          (λ t.
          absurd (omega (
            arith,
            at.after number (omega (arith, ltb-false number end t, e)) h,
            its-phone,
            n.after,
          ))) in (
            later,
            record {
              after = omega (arith, later);
              within = within;
              passed = λ i a b.
                  not_there i a (omega (arith, b, within))
                  (omega (arith, at.before i (omega (arith, b, e)), n.after));
            },
          )
