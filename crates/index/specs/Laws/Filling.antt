-- Laws about filling the index: how bits are set, and what a filled index has. The idea: bits are only ever
-- set, so what was marked stays marked, whatever rows share a word.
use Rattle.std.specs.Prelude.{if◌then◌else◌, ◌≡◌, refl, List, ℕ, zero, suc, ◌+◌, ◌*◌, ◌/◌, ◌%◌, ◌≤◌, ◌<◌, T, leb, ltb, eqb, length, set}
use Rattle.std.proofs.Common.{sym, ◌∙◌, subst, inl, inr, mul-le-mul, arith, length-set, get_or-set_same, get_or-set_other, eqb-true, ltb-true, ltb-false, le-leb}
use Rattle.std.specs.Int.Bits.{bit_or}
use Rattle.std.proofs.Math.Dec.{eqb_refl}
use Rattle.std.proofs.lemmas.Bool.{eqb-false}
use Rattle.definitions.specs.declared.Header.{Header}
use Rattle.definitions.specs.Lists.{◌!◌}
use Rattle.definitions.specs.PhoneSets.{has, alone}
use Rattle.definitions.specs.Combinations.{Combination}
use Rattle.definitions.proofs.Laws.Lists.Tests.{by-test, T-or}
use Rattle.definitions.proofs.Laws.Matrices.PhoneSets.{has-or, has-alone}
use Rattle.definitions.proofs.Laws.Books.AcceptedKnown.{header-ranges}
use Rattle.index.specs.Combinations.{combinations_in, Usable, EndsAt, Ending}
use Rattle.index.specs.RecordWords.{count_in, column_word}
use Rattle.index.specs.Indexing.{ends_size, block_size, blocks_in, row_at, farthest, NearRow, IsSet, IsMarked}
use Rattle.index.specs.Indexing.{MarkedBelow, Indexed, NextMember}
use Rattle.index.specs.Filling.{InRows, Marking, PlaceMarked, PhonesMarked, ColumnsMarked}
use Rattle.index.specs.Filling.{CombinationsMarked, Noted, Filled}
use Rattle.index.specs.Laws.RecordWords.{combinations-length}

-- ---- setting bits

marking-none : (index : List ℕ) → Marking index index
marking-none index = record { sized = refl; before = λ i h. refl; kept = λ i p h. h }

marking-more : {index₀ index index' : List ℕ} → Marking index₀ index → Marking index index'
    → Marking index₀ index'
marking-more m n =
    record {
      sized = n.sized ∙ m.sized;
      before = λ i h. n.before i h ∙ m.before i h;
      kept = λ i p h. n.kept i p (m.kept i p h);
    }

-- what was set stays set
set-stays : {index index' : List ℕ} → Marking index index' → (at place : ℕ) → IsSet index at place
    → IsSet index' at place
set-stays m at place s h = m.kept at place (s (omega (arith, h, m.sized)))

-- no such word
pub place-beyond : (index : List ℕ) (at place : ℕ) → length index ≤ at → PlaceMarked at place index index
place-beyond index at place h =
    record { marking = marking-none index; marked = λ l. absurd (omega (arith, h, l)) }

-- the word with a place more
module _ (index : List ℕ) (at place word : ℕ) (asked : InRows at place) (there : at < length index)
    (e : word ≡ (if leb place 64 then alone place else 0))
  where
    abbrev old : ℕ
    old = index ! at

    abbrev after : List ℕ
    after = set index at (bit_or old word)

    here : (after ! at) ≡ bit_or old word
    here = get_or-set_same index at (bit_or old word) 0 there

    still : (i p : ℕ) → T (has p (index ! i)) → T (has p (after ! i))
    still i p h =
        by-test (eqb i at)
        (λ t.
        let same : i ≡ at = eqb-true i at t in
        subst (λ (j : ℕ). T (has p (after ! j))) (sym same)
        (subst (λ (z : ℕ). T (has p z)) (sym here)
        (subst T (sym (has-or p old word))
        ((T-or (has p old) (has p word)).1 (inl (subst (λ (j : ℕ). T (has p (index ! j))) same h))))))
        (λ t.
        subst (λ (z : ℕ). T (has p z))
        (sym (get_or-set_other index at i (bit_or old word) 0 (eqb-false i at t))) h)

    own : T (has place word)
    own =
        subst (λ (z : ℕ). T (has place z)) (sym (e ∙ rw (le-leb place 64 asked.few)))
        (subst T (sym (has-alone place place (omega (arith, asked.some)))) (eqb_refl place))

    pub place_set : PlaceMarked at place index (set index at (bit_or (index ! at) word))
    place_set =
        record {
          marking = record {
            sized = length-set index at (bit_or old word);
            before = λ i h.
                get_or-set_other index at i (bit_or old word) 0 (λ s. omega (arith, s, h, asked.later));
            kept = still;
          };
          marked = λ h.
              subst (λ (z : ℕ). T (has place z)) (sym here)
              (subst T (sym (has-or place old word)) ((T-or (has place old) (has place word)).1 (inr own)));
        }

-- ---- a combination's bit in the rows of a column's phones

marked-stays : {phones blocks number column s below : ℕ} {index index' : List ℕ} → Marking index index'
    → MarkedBelow phones blocks number column s below index
    → MarkedBelow phones blocks number column s below index'
marked-stays {phones} {blocks} {number} {column} m marked =
    record {
      each = λ p h t.
          set-stays m (row_at phones blocks column p + number / block_size) (number % block_size + 1)
          (marked.each p h t);
    }

-- what the search for the next member passes is no member, and 0 is none
lacked : {s from next p : ℕ} → NextMember s from next → from ≤ p → p < next → T (has p s) → ⊥
lacked {s} {from} {next} {p} n a b t = subst T (n.passed p a b) t

no_zero : (s : ℕ) → T (has 0 s) → ⊥
unfolding has
no_zero s t = t

module _ {phones blocks number column s : ℕ} where
  pub phones-first : (index : List ℕ) → PhonesMarked phones blocks number column s index 1 index
  phones-first index =
      record {
        marking = marking-none index;
        some = omega arith;
        within = omega arith;
        marked = record { each = below };
      }
    where
      below : (p : ℕ) → p < 1 → T (has p s) → IsMarked index (row_at phones blocks column p) number
      below zero h t = absurd (no_zero s t)
      below (suc p) h t = absurd (omega (arith, h))

  module _ {index₀ index : List ℕ} {from : ℕ}
      (m : PhonesMarked phones blocks number column s index₀ from index)
    where
      pub phones-next : {index' : List ℕ} {row place phone : ℕ} → NextMember s from phone → phone ≤ 64
          → row ≡ row_at phones blocks column phone → place ≡ number % block_size + 1
          → PlaceMarked (row + number / block_size) place index index'
          → PhonesMarked phones blocks number column s index₀ (phone + 1) index'
      phones-next {index'} {row} {place} {phone} n few e f more =
          record {
            marking = marking-more m.marking more.marking;
            some = omega arith;
            within = omega (arith, few);
            marked = record { each = below };
          }
        where
          own : (p : ℕ) → p ≡ phone → IsMarked index' (row_at phones blocks column p) number
          own p b =
              subst (λ (q : ℕ). IsMarked index' (row_at phones blocks column q) number) (sym b)
              (subst (λ (q : ℕ). IsMarked index' q number) e
              (λ h.
              subst (λ (q : ℕ). T (has q (index' ! (row + number / block_size)))) f
              (more.marked (omega (arith, h, more.marking.sized)))))

          below : (p : ℕ) → p < phone + 1 → T (has p s) → IsMarked index' (row_at phones blocks column p) number
          below p h t =
              by-test (eqb p phone)
              (λ b. own p (eqb-true p phone b))
              (λ b.
              set-stays more.marking (row_at phones blocks column p + number / block_size)
              (number % block_size + 1)
              (by-test (ltb p from)
              (λ a. m.marked.each p (ltb-true p from a) t)
              (λ a. absurd (lacked n (ltb-false p from a) (omega (arith, h, eqb-false p phone b)) t))))

      pub phones-last : NextMember s from 65 → PhonesMarked phones blocks number column s index₀ 65 index
      phones-last n =
          record {
            marking = m.marking;
            some = omega arith;
            within = omega arith;
            marked = record {
              each = λ p h t.
                  by-test (ltb p from)
                  (λ a. m.marked.each p (ltb-true p from a) t)
                  (λ a. absurd (lacked n (ltb-false p from a) h t));
            };
          }

-- ---- in the rows of its columns, and the bits of all

module _ {header : Header} {blocks number : ℕ} {words : List ℕ} where
  pub columns-none : (index : List ℕ) → ColumnsMarked header blocks words number index 0 index
  columns-none index = record { marking = marking-none index; marked = λ c h. absurd (omega arith) }

  pub columns-more : {index₀ index index' : List ℕ} {column s : ℕ}
      → ColumnsMarked header blocks words number index₀ column index → s ≡ column_word header.half words number column
      → PhonesMarked header.phones blocks number column s index 65 index'
      → ColumnsMarked header blocks words number index₀ (column + 1) index'
  columns-more {index₀} {index} {index'} {column} {s} m is more =
      record {
        marking = marking-more m.marking more.marking;
        marked = λ c h.
            by-test (eqb c column)
            (λ t.
            subst (λ (k : ℕ).
            MarkedBelow header.phones blocks number k (column_word header.half words number k) 65 index')
            (sym (eqb-true c column t))
            (subst (λ (w : ℕ). MarkedBelow header.phones blocks number column w 65 index') is more.marked))
            (λ t. marked-stays more.marking (m.marked c (omega (arith, h, eqb-false c column t))));
      }

  pub columns-all : {index₀ index : List ℕ} {column half : ℕ} → half ≤ column
      → ColumnsMarked header blocks words number index₀ column index
      → ColumnsMarked header blocks words number index₀ half index
  columns-all h m = record { marking = m.marking; marked = λ c l. m.marked c (omega (arith, h, l)) }

pub all_none : (header : Header) (words index : List ℕ) → CombinationsMarked header words index 0 index
all_none header words index =
    record { marking = marking-none index; marks = λ number column h. absurd (omega arith) }

pub all_more : {header : Header} {words index₀ index index' : List ℕ} {number blocks : ℕ}
    → CombinationsMarked header words index₀ number index → blocks ≡ blocks_in header.half words
    → ColumnsMarked header blocks words number index header.half index'
    → CombinationsMarked header words index₀ (number + 1) index'
all_more {header} {words} {index₀} {index} {index'} {number} {blocks} m e more =
    record {
      marking = marking-more m.marking more.marking;
      marks = λ other column h c.
          by-test (eqb other number)
          (λ t.
          subst (λ (k : ℕ).
          MarkedBelow header.phones (blocks_in header.half words) k column
          (column_word header.half words k column) 65 index')
          (sym (eqb-true other number t))
          (subst (λ (b : ℕ).
          MarkedBelow header.phones b number column (column_word header.half words number column) 65 index') e
          (more.marked column c)))
          (λ t. marked-stays more.marking
          (m.marks other column (omega (arith, h, eqb-false other number t)) c));
    }

pub all-marked : {header : Header} {words index₀ index : List ℕ} {number count : ℕ} → count ≤ number
    → CombinationsMarked header words index₀ number index → CombinationsMarked header words index₀ count index
all-marked h m =
    record { marking = m.marking; marks = λ other column l. m.marks other column (omega (arith, h, l)) }

-- ---- where a row begins

-- not too far
pub row_near : {phones blocks column : ℕ} → NearRow phones blocks column → (p : ℕ) → p ≤ 65
    → (column * phones ≤ 128) × ((column * phones + p) * blocks ≤ 197632)
row_near {phones} {blocks} {column} near p h =
    let few : column ≤ 2 = omega (arith, near.left) in
    let first : column * phones ≤ 2 * 64 = mul-le-mul few near.phones_few in
    let further : column * phones + p ≤ 193 = omega (arith, first, h) in
    let all : (column * phones + p) * blocks ≤ 193 * 1024 = mul-le-mul further near.blocks_few in
    (omega (arith, first), omega (arith, all))

-- ---- the ends

pub noted-none : (ends index : List ℕ) → Noted ends index 0 index
noted-none ends index = record { within = omega arith; sized = refl; noted = λ i h. absurd (omega arith) }

pub noted_more : {ends index₀ index : List ℕ} {place word : ℕ} → Noted ends index₀ place index
    → place < ends_size → ends_size ≤ length index₀ → word ≡ ends ! place
    → Noted ends index₀ (place + 1) (set index place word)
noted_more {ends} {index₀} {index} {place} {word} n h room e =
    record {
      within = omega arith;
      sized = length-set index place word ∙ n.sized;
      noted = λ i l.
          by-test (eqb i place)
          (λ t.
          let same : i ≡ place = eqb-true i place t in
          subst (λ (j : ℕ). (set index place word ! j) ≡ (ends ! j)) (sym same)
          (get_or-set_same index place word 0 (omega (arith, h, room, n.sized)) ∙ e))
          (λ t.
          let other : i ≡ place → ⊥ = eqb-false i place t in
          get_or-set_other index place i word 0 other ∙ n.noted i (omega (arith, l, other)));
    }

pub noted-all : {ends index₀ index : List ℕ} {place : ℕ} → Noted ends index₀ place index → ends_size ≤ place
    → Noted ends index₀ ends_size index
noted-all n h =
    record { within = omega arith; sized = n.sized; noted = λ i l. n.noted i (omega (arith, h, l)) }

-- the ends noted, and then all combinations marked
pub filled : {header : Header} {words ends index₀ index index' : List ℕ} → Noted ends index₀ ends_size index
    → CombinationsMarked header words index (count_in header.half words) index'
    → Filled header words ends index₀ index'
filled n m =
    record {
      ends_noted = record {
        within = n.within;
        sized = m.marking.sized ∙ n.sized;
        noted = λ i h. m.marking.before i h ∙ n.noted i h;
      };
      marks = m.marks;
    }

-- ---- the index of a book's combinations

pub indexed : {header : Header} {words ends index₀ index : List ℕ} → Usable header words
    → Ending header words ends → ends_size ≤ length index₀ → length index₀ ≤ farthest
    → Filled header words ends index₀ index
    → Indexed header words index
indexed {header} {words} {ends} {index₀} {index} usable ending room small full =
    let cs : List Combination = combinations_in header words in
    record {
      sized = omega (arith, room, full.ends_noted.sized);
      small = omega (arith, small, full.ends_noted.sized);
      ends_at = λ phone h.
          let at : EndsAt cs ends phone = ending.ends_at phone h in
          let few : phone ≤ 64 =
          omega (arith, h, (header-ranges header usable.header-known).phones_range.high) in
          let e : (index ! phone) ≡ (ends ! phone) = full.ends_noted.noted phone (omega (arith, few)) in
          record {
            within = omega (arith, e, at.within);
            before = λ number l. at.before number (omega (arith, e, l));
            after = λ number l. at.after number (omega (arith, e, l));
          };
      marks = λ number column h.
          full.marks number column (omega (arith, h, combinations-length header words));
    }
