-- Laws about looking for an element along its chain. The idea: every place on the chain has the element's head, and
-- the link from it names the latest before it of the same head, so a walk over the keys alone passes no place that has
-- the element; and the words at a place tell whether it stands there.
use Rattle.std.specs.Prelude.{◌≡◌, List, [], map, Option, Bool, true, false, ℕ, suc, ◌+◌, ◌*◌, ◌≤◌, ◌<◌, T, length, take, drop, get_or}
use Rattle.std.proofs.Common.{sym, ap, ◌∙◌, subst, append-nil, mul-suc, mul-le-mul_left, arith}
use Rattle.std.proofs.lemmas.List.{length-map}
use Rattle.definitions.specs.Lists.{◌!◌, records, same}
use Rattle.definitions.proofs.Laws.Lists.Lists.{same_lists, same_self, map_at}
use Rattle.definitions.proofs.Laws.Lists.Members.{in-at, place_of}
use Rattle.definitions.proofs.Laws.Lists.Records.{record-at, written-length, written-records}
use Rattle.growing.specs.Chains.{Code, Coded, Flat, head_of, heads_in, Latest, Linked, Found}
use Rattle.growing.specs.Walks.{key_code, Walkable, Walked}

-- ---- the chains of the elements' keys are those of the elements

module _ {X : Type 0} {code : Code X} {heads : ℕ} {chains : List ℕ} {table : List X}
    (linked : Linked code heads chains table) where
  abbrev keys : List ℕ
  keys = map code.key table

  key-at : (i : ℕ) → i < length table → keys ! i ≡ code.key (get_or table i code.nothing)
  key-at i h = map_at code.key table code.nothing 0 i h

  latest-key : {head end place : ℕ} → end ≤ length table → Latest code heads table head end place
      → Latest key_code heads keys head end place
  latest-key most l = record {
    within = l.within;
    own = λ i e. ap (head_of heads) (key-at i (omega (arith, e, l.within, most))) ∙ l.own i e;
    none_after = λ i h k e. l.none_after i h k (ap (head_of heads) (sym (key-at i (omega (arith, k, most)))) ∙ e);
  }

  many : length keys ≡ length table
  many = length-map table code.key

  keys-linked : Linked key_code heads chains keys
  keys-linked = record {
    sized = linked.sized;
    few = rw many linked.few;
    firsts = λ head h. rw many (latest-key (omega arith) (linked.firsts head h));
    nexts = λ i h.
        let l : i < length table = omega (arith, many, h) in
        rw (key-at i l) (latest-key (omega (arith, l)) (linked.nexts i l));
  }

-- ---- elements that stand in words

-- the words of the element at a place
module _ {X : Type 0} {code : Code X} {table : List X} {words : List ℕ} (flat : Flat code table words)
    {i : ℕ} (h : i < length table) where
  words-within : code.size * i + code.size ≤ length words
  words-within =
      let all : length words ≡ code.size * length table =
      ap length flat.filled ∙ written-length code.words code.size table (λ x j. (flat.coded x j).sized) in
      let most : code.size * suc i ≤ code.size * length table = mul-le-mul_left code.size h in
      omega (arith, all, most, mul-suc code.size i)

  words-at : take code.size (drop (code.size * i) words) ≡ code.words (get_or table i code.nothing)
  words-at =
      let rows = written-records code.words code.size table (λ x j. (flat.coded x j).sized) [] in
      let own : records code.size (length table) words ≡ map code.words table =
      ap (records code.size (length table)) (flat.filled ∙ sym (append-nil _)) ∙ rows in
      sym (record-at code.size (length table) words i h) ∙ ap (λ (l : List (List ℕ)). get_or l i []) own
      ∙ map_at code.words table code.nothing [] i h

-- ---- the search

module _ {X : Type 0} {code : Code X} {table : List X} {words : List ℕ} (flat : Flat code table words)
    {chains : List ℕ} (linked : Linked code (heads_in chains) chains table) where
  -- the words at each place may be looked at
  pub walkable : {asks : ℕ → Type 0} → ((i : ℕ) → code.size * i + code.size ≤ length words → asks i)
      → Walkable asks chains (map code.key table)
  walkable asked = record {
    linked = keys-linked linked;
    asked = λ i h. asked i (words-within flat (omega (arith, many linked, h)));
  }

  -- where a test tells whether they are the words of an element, the walk finds it
  pub found : {x : X} (own : Coded code x) {asks : ℕ → Type 0} {tells : ℕ → Bool → Type 0} {key : ℕ}
      {answer : Option ℕ}
      → ((keys : List ℕ) → Walkable asks chains keys → Walked tells (heads_in chains) keys key answer)
      → key ≡ code.key x → ((i : ℕ) → code.size * i + code.size ≤ length words → asks i)
      → ((i : ℕ) (b : Bool) → tells i b → b ≡ same (take code.size (drop (code.size * i) words)) (code.words x))
      → Found code table x answer
  found {x} own {asks} {tells} {key} {answer} walk is asked told = record {
    none = λ e member.
        let (i, l, here) = place_of x table code.nothing member in
        let failed : false ≡ same (part i) (code.words x) =
        told i false (walked.none e i (omega (arith, many linked, l))
        (ap (head_of (heads_in chains)) (key-at linked i l ∙ ap code.key here ∙ sym is))) in
        subst T (ap (same (part i)) (words-at flat l ∙ ap code.words here) ∙ sym failed) (same_self (part i));
    some = λ place e.
        let (h, holds) = walked.some place e in
        let l : place < length table = omega (arith, many linked, h) in
        let alike : code.words (get_or table place code.nothing) ≡ code.words x =
        sym (words-at flat l)
        ∙ same_lists (part place) (code.words x) (subst T (told place true holds) tt) in (
          l,
          sym (flat.coded (get_or table place code.nothing) (in-at table place code.nothing l)).back
              ∙ ap code.read alike ∙ own.back,
        );
  }
    where
      part : ℕ → List ℕ
      part i = take code.size (drop (code.size * i) words)

      walked : Walked tells (heads_in chains) (map code.key table) key answer
      walked = walk (map code.key table) (walkable asked)
