-- Laws about words that hold a growing table: read back, it is the same; the words of an element; and cleared words
-- hold an empty one.
use Rattle.std.specs.Prelude.{◌≡◌, take, drop}
use Rattle.std.proofs.Math.Path.{sym, ap}
use Rattle.std.proofs.Common.{◌∙◌, subst, mul-le-mul_left, arith}
use mathlib.Core.List.{List, [], map}
use Prim.Native.Nat.{ℕ, ◌-◌, ◌*◌, ◌≤◌, ◌<◌}
use Rattle.std.proofs.Math.ListN.{length, get_or}
use Rattle.std.proofs.lemmas.List.{length-replicate}
use Rattle.definitions.specs.Lists.{concat_map, records, cleared, padded, IsIn}
use Rattle.definitions.specs.Arcs.{arc_size, arcs_in}
use Rattle.definitions.specs.Growing.{Grown, Room}
use Rattle.definitions.proofs.Laws.Lists.Lists.{padded-none, padded-take, map_at}
use Rattle.definitions.proofs.Laws.Lists.Members.{map_back}
use Rattle.definitions.proofs.Laws.Lists.Records.{record-at, written-length, written-records, written_all}
use Rattle.definitions.proofs.Laws.Lists.Records.{arcs-read}
use Rattle.growing.specs.Chains.{Code, Coded, elements_of, elements_in, Flat, heads_in, Linked}
use Rattle.growing.specs.Kept.{grown_held, Kept}
use Rattle.growing.specs.Laws.Linking.{no-chains}

-- ---- elements

module _ {X : Type 0} (code : Code X) (xs : List X) (coded : (x : X) → IsIn x xs → Coded code x) where
  elements-back : map code.read (map code.words xs) ≡ xs
  elements-back = map_back code.words code.read xs (λ x i. (coded x i).back)

  -- those at the front of words
  elements-read : (size : ℕ) → elements_of code (length xs) (padded size (concat_map code.words xs)) ≡ xs
  unfolding padded
  elements-read size =
      ap (map code.read) (written-records code.words code.size xs (λ x i. (coded x i).sized)
      (cleared (size - length (concat_map code.words xs))))
      ∙ elements-back

  -- those in words that hold nothing else
  elements-all : 0 < code.size → elements_in code (concat_map code.words xs) ≡ xs
  elements-all some =
      ap (map code.read) (written_all code.words code.size xs (λ x i. (coded x i).sized) some)
      ∙ elements-back

-- ---- what has grown

module _ {X : Type 0} {code : Code X} {room : Room} {net : Grown X} {table arcs chains : List ℕ}
    (kept : Kept code room net table arcs chains) where
  grown-equal : (k l : Grown X) → k.table ≡ l.table → k.arcs ≡ l.arcs → k ≡ l
  grown-equal k l e f = λ i. record { table = e i; arcs = f i }

  pub kept_back : grown_held code (length net.table) (length net.arcs) table arcs ≡ net
  kept_back =
      grown-equal (grown_held code (length net.table) (length net.arcs) table arcs) net
      (ap (elements_of code (length net.table)) kept.table-words
      ∙ elements-read code net.table kept.coded (length table))
      (ap (arcs_in (length net.arcs)) kept.arc-words ∙ arcs-read (length arcs) net.arcs)

  -- the used words
  elements-words : length (concat_map code.words net.table) ≡ code.size * length net.table
  elements-words = written-length code.words code.size net.table (λ x i. (kept.coded x i).sized)

  pub used-within : code.size * length net.table ≤ length table
  used-within =
      let most = mul-le-mul_left code.size kept.table-room in omega (arith, most, kept.table_fits)

  used-words : take (code.size * length net.table) table ≡ concat_map code.words net.table
  used-words =
      ap (take (code.size * length net.table)) kept.table-words
      ∙ padded-take (length table) (code.size * length net.table) (concat_map code.words net.table)
      (sym elements-words)

  pub used-flat : Flat code net.table (take (code.size * length net.table) table)
  used-flat = record { filled = used-words; coded = kept.coded }

  -- read back as elements
  pub used-elements : 0 < code.size → elements_in code (take (code.size * length net.table) table) ≡ net.table
  used-elements some = ap (elements_in code) used-words ∙ elements-all code net.table kept.coded some

  -- the words of the element at a place
  pub kept-words : {i : ℕ} → i < length net.table
      → take code.size (drop (code.size * i) table) ≡ code.words (get_or net.table i code.nothing)
  unfolding padded
  kept-words {i} h =
      let rest : List ℕ = cleared (length table - length (concat_map code.words net.table)) in
      let rows : records code.size (length net.table) table ≡ map code.words net.table =
      ap (records code.size (length net.table)) kept.table-words
      ∙ written-records code.words code.size net.table (λ x j. (kept.coded x j).sized) rest in
      sym (record-at code.size (length net.table) table i h) ∙ ap (λ (l : List (List ℕ)). get_or l i []) rows
      ∙ map_at code.words net.table code.nothing [] i h

-- ---- cleared words

cleared-padded : (size : ℕ) → cleared size ≡ padded (length (cleared size)) []
cleared-padded size = rw (length-replicate {A = ℕ} size 0) (padded-none size)

pub kept-none : {X : Type 0} (code : Code X) (room : Room) (m n : ℕ) {chains : List ℕ}
    → chains ≡ cleared (length chains) → room.table < heads_in chains
    → code.size * room.table ≤ m → arc_size * room.arcs ≤ n
    → Kept code room (record { table = []; arcs = [] }) (cleared m) (cleared n) chains
unfolding concat_map
kept-none code room m n {chains} e h f g = record {
  table-words = cleared-padded m;
  arc-words = cleared-padded n;
  table_fits = rw (length-replicate {A = ℕ} m 0) f;
  arcs-fit = rw (length-replicate {A = ℕ} n 0) g;
  table-room = omega arith;
  arc-room = omega arith;
  link-room = h;
  linked =
      subst (λ (l : List ℕ). Linked code (heads_in chains) l []) (sym e)
      (no-chains code (heads_in chains) (length chains) (omega (arith, h)) (omega arith));
  once = tt;
  coded = λ x i. absurd i;
}
