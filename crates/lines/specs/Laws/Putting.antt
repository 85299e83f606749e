-- Laws about words put into a lent table: one by one, or next to others, they are the words put at once; right after
-- the used ones they are used too; and in place of a part that was lent.
use Rattle.std.specs.Prelude.{◌≡◌, refl, set}
use Rattle.std.proofs.Common.{sym, ap, ◌∙◌, add-zero, add-one, arith, length-set, length-drop, take-append-drop, take-suc-set, drop-set-lt, take_at, drop_at, take-take}
use mathlib.Core.List.{List, [], ◌∷◌, ◌++◌, append_assoc, append-nil}
use Prim.Native.Nat.{ℕ, suc, ◌+◌, ◌-◌, ◌≤◌, ◌<◌}
use Rattle.std.proofs.Math.ListN.{length, take, drop, length-append}
use Rattle.std.proofs.lemmas.List.{length-replicate, replicate-append-replicate, set-append_left}
use Rattle.std.proofs.Math.Seq.{take-append_seam, drop-append-add, drop-drop, length-take-le, take-append-le}
use borrow.Rule.Slice.PartMut.{put_mid}
use Rattle.definitions.specs.Lists.{cleared, padded}
use Rattle.lines.specs.Putting.{put_at}
use Rattle.definitions.proofs.Laws.Lists.Lists.{drop-cleared}

-- ---- words put one by one

pub put-none : (at : ℕ) (table : List ℕ) → put_at at [] table ≡ table
unfolding put_at
put-none at table = rw (append-nil, add-zero) (take-append-drop at table)

-- the first word, and the others after it
put-more : (at next word : ℕ) (words table : List ℕ) → next ≡ at + 1 → at < length table
    → put_at next words (set table at word) ≡ put_at at (word ∷ words) table
unfolding put_at
put-more at next word words table e h =
    let past : next + length words ≡ at + suc (length words) = omega arith in
    let first : take next (set table at word) ≡ take at table ++ (word ∷ []) =
    rw (e, add-one) (take-suc-set table at word h) in
    let rest : List ℕ = drop (at + suc (length words)) table in
    rw (first, past, drop-set-lt (at + suc (length words)) table at word (omega arith))
    (ap (λ (l : List ℕ). l ++ rest) (append_assoc (take at table) (word ∷ []) words))

-- words put one by one, the first `k` places after a place
abbrev put_from : (at k : ℕ) → (words table : List ℕ) → List ℕ
put_from at k [] table = table
put_from at k (word ∷ words) table = put_from at (suc k) words (set table (at + k) word)

put-from : (at k : ℕ) (words table : List ℕ) → at + k + length words ≤ length table
    → put_from at k words table ≡ put_at (at + k) words table
put-from at k [] table h = sym (put-none (at + k) table)
put-from at k (word ∷ words) table h =
    put-from at (suc k) words (set table (at + k) word) (simp length-set (omega arith))
    ∙ put-more (at + k) (at + suc k) word words table (omega arith) (omega arith)

-- a word put at a place, and the others after it one by one
pub put-each : (at word : ℕ) (words table : List ℕ) → at + suc (length words) ≤ length table
    → put_from at 1 words (set table at word) ≡ put_at at (word ∷ words) table
put-each at word words table h =
    put-from at 1 words (set table at word) (simp length-set (omega arith))
    ∙ put-more at (at + 1) word words table refl (omega arith)

-- ---- words put next to others

module _ (at : ℕ) (k l table : List ℕ) (next : ℕ) (e : next ≡ at + length k)
    (room : next + length l ≤ length table) where
  -- what stands after both
  both-then : (take at table ++ k) ++ (l ++ drop (next + length l) table) ≡ put_at at (k ++ l) table
  unfolding put_at
  both-then =
      let past : next + length l ≡ at + length (k ++ l) = rw (length-append k l) (omega arith) in
      rw past (simp append_assoc)

  -- words put after others that were put
  pub put_both : put_at next l (put_at at k table) ≡ put_at at (k ++ l) table
  unfolding put_at
  put_both =
      let front : List ℕ = take at table ++ k in
      let size : length front ≡ next =
      length-append (take at table) k ∙ omega (arith, length-take-le at table (omega arith)) in
      let after : drop (next + length l) (front ++ drop (at + length k) table) ≡ drop (next + length l) table =
      rw (← size, drop-append-add front _ (length l), drop-drop (length l) (at + length k) table)
      (ap (λ (n : ℕ). drop n table) {x = at + length k + length l} {y = length front + length l} (omega arith)) in
      rw (take_at front (drop (at + length k) table) next size, after)
      (append_assoc front l (drop (next + length l) table) ∙ both-then)

  -- and before them
  pub put-before : put_at at k (put_at next l table) ≡ put_at at (k ++ l) table
  unfolding put_at
  put-before =
      let front : List ℕ = take next table in
      let size : length front ≡ next = length-take-le next table (omega arith) in
      let back : List ℕ = drop (next + length l) table in
      let first : take at ((front ++ l) ++ back) ≡ take at table =
      rw (append_assoc front l back, take-append-le at front (l ++ back) (omega arith))
      (take-take at next table (omega arith)) in
      let last : drop (at + length k) ((front ++ l) ++ back) ≡ l ++ back =
      rw (append_assoc front l back) (drop_at front (l ++ back) (at + length k) (omega arith)) in
      rw (first, last) both-then

-- ---- a lent table: its used words, then zeros

-- words that stand right after the used ones are used too
pub put-after : (size : ℕ) (used words : List ℕ)
    → put_at (length used) words (padded size used) ≡ padded size (used ++ words)
unfolding put_at padded
put-after size used words =
    let rest : List ℕ = cleared (size - length used) in
    let fewer : (size - length used) - length words ≡ size - (length used + length words) = omega arith in
    rw (take-append_seam used rest, drop-append-add used rest, drop-cleared, length-append, fewer)

-- a used word changed
pub padded-set : (size : ℕ) (used : List ℕ) (i x : ℕ) → i < length used
    → set (padded size used) i x ≡ padded size (set used i x)
unfolding padded
padded-set size used i x h = rw length-set (set-append_left used (cleared (size - length used)) i x h)

pub padded-zeros : (size count : ℕ) → count ≤ size → padded size (cleared count) ≡ cleared size
unfolding padded
padded-zeros size count h =
    rw (length-replicate, replicate-append-replicate)
    (ap (λ (k : ℕ). cleared k) {x = count + (size - count)} {y = size} (omega arith))

-- ---- a part that is lent, `size` words from a place on

pub part_length : (words : List ℕ) (from size : ℕ) {end : ℕ} → end ≡ from + size → end ≤ length words
    → length (take (end - from) (drop from words)) ≡ size
part_length words from size {end} e h =
    length-take-le (end - from) (drop from words) (rw length-drop (omega arith)) ∙ omega arith

-- the words with the part as it came back
pub part-put : (words part new : List ℕ) (from size : ℕ) {end : ℕ} → end ≡ from + size → part ≡ new
    → put_mid from (end - from) words part ≡ take from words ++ new ++ drop (from + size) words
part-put words part new from size {end} e f =
    let same : end - from ≡ size = omega arith in
    rw (same, f, drop-drop size from words, append_assoc)
