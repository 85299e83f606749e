-- Laws about a buffer that is filled from the front with the elements of a list, as many as it holds; and with
-- one value.
use Rattle.std.specs.Prelude.{◌≡◌, refl, List, ◌++◌, ℕ, ◌+◌, ◌≤◌, ◌<◌, length, set, take, drop, replicate}
use Rattle.std.proofs.Common.{sym, ◌∙◌, append-nil, add-one, arith, length-set, drop_of_length-le, drop-cons, take-suc, take_all, length-take-le}
use Rattle.std.proofs.lemmas.List.{length-replicate, get_or-replicate, set_at}
use Rattle.std.proofs.Math.Seq.{append_snoc}
use Rattle.definitions.specs.Lists.{◌!◌}

-- a buffer s, before the loop d, whose first i elements are those of t
pub record Filled (t d : List ℕ) (i : ℕ) (s : List ℕ) : Type 0 where
  pub within : i ≤ length d
  pub sized : length s ≡ length d
  pub holds : s ≡ take i t ++ drop i d

pub filled-start : (t d : List ℕ) → Filled t d 0 d
filled-start t d = record { within = omega arith; sized = refl; holds = refl }

-- a store of t's next element
pub filled_more : {t d s : List ℕ} {i v : ℕ} → length t ≡ length d → Filled t d i s → i < length s → v ≡ t ! i
    → Filled t d (i + 1) (set s i v)
filled_more {t} {d} {s} {i} {v} e f l q =
    let inside : i < length d = omega arith in
    let listed : i < length t = omega arith in
    record {
      within = omega arith;
      sized = length-set s i v ∙ f.sized;
      holds =
          rw (
            f.holds,
            drop-cons d i 0 inside,
            set_at (take i t) (d ! i) _ v i (length-take-le i t (omega arith)),
            q,
            add-one i,
            take-suc t i 0 listed,
            append_snoc,
          );
    }

pub filled-end : {t d s : List ℕ} {i : ℕ} → length t ≡ length d → Filled t d i s → length s ≤ i → s ≡ t
filled-end {t} {d} {s} {i} e f l =
    f.holds ∙ rw (drop_of_length-le d {i = i} (omega arith), append-nil, take_all i t (omega arith))

-- ---- one value

-- a buffer s, before the loop d, whose first i elements are v
abbrev pub FilledWith : (v : ℕ) → (d : List ℕ) → (i : ℕ) → (s : List ℕ) → Type 0
FilledWith v d i s = Filled (replicate (length d) v) d i s

module _ (v : ℕ) {d s : List ℕ} {i : ℕ} (f : FilledWith v d i s) where
  pub with-more : i < length s → FilledWith v d (i + 1) (set s i v)
  with-more l =
      filled_more (length-replicate (length d) v) f l
      (sym (get_or-replicate (length d) i v 0 (omega (arith, f.sized))))

  pub with-end : length s ≤ i → s ≡ replicate (length d) v
  with-end l = filled-end (length-replicate (length d) v) f l
