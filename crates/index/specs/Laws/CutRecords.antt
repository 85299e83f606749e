-- Laws about records that are cut out by a size that was computed: they are the records of that size.
use Rattle.std.specs.Prelude.{◌≡◌, List, ℕ, ◌*◌, ◌≤◌}
use Rattle.std.proofs.Common.{sym, subst}
use Rattle.index.specs.RecordWords.{RecordWithin, IsRecord}

module _ {size own : ℕ} (e : size ≡ own) where
  pub cut-within : (words : List ℕ) (place : ℕ) → RecordWithin own words place → RecordWithin size words place
  cut-within words place h = subst (λ (n : ℕ). RecordWithin n words place) (sym e) h

  pub cut-is : {words part : List ℕ} {place : ℕ} → IsRecord size words place part → IsRecord own words place part
  cut-is {words} {part} {place} r = subst (λ (n : ℕ). IsRecord n words place part) e r

  -- as many records are in use
  pub cut-used : (count : ℕ) {most : ℕ} → own * count ≤ most → size * count ≤ most
  cut-used count {most} h = subst (λ (n : ℕ). n * count ≤ most) (sym e) h
