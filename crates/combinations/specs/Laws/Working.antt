-- Laws about what combining works with: cleared words are fit for it, whatever their number, and the table and
-- the lists stay so as long as they keep their lengths.
use Rattle.std.specs.Prelude.{◌≡◌, refl, List, ℕ, ◌*◌, ◌≤◌, length, take}
use Rattle.std.proofs.Common.{◌∙◌, arith, length-take-le}
use Rattle.std.proofs.lemmas.List.{length-replicate}
use Rattle.definitions.specs.Lists.{cleared}
use Rattle.leafsets.specs.Leaves.{leaf_size, NoneUsed}
use Rattle.leafsets.specs.Working.{Unused, Working, Worked}
use Rattle.leafsets.specs.Laws.ListingLeaves.{none-cleared}

-- a table that is a part of cleared words, and three lists that are all of as many
module _ (size : ℕ) {part : ℕ} (fits : part ≤ size) where
  cleared-length : length (cleared size) ≡ size
  cleared-length = length-replicate {A = ℕ} size 0

  pub part_length : length (take part (cleared size)) ≡ part
  part_length = length-take-le part (cleared size) (omega (arith, cleared-length))

  pub cleared-working : {nodes : ℕ} → part ≡ leaf_size * nodes
      → Working nodes (take part (cleared size)) (cleared size) (cleared size) (cleared size)
  cleared-working e = record {
    unused = record { sized = part_length ∙ e; none = none-cleared size part };
    first_long = long;
    second_long = long;
    third_long = long;
  }
    where
      long : length (take part (cleared size)) ≤ length (cleared size)
      long = omega (arith, part_length, cleared-length)

pub still-unused : {nodes : ℕ} {table table' : List ℕ} → Unused nodes table → length table' ≡ length table
    → NoneUsed table' → Unused nodes table'
still-unused u same none = record { sized = same ∙ u.sized; none = none }

module _ {nodes : ℕ} {table first second third table' first' second' third' : List ℕ}
    (w : Working nodes table first second third) where
  pub worked : NoneUsed table' → length table' ≡ length table → length first' ≡ length first
      → length second' ≡ length second → length third' ≡ length third
      → Worked nodes table first second third table' first' second' third'
  worked none t a b c = record {
    working = record {
      unused = still-unused w.unused t none;
      first_long = omega (arith, w.first_long);
      second_long = omega (arith, w.second_long);
      third_long = omega (arith, w.third_long);
    };
    table-sized = t;
    first_sized = a;
    second_sized = b;
    third_sized = c;
  }

pub worked-none : {nodes : ℕ} {table first second third : List ℕ} → Working nodes table first second third
    → Worked nodes table first second third table first second third
worked-none w = record {
  working = w;
  table-sized = refl;
  first_sized = refl;
  second_sized = refl;
  third_sized = refl;
}

pub worked-more : {nodes : ℕ} {t₀ a₀ b₀ c₀ t₁ a₁ b₁ c₁ t₂ a₂ b₂ c₂ : List ℕ}
    → Worked nodes t₀ a₀ b₀ c₀ t₁ a₁ b₁ c₁ → Worked nodes t₁ a₁ b₁ c₁ t₂ a₂ b₂ c₂
    → Worked nodes t₀ a₀ b₀ c₀ t₂ a₂ b₂ c₂
worked-more w v = record {
  working = v.working;
  table-sized = v.table-sized ∙ w.table-sized;
  first_sized = v.first_sized ∙ w.first_sized;
  second_sized = v.second_sized ∙ w.second_sized;
  third_sized = v.third_sized ∙ w.third_sized;
}
