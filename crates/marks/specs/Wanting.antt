-- What leads on from a mark.
use Rattle.std.specs.Prelude.{if◌then◌else◌, ◌≡◌, List, [], ◌∷◌, ℕ, ◌/◌, ◌≤◌, eqb, length}
use Rattle.definitions.specs.Joining.{Mark, ◌⊚◌, Step, step, steps}
use Rattle.definitions.specs.WordBooks.{word_size}
use Rattle.marks.specs.declared.Mark as declared
use Rattle.marks.specs.declared.Wanted.{Wanted}
use Rattle.marks.specs.declared.Wanted.TheVariants.{Words, Phone, Nothing}

abbrev pub mark_of : declared.Mark → Mark
mark_of p = p.word ⊚ p.mark

-- a word of the table
pub record IsWord (words : List ℕ) (word : ℕ) : Type 0 where
  pub low : 1 ≤ word
  pub high : word ≤ length words / word_size

-- where a phone leads by what is wanted; no phone keeps the mark
unfoldable pub steps_by : Wanted → (word mark phone : ℕ) → List Step
steps_by Nothing word mark phone = if eqb phone 0 then step 0 (word ⊚ mark) ∷ [] else []
steps_by Words word mark phone = if eqb phone 0 then step 0 (word ⊚ mark) ∷ [] else []
steps_by (Phone own next) word mark phone =
    if eqb phone 0 then step 0 (word ⊚ mark) ∷ [] else
    if eqb phone own then step 0 (mark_of next) ∷ [] else []

-- what leads on from a mark: words, between words alone; else the steps are those by what is wanted
pub record Leads (words : List (List ℕ)) (word mark : ℕ) (wanted : Wanted) : Type 0 where
  pub between : wanted ≡ Words → word ⊚ mark ≡ 0 ⊚ 1
  pub shut : (wanted ≡ Words → ⊥) → (phone : ℕ) → steps words (word ⊚ mark) phone ≡ steps_by wanted word mark phone
