-- Chains through a table of elements in words: for each head the latest element of that head, and for each
-- element the one before it of the same head. The first half of the words are the heads, the second half the
-- links between elements. Places count from 1, and 0 ends a chain. What an element is, how many words it takes
-- and which key it has are the code's affair alone.
use Rattle.std.specs.Prelude.{◌≡◌, List, map, Option, None, Some, ℕ, suc, ◌+◌, ◌-◌, ◌*◌, ◌/◌, ◌≤◌, ◌<◌, length, set, get_or}
use Rattle.std.specs.Int.Bits.{bit_and}
use Rattle.definitions.specs.Lists.{◌!◌, records, concat_map, IsIn}

-- ---- elements in words

-- how elements stand in words
pub record Code (X : Type 0) : Type 0 where
  -- what stands beyond the end of a table
  pub nothing : X
  -- how many words an element takes, and which
  pub size : ℕ
  pub words : X → List ℕ
  -- the element that so many words hold
  pub read : List ℕ → X
  -- what its chain depends on
  pub key : X → ℕ

-- an element that its words tell
pub record Coded {X : Type 0} (code : Code X) (x : X) : Type 0 where
  pub sized : length (code.words x) ≡ code.size
  pub back : code.read (code.words x) ≡ x

-- so many elements at the front of words, and all in whole records
abbrev pub elements_of : {X : Type 0} → Code X → (count : ℕ) → (words : List ℕ) → List X
elements_of code count words = map code.read (records code.size count words)

abbrev pub elements_in : {X : Type 0} → Code X → (words : List ℕ) → List X
elements_in code words = elements_of code (length words / code.size) words

-- words that hold elements which they tell, and nothing else
pub record Flat {X : Type 0} (code : Code X) (table : List X) (words : List ℕ) : Type 0 where
  pub filled : words ≡ concat_map code.words table
  pub coded : (x : X) → IsIn x table → Coded code x

-- ---- chains

-- the head, of so many, of a key's chain
unfoldable pub head_of : (heads key : ℕ) → ℕ
head_of heads key = bit_and key (heads - 1)

-- how many heads words for chains have, and as many links
abbrev pub heads_in : (chains : List ℕ) → ℕ
heads_in chains = length chains / 2

-- the chains with an element at a place, at the front of its chain
abbrev pub linked_to : (heads : ℕ) → (chains : List ℕ) → (place key : ℕ) → List ℕ
linked_to heads chains place key =
    set (set chains (heads + place) (chains ! head_of heads key)) (head_of heads key) (place + 1)

module _ {X : Type 0} (code : Code X) (heads : ℕ) where
  -- the head of the element at a place
  abbrev pub head_at : (table : List X) → (place : ℕ) → ℕ
  head_at table place = head_of heads (code.key (get_or table place code.nothing))

  -- the latest place below `end` that has a head, counted from 1: its element has the head, and none after it
  -- below `end` has
  pub record Latest (table : List X) (head end place : ℕ) : Type 0 where
    pub within : place ≤ end
    pub own : (i : ℕ) → place ≡ suc i → head_at table i ≡ head
    pub none_after : (i : ℕ) → place ≤ i → i < end → head_at table i ≡ head → ⊥

  -- chains through a whole table, with so many heads and links; there is a link for one element more
  pub record Linked (chains : List ℕ) (table : List X) : Type 0 where
    pub sized : 2 * heads ≤ length chains
    pub few : length table < heads
    pub firsts : (head : ℕ) → head < heads → Latest table head (length table) (chains ! head)
    pub nexts : (i : ℕ) → i < length table → Latest table (head_at table i) i (chains ! (heads + i))

-- words of elements that can be looked for along chains
pub record Findable {X : Type 0} (code : Code X) (words chains : List ℕ) : Type 0 where
  pub flat : Flat code (elements_in code words) words
  pub linked : Linked code (heads_in chains) chains (elements_in code words)

-- the link that names a place, if there is one: links count from 1, and 0 names none
abbrev pub link_of : Option ℕ → ℕ
link_of None = 0
link_of (Some place) = suc place

-- what looking for an element answers: a place that has it, or none where no place has it
pub record Found {X : Type 0} (code : Code X) (table : List X) (x : X) (answer : Option ℕ) : Type 0 where
  pub none : answer ≡ None → IsIn x table → ⊥
  pub some : (place : ℕ) → answer ≡ Some place
      → (place < length table) × (get_or table place code.nothing ≡ x)
