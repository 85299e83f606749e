-- A table of words that holds known words and nothing else.
use Rattle.std.specs.Prelude.{◌≡◌, List, ℕ, ◌*◌, ◌/◌, ◌≤◌, T, length}
use Rattle.definitions.specs.Forms.{most_words}
use Rattle.definitions.specs.Lists.{every, records}
use Rattle.definitions.specs.WordBooks.{word_size, words_in, word_known}

-- its words
abbrev pub spelled : (words : List ℕ) → List (List ℕ)
spelled words = words_in (length words / word_size) words

pub record Lexicon (words : List ℕ) : Type 0 where
  pub whole : word_size * (length words / word_size) ≡ length words
  pub few : length words / word_size ≤ most_words
  pub known : T (every word_known (records word_size (length words / word_size) words))
