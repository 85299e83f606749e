-- Document 02, P4, of what a college writes: from an accepted tree book whose build finished and an accepted word book
-- to the paths of their join. The join is lent the arcs and the words as the build and the reading left them.
use Rattle.std.specs.Prelude.{◌≡◌, List, ℕ, length}
use Rattle.std.proofs.Common.{subst}
use Rattle.definitions.specs.Faults.{answered}
use Rattle.definitions.specs.BookLines.{BookLine, header_of}
use Rattle.definitions.specs.BookReading.{Lent, read_book}
use Rattle.definitions.specs.Growing.{Grown, finished}
use Rattle.definitions.specs.Connecting.{Network}
use Rattle.definitions.specs.Building.{Space, counts_in}
use Rattle.definitions.specs.WordBooks.{WordLine, word_count, words_of, read_words, words_left}
use Rattle.definitions.specs.Joining.{Joined, JoinSpace, join, join_left}
use Rattle.definitions.proofs.Laws.Words.WordTables.{words-again}
use Rattle.definitions.specs.Demand.{build_answer, arc_buffer}
use Rattle.definitions.proofs.Demand.Demand.{demand3}
use Rattle.definitions.proofs.Demand.Endings.{finished-final}
use Rattle.definitions.specs.JoinedPaths.{JoinedPaths}
use Rattle.definitions.proofs.Joined.JoinedPaths.{joined-paths}

module _ (lent : Lent) (text : List ℕ) (lines : List BookLine) (space : Space) (limit : ℕ)
    (lent_words : ℕ) (word_text : List ℕ) (word_lines : List WordLine) (join_space : JoinSpace) where
  pub lesson-paths : read_book lent text ≡ answered lines
      → (turns : ℕ) (net : Network) → build_answer lent text lines space limit ≡ answered (finished turns net)
      → read_words lent_words word_text ≡ answered word_lines
      → (joined : Grown Joined)
      → join (counts_in (header_of lines).states net) (arc_buffer lent text lines space limit) (word_count word_lines)
      (words_left lent_words (answered word_lines)) join_space ≡ answered joined
      → JoinedPaths lines (words_of word_lines) (length joined.arcs) (join_left join_space (answered joined)).arcs
  lesson-paths accepted turns net built spelled joined joins =
      subst (λ (words : List (List ℕ)). JoinedPaths lines words (length joined.arcs)
      (join_left join_space (answered joined)).arcs) (words-again lent_words word_text word_lines spelled)
      (joined-paths (counts_in (header_of lines).states net) (arc_buffer lent text lines space limit)
      (word_count word_lines) (words_left lent_words (answered word_lines)) join_space lines joined
      (demand3 lent text lines space limit accepted turns net built)
      (finished-final lent text lines space limit accepted turns net built) joins)
