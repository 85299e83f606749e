-- `indexing::fill_index` meets its contract. The loop's invariant: the words from `word` on are in the index.
use Rattle.std.proofs.Common.{◌≡◌, sym, ap, ◌∙◌, arith, ℕ, List, ◌+◌, ◌-◌, ◌*◌, ◌≤◌, ◌<◌, length, length-set}
use Rattle.definitions.specs.Lists.{◌!◌}
use Rattle.definitions.specs.WordBooks.{word_size}
use Rattle.definitions.specs.Joining.{phones_in}
use Rattle.marks.specs.Lexicon.{spelled}
use Rattle.marks.specs.Wanting.{IsWord}
use Rattle.marks.specs.Laws.Lexicon.{spelled-length, word-phone, word_some, phone-ranged}
use Rattle.marks.specs.Laws.Openings.{opened-none, opened-more, opened-all}
use Rattle.marks.proofs.indexing.fill_index.Goals as goal
use Rattle.marks.proofs.indexing.fill_index.Goals.{After-wide-phone}

pub loop-word-init : goal.loop-word-init
loop-word-init c =
    let (_, clear, room) = c.requires in
    opened-none _ _ _ (sym (spelled-length c.args.words.now)) clear (omega (arith, room))

-- the word that is entered, and its first phone
module _ (c : After-wide-phone) where
  own : IsWord c.args.words.now c.loop-word.word
  own = record {
    low = omega (arith, c.loop-word-test.true);
    high = omega (arith, c.loop-word.invariant.within, spelled-length c.args.words.now);
  }

  first : c.wide-phone.result ≡ phones_in (spelled c.args.words.now) c.loop-word.word ! 0
  first =
      let words : List ℕ = c.args.words.now in
      let start : ℕ = word_size * (c.loop-word.word - 1) in
      c.wide-phone.ensures
      ∙ ap (λ (i : ℕ). words ! i) {x = start + 1} {y = start + 1 + 0} (omega arith)
      ∙ word-phone c.requires.0 own 0 (omega arith)

  ranged : (1 ≤ c.wide-phone.result) × (c.wide-phone.result ≤ 64)
  ranged =
      let lexicon = c.requires.0 in rw first (phone-ranged lexicon own 0 (word_some lexicon own))

  -- the index has room for it
  placed : c.wide-phone.result - 1 < length c.loop-word.index
  placed =
      let inv = c.loop-word.invariant in
      omega (arith, ranged, c.requires.2, inv.sized, inv.within, c.loop-word-test.true)

pub overflow_sub-index : goal.overflow_sub-index
overflow_sub-index c = (ranged (goal.at.overflow_sub-index c).After-wide-phone).0

pub bounds-index-phone : goal.bounds-index-phone
bounds-index-phone c = placed (goal.at.bounds-index-phone c).After-wide-phone

pub overflow_sub-index-in-loop-word : goal.overflow_sub-index-in-loop-word
overflow_sub-index-in-loop-word c = (ranged (goal.at.overflow_sub-index-in-loop-word c).After-wide-phone).0

pub bounds-index-phone-in-loop-word : goal.bounds-index-phone-in-loop-word
bounds-index-phone-in-loop-word c =
    let at = (goal.at.bounds-index-phone-in-loop-word c).After-wide-phone in
    simp length-set (placed at)

pub loop-word-preserved : goal.loop-word-preserved
loop-word-preserved c =
    let at = (goal.at.loop-word-preserved c).After-wide-phone in
    let (low, high) = ranged at in
    opened-more c.loop-word.invariant (own at).low c.requires.2 (first at) low high

pub returns : goal.returns
returns c =
    let (_, _, room) = c.requires in
    opened-all c.loop-word.invariant (omega (arith, c.loop-word-test.false)) room
