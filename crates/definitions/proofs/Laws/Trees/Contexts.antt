-- Laws about contexts: the definition by windows is document 01's sentence, "in column c the phone at place
-- i+c−n, or 1 where that lies beyond either end". Place i+c of the sequence with phones around it stands
-- between. What holds of any phones beyond the ends is shown of them, and then used of silence.
use Rattle.std.specs.Prelude.{◌≡◌, ℕ, zero, suc, ◌+◌, ◌-◌, ◌*◌, ◌≤◌, ◌<◌, T, take, drop, get_or}
use Rattle.std.proofs.Math.Path.{refl, ap}
use Rattle.std.proofs.Common.{sym, ◌∙◌, arith, length-take, length-drop, drop-drop}
use mathlib.Core.List.{List, [], ◌++◌, append_assoc}
use Rattle.std.proofs.Math.ListN.{length, length-append, get_or-append}
use Rattle.std.proofs.lemmas.List.{length-replicate, get_or-replicate}
use Rattle.std.proofs.Math.Seq.{get_or-append-add, take_at, drop_at}
use Rattle.definitions.specs.Lists.{◌!◌, every}
use Rattle.definitions.specs.BookLines.{is_phone}
use Rattle.definitions.specs.TreesGive.{windows, around, contexts_within, silences, with_silence, contexts}
use Rattle.definitions.proofs.Laws.Lists.Lists.{every-parts, every-split, every-replicate, part_at}
use Rattle.definitions.proofs.Laws.Text.Ranges.{phone_range}

-- the windows of a list
windows-length : (width count : ℕ) (phones : List ℕ) → length (windows width count phones) ≡ count
unfolding windows
windows-length width zero phones = refl
windows-length width (suc count) phones = ap suc (windows-length width count (drop 1 phones))

window-at : (width count : ℕ) (phones : List ℕ) (i : ℕ) → i < count
    → get_or (windows width count phones) i [] ≡ take width (drop i phones)
unfolding windows
window-at width zero phones i h = absurd (omega arith)
window-at width (suc count) phones zero h = refl
window-at width (suc count) phones (suc i) h =
    let next : 1 + i ≡ suc i = omega arith in
    window-at width count (drop 1 phones) i (omega arith) ∙ ap (take width) (drop-drop i 1 phones ∙ rw next)

-- ---- a sequence with phones before and after it

module _ (left S right : List ℕ) where
  pub around-phones : (phones : ℕ) → T (every (is_phone phones) left) → T (every (is_phone phones) S)
      → T (every (is_phone phones) right) → T (every (is_phone phones) (around left S right))
  unfolding around
  around-phones phones l s r =
      (every-parts (is_phone phones) (left ++ S) right).1 ((every-parts (is_phone phones) left S).1 (l, s), r)

  -- part by part and place by place, with n phones before it
  module _ (half : ℕ) (before : length left ≡ half) where
    front_length : length (left ++ S) ≡ half + length S
    front_length = rw length-append (omega arith)

    pub around-left : take half (around left S right) ≡ left
    unfolding around
    around-left = rw append_assoc (take_at left _ half before)

    pub around-right : drop (half + length S) (around left S right) ≡ right
    unfolding around
    around-right = drop_at (left ++ S) right (half + length S) front_length

    pub around-middle : take (length S) (drop half (around left S right)) ≡ S
    unfolding around
    around-middle =
        ap (take (length S)) (rw append_assoc (drop_at left (S ++ right) half before))
        ∙ take_at S right (length S) refl

    pub around-length : length right ≡ half → length (around left S right) ≡ half + length S + half
    unfolding around
    around-length after = length-append (left ++ S) right ∙ rw (front_length, after)

    phones-before : (j : ℕ) → j < half → around left S right ! j ≡ left ! j
    unfolding around
    phones-before j h =
        get_or-append (left ++ S) right 0 j (omega (arith, front_length))
        ∙ get_or-append left S 0 j (omega arith)

    phones-within : (j : ℕ) → j < length S → around left S right ! (half + j) ≡ S ! j
    unfolding around
    phones-within j h =
        get_or-append (left ++ S) right 0 (half + j) (omega (arith, front_length))
        ∙ ap (λ (n : ℕ). (left ++ S) ! (n + j)) (sym before) ∙ get_or-append-add left S j 0

    phones-after : (j : ℕ) → around left S right ! (half + length S + j) ≡ right ! j
    unfolding around
    phones-after j =
        ap (λ (n : ℕ). (left ++ S ++ right) ! (n + j)) (sym front_length)
        ∙ get_or-append-add (left ++ S) right j 0

-- ---- its contexts

module _ (half : ℕ) (left S right : List ℕ) where
  -- there is one for each place
  pub contexts-length : length (contexts_within half left S right) ≡ length S
  unfolding contexts_within
  contexts-length = windows-length (2 * half + 1) (length S) (around left S right)

  module _ (i : ℕ) (place : i < length S) where
    abbrev context : List ℕ
    context = get_or (contexts_within half left S right) i []

    -- it is the window at that place
    context-window : context ≡ take (2 * half + 1) (drop i (around left S right))
    unfolding contexts_within
    context-window = window-at (2 * half + 1) (length S) (around left S right) i place

    -- "has 2n+1 phones"
    pub context-length : length left ≡ half → length right ≡ half → length context ≡ 2 * half + 1
    context-length before after =
        let long = around-length left S right half before after in
        ap length context-window ∙ simp (length-take, length-drop) (omega arith)

    -- all of them in range where those around are
    pub context-phones : (phones : ℕ) → T (every (is_phone phones) (around left S right))
        → T (every (is_phone phones) context)
    context-phones phones h =
        let rest = (every-split (is_phone phones) i (around left S right) h).1 in
        rw context-window (every-split (is_phone phones) (2 * half + 1) (drop i (around left S right)) rest).0

    -- column by column
    context-column : (c : ℕ) → c < 2 * half + 1 → context ! c ≡ around left S right ! (i + c)
    context-column c h =
        ap (λ (l : List ℕ). l ! c) context-window
        ∙ part_at (2 * half + 1) i (around left S right) c 0 h

-- ---- with silence beyond both ends

-- silence is a phone of every book, and stands on a side as often as it should
pub silence-phones : (phones count : ℕ) → 1 ≤ phones → T (every (is_phone phones) (silences count))
silence-phones phones count some =
    every-replicate (is_phone phones) count 1 ((phone_range phones 1).1 (omega arith, some))

pub silences-length : (half : ℕ) → length (silences half) ≡ half
silences-length half = length-replicate half 1

-- a sequence with silence around it, and its contexts
module _ (half : ℕ) (S : List ℕ) where
  abbrev sides : List ℕ
  sides = silences half

  wide : length sides ≡ half
  wide = silences-length half

  pub silent-phones : (phones : ℕ) → 1 ≤ phones → T (every (is_phone phones) S)
      → T (every (is_phone phones) (with_silence half S))
  silent-phones phones some h =
      let silent = silence-phones phones half some in around-phones sides S sides phones silent h silent

  pub silent-length : length (with_silence half S) ≡ half + length S + half
  silent-length = around-length sides S sides half wide wide

  -- the context of a place
  abbrev pub context_at : (i : ℕ) → List ℕ
  context_at i = get_or (contexts half S) i []

  module _ (i : ℕ) (place : i < length S) where
    pub silent-context-length : length (context_at i) ≡ 2 * half + 1
    silent-context-length = context-length half sides S sides i place wide wide

    module _ (c : ℕ) (column : c < 2 * half + 1) where
      silent-column : context_at i ! c ≡ with_silence half S ! (i + c)
      silent-column = context-column half sides S sides i place c column

      -- a place before the sequence: silence
      pub context-before : i + c < half → context_at i ! c ≡ 1
      context-before h =
          silent-column ∙ phones-before sides S sides half wide (i + c) h ∙ get_or-replicate half (i + c) 1 0 h

      -- a place of the sequence: "the phone at place i+c−n"
      pub context-within : half ≤ i + c → i + c - half < length S → context_at i ! c ≡ S ! (i + c - half)
      context-within h k =
          let j : half + (i + c - half) ≡ i + c = omega arith in
          silent-column ∙ (rw j at (phones-within sides S sides half wide (i + c - half) k))

      -- a place after the sequence: silence
      pub context-after : half ≤ i + c → length S ≤ i + c - half → context_at i ! c ≡ 1
      context-after h k =
          let past : ℕ = i + c - half - length S in
          let j : half + length S + past ≡ i + c = omega arith in
          silent-column ∙ (rw j at (phones-after sides S sides half wide past))
          ∙ get_or-replicate half past 1 0 (omega arith)
