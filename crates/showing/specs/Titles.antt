-- Texts that stand one after the other, each below its title, a line that begins with '='.
-- A text is given from the byte after that '=' on.
use Rattle.std.specs.Prelude.{if◌then◌else◌, ◌≡◌, ◌<◌, List, [], ◌∷◌, ℕ, suc, ◌+◌, eqb, length, take, drop, Option, MatchOption}
use Rattle.showing.specs.declared.titles.Titled.{Titled}
use Rattle.std.proofs.Math.Seq.{slice}

-- how many bytes come before the first that is `byte`, or all
unfoldable pub place_of : (byte : ℕ) → List ℕ → ℕ
place_of byte [] = 0
place_of byte (x ∷ text) = if eqb x byte then 0 else suc (place_of byte text)

-- its title: the bytes before the first line feed
unfoldable pub title_of : List ℕ → List ℕ
title_of text = take (place_of 10 text) text

-- where what stands below its title ends: before the next '=', or with the text
unfoldable pub end_of : List ℕ → ℕ
end_of text = let line = place_of 10 text in line + place_of 61 (drop line text)

-- what stands below its title: the bytes between the line feed and there
unfoldable pub text_of : List ℕ → List ℕ
text_of text = slice (place_of 10 text + 1) (end_of text) text

-- The texts from the byte after the '=' of a title on, and what is given of them: the first with its title, and the
-- others are left; nothing where none is left.
abbrev pub Gives : (here : List ℕ) → Option Titled → (next : List ℕ) → Type 0
Gives here given next = MatchOption given ((here ≡ []) × (next ≡ []))
    (λ t. (0 < length here) × (t.title.now ≡ title_of here) × (t.text.now ≡ text_of here)
    × (next ≡ drop (end_of here + 1) here))
