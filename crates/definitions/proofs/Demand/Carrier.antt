-- What leaves, combinations and metastates carry, as the proof of demand 3 sees it: a set of windows, of a form
-- that every operation keeps. Today a carrier is a matrix. Here stand the names of what the definitions do with
-- carriers, and the laws about the windows that are left: each is one of Windows or TreeWindows, for carriers of
-- the book's form. The files above use these names and laws alone, so what a carrier is stands in the
-- definitions, here and below.
use Rattle.std.specs.Prelude.{◌≡◌, ◌↔◌, List, ◌∷◌, ◌++◌, Bool, ◌&&◌, not, ℕ, ◌+◌, ◌≤◌, ◌<◌, T, eqb, length, take, replicate}
use Rattle.std.proofs.Common.{sym, ap, ◌∙◌, arith}
use Rattle.definitions.specs.Lists.{◌!◌, same}
use Rattle.definitions.specs.BookLines.{is_phone, Asked}
use Rattle.definitions.specs.Tables.{Book}
use Rattle.definitions.specs.Lookup.{answers}
use Rattle.definitions.specs.Matrices.{Matrix, root_matrix, valid, meet, shift, start_cut, ends_here}
use Rattle.definitions.specs.Combinations.{on_yes, on_no}
use Rattle.definitions.proofs.Laws.Lists.Tests.{Tells}
use Rattle.definitions.proofs.Laws.Lists.Lists.{same_lists, same_self}
use Rattle.definitions.proofs.Laws.Matrices.Matrices.{Below, meet-length, meet_below, shift-length}
use Rattle.definitions.proofs.Laws.Matrices.Matrices.{shift-below, start-length, start-below, yes-length}
use Rattle.definitions.proofs.Laws.Matrices.Matrices.{yes-below, no_length, no-below, root-length}
use Rattle.definitions.proofs.Laws.Matrices.Matrices.{root_below}
use Rattle.definitions.proofs.Laws.Books.Sound.{columns_of, AllPhones}
use Rattle.definitions.proofs.Demand.Windows.{admits, admits-take, admits-meet, meet-admits}
use Rattle.definitions.proofs.Demand.Windows.{shift-admits-rest, shift-admits-from, admits-valid}
use Rattle.definitions.proofs.Demand.Windows.{valid-admits, admits-ends, ends-admits, start-admits}
use Rattle.definitions.proofs.Demand.TreeWindows.{admits-yes, admits-no, admits-root, root-centre}

-- ---- what the definitions do with carriers

abbrev pub Carrier : Type 0
Carrier = Matrix

-- whether some window is left
abbrev pub holds_some : Carrier → Bool
holds_some m = valid m

abbrev pub same_carrier : Carrier → Carrier → Bool
same_carrier a b = same a b

abbrev pub meet_of : Carrier → Carrier → Carrier
meet_of a b = meet a b

-- one phone on
abbrev pub shift_of : Book → Carrier → Carrier
shift_of book m = shift book.phones m

-- the cut at the start of a sentence, and the test for its end
abbrev pub cut_of : Book → Carrier → Carrier
cut_of book m = start_cut book.half m

abbrev pub end_test : Book → Carrier → Bool
end_test book m = ends_here book.half m

-- what the roots of a phone's trees carry; the two sides of a question are `on_yes` and `on_no` of Combinations
abbrev pub top_of : Book → (phone : ℕ) → Carrier
top_of book phone = root_matrix book.half book.phones phone

-- carriers that pass the test for sameness are equal
pub carriers-told : Tells same_carrier
carriers-told = record { same_equal = same_lists; self = same_self }

-- ---- windows and form

-- the window at the beginning of W is admitted
abbrev pub fits : Carrier → (W : List ℕ) → Bool
fits m W = admits m W

-- of the book's width, with phones of the book only: every operation keeps it
pub record Wide (book : Book) (m : Carrier) : Type 0 where
  pub columns : length m ≡ columns_of book
  pub below : Below book.phones m

-- and with some window: what a choice, a start or a step has tested
pub record Formed (book : Book) (m : Carrier) : Type 0 where
  pub wide : Wide book m
  pub holds : T (holds_some m)

-- a window of the book's phones that is admitted
pub record SomeWindow (book : Book) (m : Carrier) : Type 0 where
  pub window : List ℕ
  pub size : length window ≡ columns_of book
  pub phones-in : AllPhones book window
  pub admitted : T (fits m window)

-- only the beginning of a list is looked at
pub fits-take : {book : Book} {m : Carrier} → Wide book m → (W : List ℕ)
    → fits m (take (columns_of book) W) ≡ fits m W
fits-take {book} {m} w W = ap (λ (k : ℕ). admits m (take k W)) (sym w.columns) ∙ admits-take m W

-- ---- 1. The meet admits what both admit.

module _ {book : Book} {a b : Carrier} (v : Wide book a) (w : Wide book b) where
  as_wide : length a ≡ length b
  as_wide = v.columns ∙ sym w.columns

  pub meet-wide : Wide book (meet_of a b)
  meet-wide = record {
    columns = meet-length a b as_wide ∙ v.columns;
    below = meet_below book.phones a b v.below;
  }

  -- as an equation of tests, and as a statement
  pub fits-meet : (W : List ℕ) → fits (meet_of a b) W ≡ (fits a W && fits b W)
  fits-meet W = admits-meet a b W as_wide

  pub meet-fits : (W : List ℕ) → T (fits (meet_of a b) W) ↔ (T (fits a W) × T (fits b W))
  meet-fits W = meet-admits a b W as_wide

-- ---- 2. The shift admits what is left of an admitted list when its first phone goes.

module _ {book : Book} {m : Carrier} where
  some : Wide book m → 0 < length m
  some w = omega (arith, w.columns)

  pub shift-wide : Wide book m → Wide book (shift_of book m)
  shift-wide w = record {
    columns = shift-length book.phones m (some w) ∙ w.columns;
    below = shift-below book.phones m w.below;
  }

  pub shift-fits-rest : Wide book m → (x : ℕ) (W : List ℕ) → columns_of book ≤ length W → AllPhones book W
      → T (fits m (x ∷ W)) → T (fits (shift_of book m) W)
  shift-fits-rest w x W long r h =
      shift-admits-rest book.phones m x W (some w) (rw w.columns long) r h

  -- some phone can stand before what the shift admits
  pub shift-fits-from : Formed book m → (W : List ℕ) → T (fits (shift_of book m) W)
      → (x : ℕ) × T (is_phone book.phones x) × T (fits m (x ∷ W))
  shift-fits-from f W h =
      shift-admits-from book.phones m W (some f.wide) f.wide.below f.holds h

-- ---- 3. The test holds exactly where some window is admitted.

pub fits-holds : (m : Carrier) (W : List ℕ) → T (fits m W) → T (holds_some m)
fits-holds = admits-valid

pub holds_fits : {book : Book} {m : Carrier} → Formed book m → SomeWindow book m
holds_fits {book} {m} f =
    let w = valid-admits book.phones m f.wide.below f.holds in
    record {
      window = w.window;
      size = w.width ∙ f.wide.columns;
      phones-in = w.phones-in;
      admitted = w.admitted;
    }

module _ {book : Book} {m : Carrier} where
  -- ---- 4. The end test holds exactly where some admitted window has silence in all places right of the centre.

  pub fits-ends : Wide book m → (U : List ℕ) → length U ≡ book.half + 1
      → T (fits m (U ++ replicate book.half 1)) → T (end_test book m)
  fits-ends w U e h = admits-ends book.half m w.columns U e h

  pub ends-fits : Formed book m → T (end_test book m)
      → (U : List ℕ) × (length U ≡ book.half + 1) × AllPhones book U
      × T (fits m (U ++ replicate book.half 1))
  ends-fits f h =
      ends-admits book.half m f.wide.columns book.phones f.wide.below f.holds h

  -- ---- 5. The start's cut admits what was admitted with silence left of the centre.

  pub cut-wide : Wide book m → Wide book (cut_of book m)
  cut-wide w = record {
    columns = start-length book.half m ∙ w.columns;
    below = start-below book.phones book.half m w.below;
  }

  pub cut_fits : Wide book m → (W : List ℕ) → T (fits (cut_of book m) W)
      ↔ (T (fits m W) × (take book.half W ≡ replicate book.half 1))
  cut_fits w W = start-admits book.half m W (omega (arith, w.columns))

-- ---- 6. The roots of a phone's trees admit the windows with the phone in the centre.

module _ (book : Book) (phone : ℕ) where
  pub top-wide : phone ≤ book.phones → Wide book (top_of book phone)
  top-wide h = record {
    columns = root-length book.half book.phones phone;
    below = root_below book.half book.phones phone h;
  }

  pub fits-top : 1 ≤ phone → (W : List ℕ) → length W ≡ columns_of book → AllPhones book W
      → fits (top_of book phone) W ≡ eqb (W ! book.half) phone
  fits-top h W = admits-root book.half book.phones phone W h

  -- also where the list is longer than a window
  pub top-centre : 1 ≤ phone → (W : List ℕ) → T (fits (top_of book phone) W) → W ! book.half ≡ phone
  top-centre = root-centre book.half book.phones phone

-- ---- 7. The two sides of a question divide the windows by the answer.

module _ {book : Book} {m : Carrier} (w : Wide book m) (asked : Asked) where
  pub yes-wide : Wide book (on_yes book.classes asked m)
  yes-wide = record {
    columns = yes-length asked.position _ m ∙ w.columns;
    below = yes-below book.phones asked.position _ m w.below;
  }

  pub no-wide : Wide book (on_no book.classes asked m)
  no-wide = record {
    columns = no_length asked.position _ m ∙ w.columns;
    below = no-below book.phones asked.position _ m w.below;
  }

  -- a question asks about a place of the window
  module _ (asks : asked.position < columns_of book) (W : List ℕ) where
    pub fits-yes : fits (on_yes book.classes asked m) W ≡ (fits m W && answers book.classes W asked)
    unfolding answers
    fits-yes = admits-yes asked.position _ m W (rw w.columns asks)

    pub fits-no : fits (on_no book.classes asked m) W ≡ (fits m W && not (answers book.classes W asked))
    unfolding answers
    fits-no = admits-no asked.position _ m W (rw w.columns asks)
