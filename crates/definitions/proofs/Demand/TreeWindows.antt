-- The windows of trees: what the two sides of a question admit, and what a root's matrix admits.
-- One leaf of a tree (demand/Trees.antt) and one combination of a book (demand/Choices.antt) admit a context by
-- these laws; they and those of Windows are all that look inside a matrix.
use Rattle.std.specs.Prelude.{◌≡◌, refl, List, [], ◌∷◌, Bool, not, ◌&&◌, ℕ, zero, suc, ◌+◌, ◌≤◌, ◌<◌, T, eqb, length, set}
use Rattle.std.proofs.Common.{sym, ◌∙◌, arith, eqb→eq}
use Rattle.std.proofs.Math.Bool.{and_assoc, and_comm}
use Rattle.std.proofs.Math.Nat.{suc_inj}
use Rattle.std.proofs.Math.Decide.{ℕ_discrete}
use Rattle.definitions.specs.Lists.{◌!◌, every}
use Rattle.definitions.specs.BookLines.{is_phone}
use Rattle.definitions.specs.PhoneSets.{has}
use Rattle.definitions.specs.Matrices.{Matrix, root_matrix, yes_side, no_side}
use Rattle.definitions.proofs.Laws.Lists.Tests.{T_and, eq→eqb, same_tests, every-at}
use Rattle.definitions.proofs.Laws.Matrices.PhoneSets.{has-alone, has_all, has-and, has-without}
use Rattle.definitions.proofs.Laws.Matrices.Matrices.{root-length, root-column, root-other, yes-set}
use Rattle.definitions.proofs.Laws.Matrices.Matrices.{no-set}
use Rattle.definitions.proofs.Demand.Windows.{admits}

-- ---- the two sides of a question

-- a column that is cut by b is admitted where it was, and b
admits-set : (m : Matrix) (W : List ℕ) (i v : ℕ) (b : Bool) → i < length m
    → has (W ! i) v ≡ (has (W ! i) (m ! i) && b) → admits (set m i v) W ≡ (admits m W && b)
unfolding admits
admits-set [] W i v b h e = absurd (omega arith)
admits-set (x ∷ m) [] zero v b h e = refl
admits-set (x ∷ m) [] (suc i) v b h e = refl
admits-set (x ∷ m) (p ∷ W) zero v b h e =
    rw (e, and_assoc (has p x) b (admits m W), and_comm b (admits m W))
    (sym (and_assoc (has p x) (admits m W) b))
admits-set (x ∷ m) (p ∷ W) (suc i) v b h e =
    rw (admits-set m W i v b (omega arith) e) (sym (and_assoc (has p x) (admits m W) b))

pub admits-yes : (position s : ℕ) (m : Matrix) (W : List ℕ) → position < length m
    → admits (yes_side position s m) W ≡ (admits m W && has (W ! position) s)
admits-yes i s m W h = rw yes-set (admits-set m W i _ (has (W ! i) s) h (has-and (W ! i) (m ! i) s))

pub admits-no : (position s : ℕ) (m : Matrix) (W : List ℕ) → position < length m
    → admits (no_side position s m) W ≡ (admits m W && not (has (W ! position) s))
admits-no i s m W h = rw no-set (admits-set m W i _ (not (has (W ! i) s)) h (has-without (W ! i) (m ! i) s))

-- ---- a matrix admits a window of its width when each column has the phone there

admits-at : (m : Matrix) (W : List ℕ) → T (admits m W) → (c : ℕ) → c < length m → T (has (W ! c) (m ! c))
unfolding admits
admits-at [] W h c k = absurd (omega arith)
admits-at (x ∷ m) [] h c k = absurd h
admits-at (x ∷ m) (p ∷ W) h zero k = ((T_and (has p x) (admits m W)).0 h).0
admits-at (x ∷ m) (p ∷ W) h (suc c) k = admits-at m W ((T_and (has p x) (admits m W)).0 h).1 c (omega arith)

admits-from : (m : Matrix) (W : List ℕ) → length m ≡ length W
    → ((c : ℕ) → c < length m → T (has (W ! c) (m ! c))) → T (admits m W)
unfolding admits
admits-from [] W e h = tt
admits-from (x ∷ m) [] e h = absurd (omega arith)
admits-from (x ∷ m) (p ∷ W) e h =
    (T_and (has p x) (admits m W)).1
    (h 0 (omega arith), admits-from m W (suc_inj e) (λ c k. h (suc c) (omega arith)))

-- ---- a root's matrix: the phone in the centre, any phones beside it

pub root-centre : (half phones p : ℕ) → 1 ≤ p → (W : List ℕ) → T (admits (root_matrix half phones p) W)
    → W ! half ≡ p
root-centre half phones p l W h =
    let root : Matrix = root_matrix half phones p in
    let here : half < length root = omega (arith, root-length half phones p) in
    let held : T (has (W ! half) (root ! half)) = admits-at root W h half here in
    eqb→eq (W ! half) p (rw (root-column, has-alone (W ! half) p l) at held)

pub admits-root : (half phones p : ℕ) (W : List ℕ) → 1 ≤ p → length W ≡ half + half + 1
    → T (every (is_phone phones) W) → admits (root_matrix half phones p) W ≡ eqb (W ! half) p
unfolding is_phone
admits-root half phones p W l w range = same_tests (admits root W) (eqb (W ! half) p) there back
  where
    root : Matrix
    root = root_matrix half phones p

    there : T (admits root W) → T (eqb (W ! half) p)
    there h = eq→eqb (W ! half) p (root-centre half phones p l W h)

    width : length root ≡ length W
    width = root-length half phones p ∙ sym w

    back : T (eqb (W ! half) p) → T (admits root W)
    back h = admits-from root W width λ c k. column c k (ℕ_discrete c half)
      where
        column : (c : ℕ) → c < length root → Dec (c ≡ half) → T (has (W ! c) (root ! c))
        column c k (yes e) = rw (e, root-column half phones p, has-alone (W ! half) p l) h
        column c k (no e) =
            rw (root-other half phones p c (omega (arith, width)) e, has_all (W ! c) phones)
            (every-at (is_phone phones) W 0 range c (omega (arith, width)))
