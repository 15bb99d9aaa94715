-- The ones of a mask, and how many there are before a position.
use mathlib.Core.Path.{◌≡◌, refl, sym, ap, ◌∙◌}
use mathlib.Core.List.{List, [], ◌∷◌, ◌++◌}
use mathlib.Core.Bool.{Bool, true, false, cond}
use Prim.Native.Nat.{ℕ, zero, suc, ◌+◌, ◌≤◌, ◌<◌}
use native.Mathlib.Nat.{add-zero}
use native.Mathlib.Numerals.{add-one}
use native.Mathlib.Omega.{arith}
use lib.ListN.{length, get_or, take, drop, replicate, length-append, length-take, length-drop, take-append-drop}
use lib.Seq.{take-suc, split_at, take_all, get_or_at, length-take-le}
use lib.IntN.{ℤ, pos}
use lib.Dec.{eqb, lit<}
use mir.Syntax.{w32}
use mir.Val.{SFits, of_z}
use Rattle.signed.proofs.Equal.{int_same-key}
use borrow.Author.Tests.{eq-eqb, ne_eqb}
use Rattle.meaning.specs.Terms.{int_same, ones_from, ones}
use Rattle.masks.specs.Steps.Actions.{mask_of, one_at}

-- What the code's test `z == 1` tells.
pub read-one : (z : ℤ) → SFits w32 z → int_same z (pos 1) ≡ eqb (of_z w32 z) 1
read-one z f = sym (int_same-key z 1 f (lit< tt))

pub test-one : (z : ℤ) → SFits w32 z → of_z w32 z ≡ 1 → int_same z (pos 1) ≡ true
test-one z f e = read-one z f ∙ eq-eqb (of_z w32 z) 1 e

pub test-other : (z : ℤ) → SFits w32 z → (of_z w32 z ≡ 1 → ⊥) → int_same z (pos 1) ≡ false
test-other z f h = read-one z f ∙ ne_eqb (of_z w32 z) 1 h

pub ones-append : (i : ℕ) (xs ys : List ℤ) → ones_from i (xs ++ ys) ≡ ones_from i xs ++ ones_from (i + length xs) ys
unfolding ones_from
ones-append i [] ys = ap (λ k. ones_from k ys) (sym (add-zero i))
ones-append i (x ∷ xs) ys =
    let e : suc i + length xs ≡ i + suc (length xs) = omega arith in
    by (int_same x (pos 1)) (ones-append (suc i) xs ys ∙ ap (λ k. ones_from (suc i) xs ++ ones_from k ys) e)
  where
    by : (b : Bool) → ones_from (suc i) (xs ++ ys) ≡ ones_from (suc i) xs ++ ones_from (i + suc (length xs)) ys
        → cond b (i ∷ ones_from (suc i) (xs ++ ys)) (ones_from (suc i) (xs ++ ys))
        ≡ cond b (i ∷ ones_from (suc i) xs) (ones_from (suc i) xs) ++ ones_from (i + suc (length xs)) ys
    by true e = ap {B = List ℕ} (λ r. i ∷ r) e
    by false e = e

pub ones-le : (k : ℕ) (l : List ℤ) → length (ones_from k l) ≤ length l
unfolding ones_from
ones-le k [] = omega arith
ones-le k (x ∷ l) = by (int_same x (pos 1)) (ones-le (suc k) l)
  where
    by : (b : Bool) → length (ones_from (suc k) l) ≤ length l → length (cond b (k ∷ ones_from (suc k) l) (ones_from (suc k) l)) ≤ suc (length l)
    by true h = omega arith
    by false h = omega arith

-- How many ones stand before position i.
abbrev pub before : ℕ → List ℤ → ℕ
before i l = length (ones (take i l))

pub before-none : (l : List ℤ) → 0 ≡ before 0 l
unfolding ones_from
before-none l = refl

pub before-le : (l : List ℤ) (i : ℕ) → before i l ≤ length l
before-le l i = omega (arith, ones-le 0 (take i l), length-take i l)

pub before-few : (l : List ℤ) (i : ℕ) → before i l ≤ i
before-few l i = omega (arith, ones-le 0 (take i l), length-take i l)

pub before-all : (l : List ℤ) (i : ℕ) → length l ≤ i → before i l ≡ length (ones l)
before-all l i h = ap (λ x. length (ones x)) (take_all i l h)

-- The ones before position i, and those from there on.
before-after : (l : List ℤ) (i : ℕ) → length (ones l) ≡ before i l + length (ones_from (0 + length (take i l)) (drop i l))
before-after l i =
    ap (λ x. length (ones x)) (sym (take-append-drop i l)) ∙ ap length (ones-append 0 (take i l) (drop i l)) ∙ length-append (ones (take i l)) _

pub before-most : (l : List ℤ) (i : ℕ) → before i l ≤ length (ones l)
before-most l i = omega (arith, before-after l i)

module _ (l : List ℤ) (i : ℕ) (h : i < length l) where
  -- Up to and with position i.
  ones-more : ones (take (i + 1) l) ≡ ones (take i l) ++ ones_from (0 + length (take i l)) (get_or l i (pos 0) ∷ [])
  ones-more = ap (λ k. ones (take k l)) (add-one i) ∙ ap ones (take-suc l i (pos 0) h) ∙ ones-append 0 (take i l) (get_or l i (pos 0) ∷ [])

  pub before-one : one_at l i ≡ true → before (i + 1) l ≡ before i l + 1
  unfolding ones_from
  before-one e = ap length ones-more ∙ length-append (ones (take i l)) _ ∙ rw e

  pub before-other : one_at l i ≡ false → before (i + 1) l ≡ before i l
  unfolding ones_from
  before-other e = ap length ones-more ∙ length-append (ones (take i l)) _ ∙ rw e (add-zero _)

  -- A one at position i is the one that has as many before it.
  ones_split : one_at l i ≡ true → ones l ≡ ones (take i l) ++ (i ∷ ones_from (suc i) (drop (suc i) l))
  unfolding ones_from
  ones_split e =
      let q : 0 + length (take i l) ≡ i = omega (arith, length-take-le i l (omega arith)) in
      ap ones (split_at l i (pos 0) h)
      ∙ ones-append 0 (take i l) (get_or l i (pos 0) ∷ drop (suc i) l)
      ∙ ap (λ k. ones (take i l) ++ ones_from k (get_or l i (pos 0) ∷ drop (suc i) l)) q
      ∙ rw e

  pub one-at : one_at l i ≡ true → get_or (ones l) (before i l) 0 ≡ i
  one-at e = ap (λ x. get_or x (before i l) 0) (ones_split e) ∙ get_or_at (ones (take i l)) i (ones_from (suc i) (drop (suc i) l)) 0 (before i l) refl

  pub one_below : one_at l i ≡ true → before i l < length (ones l)
  one_below e = omega (arith, ap length (ones_split e), length-append (ones (take i l)) (i ∷ ones_from (suc i) (drop (suc i) l)))

-- A mask of ones alone.
module _ (l : List ℤ) (full : length (ones l) ≡ length l) where
  pub full-before : (i : ℕ) → i ≤ length l → before i l ≡ i
  full-before i h =
      omega (arith, before-after l i, before-few l i, ones-le (0 + length (take i l)) (drop i l), length-drop i l)

  pub full-one : (i : ℕ) → i < length l → one_at l i ≡ true
  full-one i h = by _ refl
    where
      by : (b : Bool) → one_at l i ≡ b → b ≡ true
      by true e = refl
      by false e = absurd (omega (arith, before-other l i h e, full-before i (omega arith), full-before (i + 1) (omega arith)))

  pub full_at : (i : ℕ) → i < length l → get_or (ones l) i 0 ≡ i
  full_at i h = ap (λ x. get_or (ones l) x 0) (sym (full-before i (omega arith))) ∙ one-at l i h (full-one i h)

-- Each of the ones is a position.
pub ones_lt : (k : ℕ) (l : List ℤ) (j : ℕ) → j < length (ones_from k l) → get_or (ones_from k l) j 0 < k + length l
unfolding ones_from
ones_lt k [] j h = absurd (omega arith)
ones_lt k (x ∷ l) j h = by (int_same x (pos 1)) j (λ i q. ones_lt (suc k) l i q) h
  where
    by : (b : Bool) (j : ℕ) → ((i : ℕ) → i < length (ones_from (suc k) l) → get_or (ones_from (suc k) l) i 0 < suc k + length l)
        → j < length (cond b (k ∷ ones_from (suc k) l) (ones_from (suc k) l))
        → get_or (cond b (k ∷ ones_from (suc k) l) (ones_from (suc k) l)) j 0 < k + suc (length l)
    by true zero rest q = omega arith
    by true (suc j) rest q = omega (arith, rest j (omega arith))
    by false j rest q = omega (arith, rest j q)

-- A mask of one element over an axis of length n.
pub ones-all : (k n : ℕ) (x : ℤ) → int_same x (pos 1) ≡ true → length (ones_from k (replicate n x)) ≡ n
unfolding ones_from
ones-all k zero x e = refl
ones-all k (suc n) x e = rw e (ap suc (ones-all (suc k) n x e))

pub ones-no : (k n : ℕ) (x : ℤ) → int_same x (pos 1) ≡ false → length (ones_from k (replicate n x)) ≡ 0
unfolding ones_from
ones-no k zero x e = refl
ones-no k (suc n) x e = rw e (ones-no (suc k) n x e)

module _ (l : List ℤ) (n : ℕ) where
  pub mask-single : length l ≡ 1 → mask_of false l n ≡ replicate n (get_or l 0 (pos 0))
  unfolding mask_of
  mask-single h = rw (eq-eqb (length l) 1 h)

  pub mask-list : (length l ≡ 1 → ⊥) → mask_of false l n ≡ l
  unfolding mask_of
  mask-list h = rw (ne_eqb (length l) 1 h)

  pub kept-list : (length l ≡ 1 → ⊥) → length (ones l) ≡ length (ones (mask_of false l n))
  kept-list h = ap (λ x. length (ones x)) (sym (mask-list h))

  pub kept-all : length l ≡ 1 → one_at l 0 ≡ true → n ≡ length (ones (mask_of false l n))
  kept-all h e = sym (ap (λ x. length (ones x)) (mask-single h) ∙ ones-all 0 n (get_or l 0 (pos 0)) e)

  pub kept-no : length l ≡ 1 → one_at l 0 ≡ false → 0 ≡ length (ones (mask_of false l n))
  kept-no h e = sym (ap (λ x. length (ones x)) (mask-single h) ∙ ones-no 0 n (get_or l 0 (pos 0)) e)
