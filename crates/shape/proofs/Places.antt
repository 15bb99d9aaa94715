-- Places and the order row by row: the four laws that carry everything, at any rank.
use mathlib.Core.Path.{◌≡◌, refl, ap}
use mathlib.Core.List.{List, [], ◌∷◌}
use mathlib.Core.Bool.{true}
use Prim.Native.Nat.{ℕ, zero, suc, ◌+◌, ◌*◌, ◌/◌, ◌%◌, ◌≤◌, ◌<◌}
use native.Mathlib.Nat.{mod-lt, div-add-mod', div-lt_iff_lt-mul, mul-le-mul_right, mul-zero, not-suc-le-zero}
use native.Mathlib.Omega.{arith}
use borrow.Author.Tests.{lt-ltb, ltb-true}
use lib.Arith.{digits_lt, digits_div, digits_mod}
use lib.Dec.{ltb}
use lib.ListN.{length}
use Rattle.shape.proofs.Bools.{no_way, both}
use Rattle.shape.specs.Shape.{count}
use Rattle.shape.specs.Place.{inside, index, place}

-- A place lies in a shape: one position for each axis, below its length.
abbrev pub In : List ℕ → List ℕ → Type 0
In [] [] = Unit {0}
In [] (i ∷ p) = ⊥
In (n ∷ s) [] = ⊥
In (n ∷ s) (i ∷ p) = (i < n) × In s p

pub in-inside : (s p : List ℕ) → In s p → inside s p ≡ true
unfolding inside
in-inside [] [] h = refl
in-inside [] (i ∷ p) h = absurd h
in-inside (n ∷ s) [] h = absurd h
in-inside (n ∷ s) (i ∷ p) h = rw (lt-ltb i n h.0) (in-inside s p h.1)

pub inside-in : (s p : List ℕ) → inside s p ≡ true → In s p
unfolding inside
inside-in [] [] h = tt
inside-in [] (i ∷ p) h = no_way h
inside-in (n ∷ s) [] h = no_way h
inside-in (n ∷ s) (i ∷ p) h =
    let t = both (ltb i n) (inside s p) h in
    (ltb-true i n t.0, inside-in s p t.1)

pub index-lt : (s p : List ℕ) → In s p → index s p < count s
unfolding index count
index-lt [] [] h = omega arith
index-lt [] (i ∷ p) h = absurd h
index-lt (n ∷ s) [] h = absurd h
index-lt (n ∷ s) (i ∷ p) h = digits_lt h.0 (index-lt s p h.1)

-- Element j of n rows of c elements: a row has elements, and j's is one of the n.
pub row_in : (n c j : ℕ) → j < n * c → (0 < c) × (j / c < n)
row_in n zero j h = absurd (not-suc-le-zero (rw mul-zero at h))
row_in n (suc c) j h = let some : 0 < suc c = omega arith in (some, (div-lt_iff_lt-mul some).1 h)

-- Row i of the n ends where they do, or before.
pub row_fits : (i n c : ℕ) → i < n → i * c + c ≤ n * c
row_fits i n c h = omega (arith, mul-le-mul_right {m = i + 1} {n = n} c (omega arith))

pub place_in : (s : List ℕ) (j : ℕ) → j < count s → In s (place s j)
unfolding place count
place_in [] j h = tt
place_in (n ∷ s) j h =
    let r = row_in n (count s) j h in
    (r.1, place_in s (j % count s) (mod-lt j r.0))

pub place-length : (s : List ℕ) (j : ℕ) → length (place s j) ≡ length s
unfolding place
place-length [] j = refl
place-length (n ∷ s) j = ap suc (place-length s (j % count s))

pub place-index : (s p : List ℕ) → In s p → place s (index s p) ≡ p
unfolding place index
place-index [] [] h = refl
place-index [] (i ∷ p) h = absurd h
place-index (n ∷ s) [] h = absurd h
place-index (n ∷ s) (i ∷ p) h =
    let l : index s p < count s = index-lt s p h.1 in
    cc (digits_div i l, digits_mod i l, place-index s p h.1)

pub index-place : (s : List ℕ) (j : ℕ) → j < count s → index s (place s j) ≡ j
unfolding place index count
index-place [] j h = omega arith
index-place (n ∷ s) j h = rw (index-place s (j % count s) (mod-lt j (row_in n (count s) j h).0)) (div-add-mod' j (count s))
