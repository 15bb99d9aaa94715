-- The next place row by row: one axis goes one further, and the axes after it, which were at their end, start again.
use mathlib.Core.Path.{◌≡◌, refl, sym, ap, ◌∙◌}
use mathlib.Core.List.{List, [], ◌∷◌, ◌++◌}
use Prim.Native.Nat.{ℕ, zero, suc, ◌*◌, ◌≤◌, ◌<◌}
use native.Mathlib.Nat.{not-suc-le-zero, le_of_suc-le-suc}
use native.Mathlib.Omega.{arith}
use lib.ListN.{length, get_or, take, drop, replicate}
use Rattle.shape.proofs.Places.{In, index-lt, place-index}
use Rattle.shape.specs.Shape.{count}
use Rattle.shape.specs.Place.{index, place}

-- A place is the last of its shape.
abbrev pub Last : List ℕ → List ℕ → Type 0
Last s p = suc (index s p) ≡ count s

-- The place with axis k one further and the axes after it at their start.
abbrev pub carried : List ℕ → List ℕ → ℕ → List ℕ
carried s p k = take k p ++ (suc (get_or p k 0) ∷ replicate (length (drop (suc k) s)) 0)

zeros-in : (s p : List ℕ) → In s p → In s (replicate (length s) 0)
zeros-in [] p h = tt
zeros-in (n ∷ s) [] h = absurd h
zeros-in (n ∷ s) (i ∷ p) h = (omega arith, zeros-in s p h.1)

zeros-index : (s : List ℕ) → index s (replicate (length s) 0) ≡ 0
unfolding index
zeros-index [] = refl
zeros-index (n ∷ s) = rw (zeros-index s) (omega arith)

carried-in : (s p : List ℕ) (k : ℕ) → In s p → k < length s → suc (get_or p k 0) < get_or s k 0 → In s (carried s p k)
carried-in [] p k h l b = absurd (not-suc-le-zero l)
carried-in (n ∷ s) [] k h l b = absurd h
carried-in (n ∷ s) (i ∷ p) zero h l b = (b, zeros-in s p h.1)
carried-in (n ∷ s) (i ∷ p) (suc k) h l b = (h.0, carried-in s p k h.1 (le_of_suc-le-suc l) b)

carried-index : (s p : List ℕ) (k : ℕ) → In s p → k < length s → Last (drop (suc k) s) (drop (suc k) p) → index s (carried s p k) ≡ suc (index s p)
unfolding index
carried-index [] p k h l e = absurd (not-suc-le-zero l)
carried-index (n ∷ s) [] k h l e = absurd h
carried-index (n ∷ s) (i ∷ p) zero h l e = rw (zeros-index s) (omega arith)
carried-index (n ∷ s) (i ∷ p) (suc k) h l e = rw (carried-index s p k h.1 (le_of_suc-le-suc l) e) (omega arith)

-- An axis that is not at its end, and all after it are: carrying to it gives the place that stands next.
module _ (s p : List ℕ) (k : ℕ) (h : In s p) (l : k < length s) (b : suc (get_or p k 0) < get_or s k 0) (e : Last (drop (suc k) s) (drop (suc k) p)) where
  pub next_place : place s (suc (index s p)) ≡ carried s p k
  next_place = ap (place s) (sym (carried-index s p k h l e)) ∙ place-index s (carried s p k) (carried-in s p k h l b)

  pub next-below : suc (index s p) < count s
  next-below = rw (carried-index s p k h l e) at (index-lt s (carried s p k) (carried-in s p k h l b))

-- An axis that is at its end is the last place of itself and the axes after it.
pub last_more : (s p : List ℕ) (k : ℕ) → In s p → k < length s → get_or s k 0 ≤ suc (get_or p k 0) → Last (drop (suc k) s) (drop (suc k) p)
    → Last (drop k s) (drop k p)
unfolding index count
last_more [] p k h l b e = absurd (not-suc-le-zero l)
last_more (n ∷ s) [] k h l b e = absurd h
last_more (n ∷ s) (i ∷ p) zero h l b e =
    let q : n ≡ suc i = omega arith in
    omega (arith, e, ap (λ x. x * count s) q)
last_more (n ∷ s) (i ∷ p) (suc k) h l b e = last_more s p k h.1 (le_of_suc-le-suc l) b e
