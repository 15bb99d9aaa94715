-- One axis of a shape, with what stands before and after it.
use mathlib.Core.Path.{◌≡◌, refl, sym, ap, ◌∙◌}
use mathlib.Core.List.{List, [], ◌∷◌}
use Prim.Native.Nat.{ℕ, zero, suc, ◌+◌, ◌*◌, ◌/◌, ◌%◌, ◌<◌}
use native.Mathlib.Nat.{zero-mul, zero-add, one-mul, not-suc-le-zero, le_of_suc-le-suc}
use native.Mathlib.Omega.{arith}
use lib.ListN.{length, get_or, set, take, drop, length-set}
use lib.Seq.{set-set, get_or-set_same, take-set-le, drop-set-lt, set-get_or}
use lib.Arith.{digits_div, digits_mod}
use Rattle.shape.proofs.Places.{In, index-lt, place_in, index-place}
use Rattle.shape.specs.Shape.{count}
use Rattle.shape.specs.Place.{index, place}

-- A place in a shape has as many positions as the shape has axes.
pub in-length : (s p : List ℕ) → In s p → length p ≡ length s
in-length [] [] h = refl
in-length [] (i ∷ p) h = absurd h
in-length (n ∷ s) [] h = absurd h
in-length (n ∷ s) (i ∷ p) h = ap suc (in-length s p h.1)

-- Its position on an axis is below the axis's length.
pub in-at : (s p : List ℕ) (k : ℕ) → In s p → k < length s → get_or p k 0 < get_or s k 0
in-at [] p k h l = absurd (not-suc-le-zero l)
in-at (n ∷ s) [] k h l = absurd h
in-at (n ∷ s) (i ∷ p) zero h l = h.0
in-at (n ∷ s) (i ∷ p) (suc k) h l = in-at s p k h.1 (le_of_suc-le-suc l)

-- And a list of as many positions, each below its axis's length, is a place.
pub in-from : (s p : List ℕ) → length p ≡ length s → ((k : ℕ) → k < length s → get_or p k 0 < get_or s k 0) → In s p
in-from [] [] e h = tt
in-from [] (i ∷ p) e h = absurd (omega arith)
in-from (n ∷ s) [] e h = absurd (omega arith)
in-from (n ∷ s) (i ∷ p) e h = (h zero (omega arith), in-from s p (omega arith) (λ k l. h (suc k) (omega arith)))

-- A place with another position on axis k lies in the shape with the axis's length changed.
pub in-set : (s p : List ℕ) (k n i : ℕ) → In s p → i < n → In (set s k n) (set p k i)
in-set [] [] k n i h l = tt
in-set [] (j ∷ p) k n i h l = absurd h
in-set (m ∷ s) [] k n i h l = absurd h
in-set (m ∷ s) (j ∷ p) zero n i h l = (l, h.1)
in-set (m ∷ s) (j ∷ p) (suc k) n i h l = (h.0, in-set s p k n i h.1 l)

-- The count, by what stands before axis k, its length and what stands after it.
pub count-axis : (s : List ℕ) (k : ℕ) → k < length s → count s ≡ count (take k s) * get_or s k 0 * count (drop (suc k) s)
unfolding count
count-axis [] k l = absurd (not-suc-le-zero l)
count-axis (n ∷ s) zero l = rw one-mul
count-axis (n ∷ s) (suc k) l = rw (count-axis s k (le_of_suc-le-suc l)) (omega arith)

-- The index, by the part before axis k, the position on it and the part after it.
pub index-axis : (s p : List ℕ) (k : ℕ) → In s p → k < length s
    → index s p ≡ (index (take k s) (take k p) * get_or s k 0 + get_or p k 0) * count (drop (suc k) s) + index (drop (suc k) s) (drop (suc k) p)
unfolding index count
index-axis [] p k h l = absurd (not-suc-le-zero l)
index-axis (n ∷ s) [] k h l = absurd h
index-axis (n ∷ s) (i ∷ p) zero h l = rw (zero-mul, zero-add)
index-axis (n ∷ s) (i ∷ p) (suc k) h l =
    let l' : k < length s = le_of_suc-le-suc l in
    rw (index-axis s p k h.1 l', count-axis s k l') (omega arith)

in-drop : (s p : List ℕ) (k : ℕ) → In s p → In (drop k s) (drop k p)
in-drop s p zero h = h
in-drop [] [] (suc k) h = tt
in-drop [] (i ∷ p) (suc k) h = absurd h
in-drop (n ∷ s) [] (suc k) h = absurd h
in-drop (n ∷ s) (i ∷ p) (suc k) h = in-drop s p k h.1

-- The digits of a number in two bases.
digits-two : (o i r m c j : ℕ) → i < m → r < c → j ≡ (o * m + i) * c + r → (j / c / m ≡ o) × (j / c % m ≡ i) × (j % c ≡ r)
digits-two o i r m c j i< r< e =
    let q : j / c ≡ o * m + i = ap (λ x. x / c) e ∙ digits_div (o * m + i) r< in
    (ap (λ x. x / m) q ∙ digits_div o i<, ap (λ x. x % m) q ∙ digits_mod o i<, ap (λ x. x % c) e ∙ digits_mod (o * m + i) r<)

-- A place p of a shape whose axis k has the length m, by its index j.
module _ (s p : List ℕ) (k m : ℕ) (l : k < length s) (h : In (set s k m) p) where
  l' : k < length (set s k m)
  l' = rw length-set l

  below : get_or p k 0 < m
  below = rw (get_or-set_same s k m 0 l) at (in-at (set s k m) p k h l')

  after : index (drop (suc k) s) (drop (suc k) p) < count (drop (suc k) s)
  after = index-lt _ _ (rw (drop-set-lt (suc k) s k m (omega arith)) at (in-drop (set s k m) p (suc k) h))

  split : index (set s k m) p ≡ (index (take k s) (take k p) * m + get_or p k 0) * count (drop (suc k) s) + index (drop (suc k) s) (drop (suc k) p)
  split =
      rw (take-set-le k s k m (omega arith), get_or-set_same s k m 0 l, drop-set-lt (suc k) s k m (omega arith))
      at (index-axis (set s k m) p k h l')

  module _ (j : ℕ) (e : index (set s k m) p ≡ j) where
    digits : (j / count (drop (suc k) s) / m ≡ index (take k s) (take k p))
        × (j / count (drop (suc k) s) % m ≡ get_or p k 0)
        × (j % count (drop (suc k) s) ≡ index (drop (suc k) s) (drop (suc k) p))
    digits = digits-two _ _ _ m _ j below after (sym e ∙ split)

  -- The same place with position x on axis k, in the shape itself.
  moved : (x : ℕ) → x < get_or s k 0
      → index s (set p k x) ≡ (index (take k s) (take k p) * get_or s k 0 + x) * count (drop (suc k) s) + index (drop (suc k) s) (drop (suc k) p)
  moved x x< =
      let lp : k < length p = rw (in-length (set s k m) p h) l' in
      let i : In s (set p k x) = rw (set-set s k m (get_or s k 0), set-get_or s k 0) at (in-set (set s k m) p k (get_or s k 0) x h x<) in
      rw (take-set-le k p k x (omega arith), get_or-set_same p k x 0 lp, drop-set-lt (suc k) p k x (omega arith)) at (index-axis s (set p k x) k i l)

module _ (s : List ℕ) (k m j : ℕ) (l : k < length s) (h : j < count (set s k m)) where
  pub axis-position : get_or (place (set s k m) j) k 0 ≡ j / count (drop (suc k) s) % m
  axis-position = sym (digits s (place (set s k m) j) k m l (place_in (set s k m) j h) j (index-place (set s k m) j h)).1

  pub axis-position-lt : get_or (place (set s k m) j) k 0 < m
  axis-position-lt = below s (place (set s k m) j) k m l (place_in (set s k m) j h)

  -- The bridge: place j with position x on axis k, in the shape itself.
  pub axis-index : (x : ℕ) → x < get_or s k 0
      → index s (set (place (set s k m) j) k x) ≡ (j / count (drop (suc k) s) / m * get_or s k 0 + x) * count (drop (suc k) s) + j % count (drop (suc k) s)
  axis-index x x< =
      let p : List ℕ = place (set s k m) j in
      let i : In (set s k m) p = place_in (set s k m) j h in
      let d = digits s p k m l i j (index-place (set s k m) j h) in
      rw (d.0, d.2) (moved s p k m l i x x<)
