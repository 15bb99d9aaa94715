-- The first n along an axis and what dropping n leaves, at any rank and axis.
use mathlib.Core.Path.{◌≡◌, refl, ap, ap₂, ◌∙◌}
use mathlib.Core.List.{List, [], ◌∷◌, map}
use Prim.Native.Nat.{ℕ, zero, suc, ◌+◌, ◌-◌, ◌≤◌, ◌<◌}
use native.Mathlib.Nat.{add-zero, sub-zero}
use native.Mathlib.Omega.{arith}
use lib.ListN.{length, get_or, set, length-set, length-map}
use lib.IntN.{ℤ, pos, nat_abs}
use Rattle.shape.proofs.Places.{In, in-inside}
use Rattle.shape.proofs.Axis.{in-length}
use Rattle.meaning.specs.Array.{Array, at, build}
use Rattle.meaning.specs.Terms.{rank, axis, negative}
use Rattle.meaning.specs.Primitives.{taken_from, taken_place, at_or_zero, takes, dropped_lengths, dropped_place, drops}
use Rattle.meaning.proofs.Arrays.{build-lengths, build-ext}
use Rattle.meaning.proofs.Scalars.{array-as}
use Rattle.laws.proofs.Calls.{result}
use Rattle.laws.proofs.Ravel.{sizes-pos, not_negative}

-- The numbers of the first n along axis k, and of dropping n there.
abbrev pub firsts : List ℕ → ℕ → ℕ → List ℤ
firsts ns k n = set (map pos ns) k (pos n)

abbrev pub lesser : List ℕ → ℕ → ℕ → List ℤ
lesser ns k n = set (map (λ m. pos 0) ns) k (pos n)

pub length-firsts : (ns : List ℕ) (k n : ℕ) → length (firsts ns k n) ≡ length ns
length-firsts ns k n = length-set (map pos ns) k (pos n) ∙ length-map ns pos

pub length-lesser : (ns : List ℕ) (k n : ℕ) → length (lesser ns k n) ≡ length ns
length-lesser ns k n = length-set (map (λ m. pos 0) ns) k (pos n) ∙ length-map ns (λ m. pos 0)

pub sizes-firsts : (ns : List ℕ) (k n : ℕ) → map nat_abs (firsts ns k n) ≡ set ns k n
sizes-firsts [] k n = refl
sizes-firsts (m ∷ ns) zero n = ap (λ q. n ∷ q) (sizes-pos ns)
sizes-firsts (m ∷ ns) (suc k) n = ap (λ q. m ∷ q) (sizes-firsts ns k n)

-- Numbers that are not negative take from the front: each position stays.
taken-all : (zs ns p : List ℕ) → length zs ≡ length ns → length p ≡ length ns → taken_place (map pos zs) ns p ≡ map pos p
unfolding taken_place taken_from negative
taken-all [] [] [] d e = refl
taken-all [] [] (i ∷ p) d e = absurd (omega arith)
taken-all [] (m ∷ ns) p d e = absurd (omega arith)
taken-all (z ∷ zs) [] p d e = absurd (omega arith)
taken-all (z ∷ zs) (m ∷ ns) [] d e = absurd (omega arith)
taken-all (z ∷ zs) (m ∷ ns) (i ∷ p) d e = ap (λ q. pos i ∷ q) (taken-all zs ns p (omega arith) (omega arith))

-- The numbers of the first n are not negative either.
firsts-pos : (ns : List ℕ) (k n : ℕ) → firsts ns k n ≡ map pos (set ns k n)
firsts-pos [] k n = refl
firsts-pos (m ∷ ns) zero n = refl
firsts-pos (m ∷ ns) (suc k) n = ap (λ q. pos m ∷ q) (firsts-pos ns k n)

at_place : (a : Array) (p : List ℕ) → In a.lengths p → at_or_zero a (map pos p) ≡ at a p
unfolding at_or_zero
at_place a p h = rw (not_negative p, sizes-pos p, in-inside a.lengths p h)

-- A place of a shape whose axis k is shorter is a place of the shape.
pub in-shorter : (s p : List ℕ) (k n : ℕ) → n ≤ get_or s k 0 → In (set s k n) p → In s p
in-shorter [] p k n h i = i
in-shorter (m ∷ s) [] k n h i = in-none k i
  where
    in-none : (k : ℕ) → In (set (m ∷ s) k n) [] → ⊥
    in-none zero i = i
    in-none (suc k) i = i
in-shorter (m ∷ s) (j ∷ p) zero n h i = (omega arith, i.1)
in-shorter (m ∷ s) (j ∷ p) (suc k) n h i = (i.0, in-shorter s p k n h i.1)

-- The first n along axis k.
unfoldable pub first_part : Array → ℕ → ℕ → Array
first_part a k n = build (set a.lengths k n) (at a)

pub front-lengths : (a : Array) (k n : ℕ) → (first_part a k n).lengths ≡ set a.lengths k n
unfolding first_part
front-lengths a k n = build-lengths (set a.lengths k n) (at a)

pub takes_front : (ls : List ℕ) (a : Array) (k n : ℕ) → 0 < rank a → n ≤ axis a k
    → result (takes (record { lengths = ls; elements = firsts a.lengths k n }) a) ≡ first_part a k n
unfolding takes first_part
takes_front ls a k n r h =
    let ns : List ℕ = a.lengths in
    let z : List ℤ = firsts ns k n in
    ap (λ b. build (map nat_abs z) (λ p. at_or_zero b (taken_place z b.lengths p))) (array-as (length z) a r)
    ∙ ap (λ t. build t (λ p. at_or_zero a (taken_place z ns p))) (sizes-firsts ns k n)
    ∙ build-ext (set ns k n) _ _
    (λ p i.
    let j : In ns p = in-shorter ns p k n h i in
    ap (λ v. at_or_zero a (taken_place v ns p)) (firsts-pos ns k n)
    ∙ ap (at_or_zero a) (taken-all (set ns k n) ns p (length-set ns k n) (in-length ns p j))
    ∙ at_place a p j)

dropped-none : (ns : List ℕ) → dropped_lengths (map (λ m. pos 0) ns) ns ≡ ns
unfolding dropped_lengths
dropped-none [] = refl
dropped-none (m ∷ ns) = ap₂ ◌∷◌ (sub-zero m) (dropped-none ns)

pub lengths-lesser : (ns : List ℕ) (k n : ℕ) → dropped_lengths (lesser ns k n) ns ≡ set ns k (get_or ns k 0 - n)
unfolding dropped_lengths
lengths-lesser [] k n = refl
lengths-lesser (m ∷ ns) zero n = ap (λ q. (m - n) ∷ q) (dropped-none ns)
lengths-lesser (m ∷ ns) (suc k) n = ap₂ ◌∷◌ (sub-zero m) (lengths-lesser ns k n)

place_none : (ns p : List ℕ) → length p ≡ length ns → dropped_place (map (λ m. pos 0) ns) p ≡ p
unfolding dropped_place negative
place_none [] [] e = refl
place_none [] (i ∷ p) e = absurd (omega arith)
place_none (m ∷ ns) [] e = absurd (omega arith)
place_none (m ∷ ns) (i ∷ p) e = ap₂ ◌∷◌ (add-zero i) (place_none ns p (omega arith))

place-lesser : (ns p : List ℕ) (k n : ℕ) → length p ≡ length ns → dropped_place (lesser ns k n) p ≡ set p k (get_or p k 0 + n)
unfolding dropped_place negative
place-lesser [] [] k n e = refl
place-lesser [] (i ∷ p) k n e = absurd (omega arith)
place-lesser (m ∷ ns) [] k n e = absurd (omega arith)
place-lesser (m ∷ ns) (i ∷ p) zero n e = ap (λ q. (i + n) ∷ q) (place_none ns p (omega arith))
place-lesser (m ∷ ns) (i ∷ p) (suc k) n e = ap₂ ◌∷◌ (add-zero i) (place-lesser ns p k n (omega arith))

-- What dropping n along axis k leaves.
unfoldable pub back : Array → ℕ → ℕ → Array
back a k n = build (set a.lengths k (axis a k - n)) (λ p. at a (set p k (get_or p k 0 + n)))

pub back-lengths : (a : Array) (k n : ℕ) → (back a k n).lengths ≡ set a.lengths k (axis a k - n)
unfolding back
back-lengths a k n = build-lengths (set a.lengths k (axis a k - n)) _

pub drops-back : (ls : List ℕ) (a : Array) (k n : ℕ) → 0 < rank a
    → result (drops (record { lengths = ls; elements = lesser a.lengths k n }) a) ≡ back a k n
unfolding drops back
drops-back ls a k n r =
    let ns : List ℕ = a.lengths in
    let z : List ℤ = lesser ns k n in
    ap (λ b. build (dropped_lengths z b.lengths) (λ p. at b (dropped_place z p))) (array-as (length z) a r)
    ∙ ap (λ t. build t (λ p. at a (dropped_place z p))) (lengths-lesser ns k n)
    ∙ build-ext (set ns k (axis a k - n)) _ _
    (λ p i. ap (at a) (place-lesser ns p k n (in-length (set ns k (axis a k - n)) p i ∙ length-set ns k (axis a k - n))))
