-- Lengths and places without an axis, with rank and axis open.
use mathlib.Core.Path.{◌≡◌, refl, sym, ap, ap₂, ◌∙◌}
use mathlib.Core.List.{List, [], ◌∷◌, ◌++◌}
use Prim.Native.Nat.{ℕ, zero, suc, ◌+◌, ◌*◌, ◌/◌, ◌%◌, ◌<◌}
use native.Mathlib.Nat.{zero-mul, zero-add, one-mul, mod-lt, mod-eq_of_lt, div-eq_of_lt, not-suc-le-zero, le_of_suc-le-suc}
use native.Mathlib.Omega.{arith}
use lib.ListN.{length, get_or, set, take, drop}
use Rattle.shape.specs.Shape.{count, without}
use Rattle.shape.specs.Place.{place, index}
use Rattle.shape.proofs.Places.{In, row_in}
use Rattle.meaning.specs.Array.{Array, at, tab, build}
use Rattle.meaning.specs.Terms.{rank, put_in, along}
use Rattle.meaning.proofs.Tab.{tab-ext}

pub without-set : (ns : List ℕ) (k n : ℕ) → without k (set ns k n) ≡ without k ns
unfolding without
without-set [] k n = refl
without-set (m ∷ ns) zero n = refl
without-set (m ∷ ns) (suc k) n = ap (λ q. m ∷ q) (without-set ns k n)

-- What stands before the axis, and what stands after it.
pub without-parts : (ns : List ℕ) (k : ℕ) → without k ns ≡ take k ns ++ drop (suc k) ns
unfolding without
without-parts [] zero = refl
without-parts [] (suc k) = refl
without-parts (n ∷ ns) zero = refl
without-parts (n ∷ ns) (suc k) = ap (λ q. n ∷ q) (without-parts ns k)

-- An axis of length 1 and no axis: the counts are equal.
pub count-without : (ns : List ℕ) (k : ℕ) → k < length ns → count (without k ns) ≡ count (set ns k 1)
unfolding without count
count-without [] k l = absurd (not-suc-le-zero l)
count-without (n ∷ ns) zero l = sym (one-mul (count ns))
count-without (n ∷ ns) (suc k) l = ap (λ c. n * c) (count-without ns k (le_of_suc-le-suc l))

-- And so are the places: position φ 0 put in as axis k, and along an axis of length 1 the position φ of the only one.
pub put-place : (φ : ℕ → ℕ) (ns : List ℕ) (k j : ℕ) → k < length ns → j < count (without k ns)
    → put_in k (φ 0) (place (without k ns) j) ≡ set (place (set ns k 1) j) k (φ (get_or (place (set ns k 1) j) k 0))
unfolding without count place put_in
put-place φ [] k j l h = absurd (not-suc-le-zero l)
put-place φ (n ∷ ns) zero j l h = rw (div-eq_of_lt h, mod-eq_of_lt h)
put-place φ (n ∷ ns) (suc k) j l h =
    let e : count (without k ns) ≡ count (set ns k 1) = count-without ns k (le_of_suc-le-suc l) in
    let some : 0 < count (without k ns) = (row_in n (count (without k ns)) j h).0 in
    rw (← e) (ap (λ q. j / count (without k ns) ∷ q) (put-place φ ns k (j % count (without k ns)) (le_of_suc-le-suc l) (mod-lt j some)))

-- An axis that is removed at one position, on the flat list: the axis becomes one of length 1.
pub removed : (a : Array) (k : ℕ) (φ : ℕ → ℕ) → k < rank a
    → (build (without k a.lengths) (λ p. at a (put_in k (φ 0) p))).elements ≡ (build (set a.lengths k 1) (along a k φ)).elements
unfolding build along
removed a k φ l =
    tab-ext (count (without k a.lengths)) _ _ (λ j h. ap (at a) (put-place φ a.lengths k j l h))
    ∙ ap (λ n. tab n (λ j. at a (set (place (set a.lengths k 1) j) k (φ (get_or (place (set a.lengths k 1) j) k 0))))) (count-without a.lengths k l)

-- A place without the only position of an axis.
pub index-without : (ns : List ℕ) (k : ℕ) (p : List ℕ) → k < length ns → In (set ns k 1) p → index (without k ns) (without k p) ≡ index (set ns k 1) p
unfolding without index
index-without [] k p l h = absurd (not-suc-le-zero l)
index-without (n ∷ ns) zero [] l h = absurd h
index-without (n ∷ ns) zero (i ∷ p) l h =
    let z : i ≡ 0 = omega (arith, h.0) in
    sym (ap (λ x. x * count ns + index ns p) z ∙ ap (λ x. x + index ns p) (zero-mul (count ns)) ∙ zero-add (index ns p))
index-without (n ∷ ns) (suc k) [] l h = absurd h
index-without (n ∷ ns) (suc k) (i ∷ p) l h =
    ap₂ (λ c x. i * c + x) (count-without ns k (le_of_suc-le-suc l)) (index-without ns k p (le_of_suc-le-suc l) h.1)

-- Lengths that agree but for axis k.
pub same_set : (xs ns : List ℕ) (k : ℕ) → length xs ≡ length ns → k < length ns → without k xs ≡ without k ns → xs ≡ set ns k (get_or xs k 0)
unfolding without
same_set xs [] k e l h = absurd (not-suc-le-zero l)
same_set [] (n ∷ ns) k e l h = absurd (omega arith)
same_set (x ∷ xs) (n ∷ ns) zero e l h = ap (λ q. x ∷ q) h
same_set (x ∷ xs) (n ∷ ns) (suc k) e l h =
    let head : x ≡ n = cc in
    let rest : without k xs ≡ without k ns = cc in
    ap₂ (λ y q. y ∷ q) head (same_set xs ns k (omega arith) (le_of_suc-le-suc l) rest)
