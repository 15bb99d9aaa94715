-- A scalar that is read as an array of n lengths of 1.
use mathlib.Core.Path.{◌≡◌, refl}
use mathlib.Core.List.{List, [], ◌∷◌}
use mathlib.Core.Bool.{Bool, true, false, cond}
use Prim.Native.Nat.{ℕ, max, ◌<◌}
use native.Mathlib.Omega.{arith}
use borrow.Author.Tests.{eqb-true, eqb-false, eq-eqb, ne_eqb}
use lib.ListN.{length, replicate}
use lib.Dec.{eqb}
use Rattle.shape.specs.Shape.{count}
use Rattle.meaning.specs.Array.{Array}
use Rattle.meaning.specs.Terms.{rank, as_rank, as_vector}

pub scalar-as : (n : ℕ) (a : Array) → rank a ≡ 0 → as_rank n a ≡ record { lengths = replicate n 1; elements = a.elements }
scalar-as n a h = rw (eq-eqb (rank a) 0 h)

pub array-as : (n : ℕ) (a : Array) → 0 < rank a → as_rank n a ≡ a
array-as n a h = rw (ne_eqb (rank a) 0 (λ e. omega arith))

pub vector-rank : (a : Array) → rank (as_vector a) ≡ max 1 (rank a)
vector-rank a = by (eqb (rank a) 0) refl
  where
    by : (b : Bool) → eqb (rank a) 0 ≡ b → length (cond b (record { lengths = replicate 1 1; elements = a.elements }) a).lengths ≡ max 1 (rank a)
    by true e = omega (arith, eqb-true (rank a) 0 e)
    by false e = let f = eqb-false (rank a) 0 e in omega arith

-- A scalar has one element.
pub scalar-count : (ns : List ℕ) → length ns ≡ 0 → count ns ≡ 1
unfolding count
scalar-count [] h = refl
scalar-count (n ∷ ns) h = absurd (omega arith)
