-- Numbers that are positions: from 0 to n - 1.
use Prim.Native.Nat.{ℕ, ◌<◌}
use native.Mathlib.Omega.{arith}
use mathlib.Core.Path.{◌≡◌, refl, sym}
use mathlib.Core.Bool.{true, false}
use lib.Dec.{ltb}
use lib.IntN.{ℤ, pos, negsuc, nat_abs}
use borrow.Author.Tests.{ltb-true}
use Rattle.shape.proofs.Bools.{no_way}
use Rattle.meaning.specs.Terms.{negative, within}

pub within-lt : (z : ℤ) (n : ℕ) → within z n ≡ true → nat_abs z < n
unfolding within
within-lt (pos i) n h = ltb-true i n h
within-lt (negsuc m) n h = no_way h

-- A number from 0 up is within n if its size is below n; one below 0 never is.
pub within-size : (z : ℤ) (n : ℕ) → negative z ≡ false → within z n ≡ ltb (nat_abs z) n
unfolding within negative
within-size (pos i) n h = refl
within-size (negsuc m) n h = no_way (sym h)

pub within-negative : (z : ℤ) (n : ℕ) → negative z ≡ true → within z n ≡ false
unfolding within negative
within-negative (pos i) n h = no_way h
within-negative (negsuc m) n h = refl

-- The same of the position that the code finds, where the definitions have m for the n of the code.
pub within-below : (z : ℤ) (m n i : ℕ) → m ≡ n → i ≡ nat_abs z → within z m ≡ true → i < n
within-below z m n i r e h = omega (arith, within-lt z m h)
