-- The test int_same and equality.
use Prim.Native.Nat.{ℕ, zero, suc, ◌<◌, ◌≤◌, ◌^◌}
use native.Mathlib.Omega.{arith}
use mathlib.Core.Path.{◌≡◌, refl, sym, ap, ◌∙◌}
use mathlib.Core.Bool.{Bool, true, false, ◌||◌}
use lib.Dec.{eqb, lit<}
use lib.IntN.{ℤ, pos, negsuc, nat_abs}
use mir.Syntax.{w32}
use mir.Val.{SFits, of_z}
use borrow.Author.Tests.{eqb-true, eq-eqb, ne_eqb}
use Rattle.shape.proofs.Bools.{no_way}
use Rattle.meaning.specs.Terms.{int_same, is_bit}
use Rattle.meaning.specs.Reply.{is_origin}
use Rattle.signed.proofs.Reading.{bits-inj}

pub int_same-refl : (x : ℤ) → int_same x x ≡ true
unfolding int_same
int_same-refl (pos a) = eq-eqb a a refl
int_same-refl (negsuc a) = eq-eqb a a refl

pub int_same-true : (x y : ℤ) → int_same x y ≡ true → x ≡ y
unfolding int_same
int_same-true (pos a) (pos b) e = ap pos (eqb-true a b e)
int_same-true (negsuc a) (negsuc b) e = ap negsuc (eqb-true a b e)
int_same-true (pos a) (negsuc b) e = no_way e
int_same-true (negsuc a) (pos b) e = no_way e

pub int_same-same : (x y : ℤ) → x ≡ y → int_same x y ≡ true
int_same-same x y e = rw e (int_same-refl y)

pub int_same-false : (x y : ℤ) → int_same x y ≡ false → x ≡ y → ⊥
int_same-false x y h e = no_way (sym h ∙ int_same-same x y e)

-- The code's test of two numbers is one of their bits.
pub int_same-bits : (x y : ℤ) → SFits w32 x → SFits w32 y → eqb (of_z w32 x) (of_z w32 y) ≡ int_same x y
int_same-bits x y f g = by-test (int_same x y) refl
  where
    by-test : (t : Bool) → int_same x y ≡ t → eqb (of_z w32 x) (of_z w32 y) ≡ t
    by-test true e = eq-eqb (of_z w32 x) (of_z w32 y) (ap (of_z w32) (int_same-true x y e))
    by-test false e = ne_eqb (of_z w32 x) (of_z w32 y) (λ q. int_same-false x y e (bits-inj x y f g q))

-- The code's test of a number and a literal.
pub int_same-key : (z : ℤ) (n : ℕ) → SFits w32 z → n < 2 ^ 31 → eqb (of_z w32 z) n ≡ int_same z (pos n)
int_same-key z n f b = int_same-bits z (pos n) f (record { sfits = omega arith })

-- So are the tests of a bit.
pub bit_bits : (z : ℤ) → SFits w32 z → is_bit z ≡ (eqb (of_z w32 z) 0 || eqb (of_z w32 z) 1)
bit_bits z f = rw (int_same-key z 0 f (lit< tt), int_same-key z 1 f (lit< tt)) refl

-- 0 and 1, and so an origin, are their own sizes.
pub bit_is : (z : ℤ) → is_bit z ≡ true → (z ≡ pos (nat_abs z)) × (nat_abs z ≤ 1)
unfolding int_same
bit_is (pos zero) h = (refl, omega arith)
bit_is (pos (suc n)) h = let e : n ≡ 0 = by-test (eqb (suc n) 0) (eqb (suc n) 1) refl refl h in (refl, omega arith)
  where
    by-test : (s t : Bool) → eqb (suc n) 0 ≡ s → eqb (suc n) 1 ≡ t → (s || t) ≡ true → n ≡ 0
    by-test true t p q e = absurd (omega (arith, eqb-true (suc n) 0 p))
    by-test false true p q e = omega (arith, eqb-true (suc n) 1 q)
    by-test false false p q e = no_way e
bit_is (negsuc n) h = no_way h

pub origin-is : (g : ℤ) → is_origin g ≡ true → (g ≡ pos (nat_abs g)) × (nat_abs g ≤ 1)
unfolding is_origin
origin-is g h = bit_is g h
