-- The sign and the magnitude of a number, as signed code finds them.
use Prim.Native.Nat.{ℕ, zero, suc, ◌+◌, ◌-◌, ◌^◌, ◌≤◌, ◌<◌}
use native.Mathlib.Omega.{arith}
use mathlib.Core.Path.{◌≡◌, refl, sym, ◌∙◌}
use mathlib.Core.Bool.{Bool, true, false, cond}
use borrow.Author.Tests.{le-leb, lt-ltb, le-ltb, ltb-true, ltb-false}
use lib.Dec.{T, leb, ltb, leb-suc-zero}
use lib.IntN.{ℤ, pos, negsuc, nat_abs, neg_ℤ, ◌+ℤ◌, ◌-ℤ◌}
use lib.Signed.{lt_z, mag, non_neg}
use mir.Syntax.{w32, w64}
use mir.Val.{Fits, SFits, to_z, of_z}
use mir.Facts.{to_z-of_z}
use Rattle.shape.proofs.Bools.{no_way}
use Rattle.meaning.specs.Terms.{negative}
use Rattle.signed.proofs.Reading.{read_wide}

-- The test `x < 0`.
pub below-zero : (x : ℤ) → lt_z x (pos 0) ≡ negative x
unfolding negative
below-zero (pos n) = leb-suc-zero n
below-zero (negsuc n) = refl

-- A number below 0 has a magnitude above 0.
pub size-pos : (x : ℤ) → negative x ≡ true → 0 < nat_abs x
unfolding negative
size-pos (pos n) h = no_way h
size-pos (negsuc n) h = omega arith

-- The test `z < g` is the sign of their difference.
sign-by : (t : Bool) (a b : ℕ) → t ≡ negative (cond t (negsuc a) (pos b))
unfolding negative
sign-by true a b = refl
sign-by false a b = refl

less-suc : (b a : ℕ) (t : Bool) → ltb b a ≡ t → ltb b a ≡ ltb (suc b) (suc a)
less-suc b a true e = e ∙ sym (lt-ltb (suc b) (suc a) (omega (arith, ltb-true b a e)))
less-suc b a false e = e ∙ sym (le-ltb (suc b) (suc a) (omega (arith, ltb-false b a e)))

pub less-negative : (z g : ℤ) → lt_z z g ≡ negative (z -ℤ g)
unfolding negative
less-negative (pos a) (pos zero) = leb-suc-zero a
less-negative (pos a) (pos (suc b)) = sign-by (ltb a (suc b)) _ _
less-negative (pos a) (negsuc b) = refl
less-negative (negsuc a) (pos zero) = sym (le-leb 1 (suc a) (omega arith)) ∙ sign-by (leb 1 (suc a)) _ _
less-negative (negsuc a) (pos (suc b)) = refl
less-negative (negsuc a) (negsuc b) = less-suc b a (ltb b a) refl ∙ sign-by (ltb (suc b) (suc a)) _ _

-- `x as usize` of an i64 from 0 up.
pub index : (x : ℤ) → SFits w64 x → negative x ≡ false → T (non_neg x) × Fits w64 (nat_abs x)
unfolding negative
index (pos n) f h = (tt, record { fits = omega (arith, f.sfits) })
index (negsuc n) f h = no_way (sym h)

-- The difference of two numbers of 32 bits has 33.
sub-mag : (a b : ℕ) (t : Bool) → ltb a b ≡ t → mag (cond t (negsuc (b - suc a)) (pos (a - b))) ≤ a + b
sub-mag a b true e = omega arith
sub-mag a b false e = omega arith

pub add-mag : (x y : ℤ) → mag (x +ℤ y) ≤ mag x + mag y + 1
add-mag (pos a) (pos b) = omega arith
add-mag (pos a) (negsuc b) = omega (arith, sub-mag a (suc b) (ltb a (suc b)) refl)
add-mag (negsuc a) (pos b) = omega (arith, sub-mag b (suc a) (ltb b (suc a)) refl)
add-mag (negsuc a) (negsuc b) = omega arith

neg-mag : (y : ℤ) → mag (neg_ℤ y) ≤ mag y + 1
neg-mag (pos zero) = omega arith
neg-mag (pos (suc b)) = omega arith
neg-mag (negsuc b) = omega arith

difference-mag : (x y : ℤ) → SFits w32 x → SFits w32 y → mag (x -ℤ y) < 2 ^ 33
difference-mag x y f g = omega (arith, add-mag x (neg_ℤ y), neg-mag y, f.sfits, g.sfits)

-- `x as i64 - y as i64`: the local that holds it is read as the difference.
pub record Difference (x y : ℤ) : Type 0 where
  pub small : mag (x -ℤ y) < 2 ^ 33
  pub fits : SFits w64 (x -ℤ y)
  pub held : to_z w64 (of_z w64 (to_z w64 (of_z w64 (to_z w32 (of_z w32 x))) -ℤ to_z w64 (of_z w64 (to_z w32 (of_z w32 y))))) ≡ x -ℤ y

pub difference : (x y : ℤ) → SFits w32 x → SFits w32 y → Difference x y
difference x y f g =
    let m : mag (x -ℤ y) < 2 ^ 33 = difference-mag x y f g in
    let fits : SFits w64 (x -ℤ y) = record { sfits = omega arith } in
    record { small = m; fits = fits; held = rw (read_wide x f, read_wide y g) (to_z-of_z fits) }
