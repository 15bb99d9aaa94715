-- What `position` tells of a number and the origin.
use mathlib.Core.Path.{◌≡◌, refl}
use mathlib.Core.Bool.{Bool, true, false, cond}
use Prim.Native.Nat.{ℕ, ◌<◌}
use native.Mathlib.Omega.{arith}
use lib.IntN.{ℤ, ◌-ℤ◌}
use mir.Syntax.{w32}
use mir.Val.{SFits, to_z, of_z}
use Rattle.std.specs.Prelude.{Option, Some, None}
use Rattle.meaning.specs.Terms.{within, from_zero}
use Rattle.meaning.proofs.Positions.{within-lt}
use Rattle.signed.proofs.Reading.{read32}

-- Its answer.
abbrev pub found_of : ℤ → ℤ → ℕ → Option ℕ
found_of z g n = cond (within (z -ℤ g) n) (Some (from_zero g z)) None

pub record IsAt (z g : ℤ) (n i : ℕ) : Type 0 where
  pub inside : within (z -ℤ g) n ≡ true
  pub is : i ≡ from_zero g z
  pub below : i < n

module _ (z g : ℤ) (n : ℕ) where
  pub found_at : (i : ℕ) → Some i ≡ found_of z g n → IsAt z g n i
  found_at i e = by (within (z -ℤ g) n) refl e
    where
      by : (b : Bool) → within (z -ℤ g) n ≡ b → Some i ≡ cond b (Some (from_zero g z)) None → IsAt z g n i
      by true w e = let q : i ≡ from_zero g z = cc in record { inside = w; is = q; below = omega (arith, within-lt (z -ℤ g) n w) }
      by false w e = absurd (let q : ◌≡◌ {A = ℕ} 0 1 = cc in omega arith)

  pub found_none : None ≡ found_of z g n → within (z -ℤ g) n ≡ false
  found_none e = by (within (z -ℤ g) n) e
    where
      by : (b : Bool) → None ≡ cond b (Some (from_zero g z)) None → b ≡ false
      by true e = absurd (let q : ◌≡◌ {A = ℕ} 0 1 = cc in omega arith)
      by false e = refl

-- The same of numbers that a call has read from locals.
module _ (z g : ℤ) (f : SFits w32 z) (h : SFits w32 g) where
  pub read_found : (n : ℕ) → found_of (to_z w32 (of_z w32 z)) (to_z w32 (of_z w32 g)) n ≡ found_of z g n
  read_found n = rw (read32 z f, read32 g h)

  pub read-from-zero : from_zero (to_z w32 (of_z w32 g)) (to_z w32 (of_z w32 z)) ≡ from_zero g z
  read-from-zero = rw (read32 z f, read32 g h)
