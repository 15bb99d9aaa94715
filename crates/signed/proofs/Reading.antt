-- What a local that holds a signed number is read as: its bits give the number back.
use Prim.Native.Nat.{ℕ, ◌<◌, ◌≤◌, ◌^◌}
use native.Mathlib.Omega.{arith}
use mathlib.Core.Path.{◌≡◌, sym, ap, ◌∙◌}
use mathlib.Core.Bool.{cond}
use lib.Dec.{leb}
use lib.IntN.{ℤ, pos}
use mir.Syntax.{w32, w64}
use mir.Val.{SFits, to_z, of_z}
use mir.Facts.{to_z-of_z, to_z_pos, sfits_widen}
use borrow.Author.Tests.{le-leb}

pub read32 : (x : ℤ) → SFits w32 x → to_z w32 (of_z w32 x) ≡ x
read32 x f = to_z-of_z f

-- `x as i64`.
pub read_wide : (x : ℤ) → SFits w32 x → to_z w64 (of_z w64 (to_z w32 (of_z w32 x))) ≡ x
read_wide x f = ap (λ z. to_z w64 (of_z w64 z)) (read32 x f) ∙ to_z-of_z {w = w64} (sfits_widen {w = w32} {w' = w64} tt f)

pub fits-wide : (x : ℤ) → SFits w32 x → SFits w64 (to_z w32 (of_z w32 x))
fits-wide x f = rw (read32 x f) (sfits_widen {w = w32} {w' = w64} tt f)

-- A number from 0 up that fits is read as itself.
pub read_pos : (n : ℕ) → n ≤ 2147483647 → to_z w32 n ≡ pos n
read_pos n h = to_z_pos w32 {n = n} (omega arith)

-- What `element` answers for a number that is not too large.
pub element-is : (n : ℕ) → n ≤ 2147483647 → cond (leb n 2147483647) (pos n) (pos 0) ≡ pos n
element-is n h = rw (le-leb n 2147483647 h)

-- An arm `n =>` of a `match` on an i32, or a test `z == n`: the bits are n, so the number is.
pub key : {z : ℤ} (n : ℕ) → SFits w32 z → n < 2 ^ 31 → of_z w32 z ≡ n → z ≡ pos n
key n f b e = sym (to_z-of_z f) ∙ ap (to_z w32) e ∙ to_z_pos w32 b

-- Two numbers with the same bits are the same.
pub bits-inj : (x y : ℤ) → SFits w32 x → SFits w32 y → of_z w32 x ≡ of_z w32 y → x ≡ y
bits-inj x y f g e = sym (to_z-of_z f) ∙ ap (to_z w32) e ∙ to_z-of_z g
