-- The number of a sign and a magnitude, where it fits.
use Rattle.std.proofs.Common.{◌≡◌, ℕ, zero, suc, ◌^◌, ◌<◌, Bool, true, false, ℤ, pos, negsuc, ◌-ℤ◌, ◌+ℤ◌, neg_ℤ, refl, arith, w32, SFits, le-ltb, lt-ltb}
use Rattle.std.proofs.Common.{Option, Some, None}
use Rattle.std.specs.Prelude.{SomeIff}
use mathlib.Core.Option.{none, some}
use lib.IntN.{+ℤ_idl}
use Rattle.sheet_line.specs.Numbers.{magnitude, fits, signed, ended}
use Rattle.sheet_line.specs.Steps.{found}

fits-is : (z : ℤ) → SFits w32 z → fits z ≡ true
unfolding fits
fits-is (pos n) h = lt-ltb n (2 ^ 31) h.sfits
fits-is (negsuc m) h = lt-ltb m (2 ^ 31) h.sfits

fits-not : (z : ℤ) → (SFits w32 z → ⊥) → fits z ≡ false
unfolding fits
fits-not (pos n) h = let k = λ (q : n < 2 ^ 31). h (record { sfits = q }) in le-ltb n (2 ^ 31) (omega arith)
fits-not (negsuc m) h = let k = λ (q : m < 2 ^ 31). h (record { sfits = q }) in le-ltb m (2 ^ 31) (omega arith)

-- What a test of the number finds.
abbrev Tested : Option ℤ → ℤ → Type 0
Tested r z = SomeIff r (SFits w32 z) z

ended-is : (negative : Bool) (n : ℕ) (r : Option ℤ) → Tested r (signed negative n) → ended (magnitude negative n) ≡ found r
unfolding ended
ended-is negative n None h = rw (fits-not (signed negative n) h)
ended-is negative n (Some z) h = rw (fits-is (signed negative n) h.0, h.1)

module _ (negative : Bool) (n : ℕ) (r : Option ℤ) where
  pub below-zero : negative ≡ true → Tested r (pos 0 -ℤ pos n) → ended (magnitude negative n) ≡ found r
  unfolding signed
  below-zero e h = rw e (ended-is true n r (rw (+ℤ_idl (neg_ℤ (pos n))) at h))

  pub from-zero : negative ≡ false → Tested r (pos 0 +ℤ pos n) → ended (magnitude negative n) ≡ found r
  unfolding signed
  from-zero e h = rw e (ended-is false n r (rw (+ℤ_idl (pos n)) at h))

pub zero-is : ended (magnitude false 0) ≡ some (pos 0)
unfolding ended signed fits
zero-is = refl

pub magnitude-over : (negative : Bool) (n : ℕ) → 2 ^ 31 < n → ended (magnitude negative n) ≡ none
unfolding ended signed fits
magnitude-over true zero h = absurd (omega arith)
magnitude-over true (suc n) h = rw (le-ltb n (2 ^ 31) (omega arith))
magnitude-over false n h = rw (le-ltb n (2 ^ 31) (omega arith))
