-- Tests and the facts that they decide: std's, by the names that they have here, and two more.
use mathlib.Core.Path.{◌≡◌, refl}
use mathlib.Core.Bool.{Bool, true, false, cond}
use Prim.Native.Nat.{ℕ}
use native.Mathlib.Omega.{arith}
pub use Rattle.std.proofs.lemmas.Bool.{and_parts as both, and_from as and-true, or_left, false_from_ne_true as refuted}

pub no_way {ℓ} : {X : Type ℓ} → false ≡ true → X
no_way e = absurd (let z : ◌≡◌ {A = ℕ} 0 1 = cc in omega arith)

-- What a test lets through need only be the same where it passes.
pub cond_same : {A : Type 0} {x y : A} (z : A) (b : Bool) → (b ≡ true → x ≡ y) → cond b x z ≡ cond b y z
cond_same z true e = e refl
cond_same z false e = refl
