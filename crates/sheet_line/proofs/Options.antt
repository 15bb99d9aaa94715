-- Tests and findings, taken apart.
use Rattle.std.proofs.Common.{◌≡◌, ℕ, Bool, true, false, cond, refl, arith}
use Rattle.std.proofs.Common.{Some, None, Result, Ok, Err}
use Rattle.std.specs.Result.{OkIff, result_ok}
use mathlib.Core.Option.{Option, none, some}
use Rattle.sheet_line.specs.Numbers.{and_then}

pub none-some {ℓ} : {A : Type 0} {X : Type ℓ} {a : A} → none ≡ some a → X
none-some e = absurd (let z : ◌≡◌ {A = ℕ} 0 1 = cc in omega arith)

pub some_inj : {A : Type 0} {a b : A} → some a ≡ some b → a ≡ b
some_inj e = cc

module _ {A B : Type 0} where
  pub record Passed (o : Option A) (f : A → Option B) (b : B) : Type 0 where
    pub found : A
    pub is : o ≡ some found
    pub on : f found ≡ some b

  -- What is found in the end was found at each step.
  pub passed : (o : Option A) (f : A → Option B) (b : B) → and_then o f ≡ some b → Passed o f b
  passed none f b e = none-some e
  passed (some a) f b e = record { found = a; is = refl; on = e }

module _ {A : Type 0} where
  pub if_some : (t : Bool) (o : Option A) (a : A) → cond t o none ≡ some a → (t ≡ true) × (o ≡ some a)
  if_some true o a e = (refl, e)
  if_some false o a e = none-some e

  pub unless-some : (t : Bool) (o : Option A) (a : A) → cond t none o ≡ some a → (t ≡ false) × (o ≡ some a)
  unless-some true o a e = none-some e
  unless-some false o a e = (refl, e)

-- What a conversion promised, by what was made of its result.
module _ {T E : Type 0} {P : Type 0} (v : T) where
  pub no-value : (r : Result T E) → OkIff r P v → None ≡ result_ok r → P → ⊥
  no-value (Ok x) h e p = absurd (let z : ◌≡◌ {A = ℕ} 0 1 = cc in omega arith)
  no-value (Err x) h e p = h p

  pub value-is : (r : Result T E) (x : T) → OkIff r P v → Some x ≡ result_ok r → P × (x ≡ v)
  value-is (Ok y) x h e = (h.0, cc)
  value-is (Err y) x h e = absurd (let z : ◌≡◌ {A = ℕ} 0 1 = cc in omega arith)
