-- What `axis` tells of K and the origin, read from locals.
use mathlib.Core.Path.{◌≡◌, refl, sym, ◌∙◌}
use mathlib.Core.Bool.{Bool, true, false, not, cond}
use Prim.Native.Nat.{ℕ, ◌<◌}
use native.Mathlib.Omega.{arith}
use lib.IntN.{ℤ, ◌-ℤ◌}
use mir.Syntax.{w32}
use mir.Val.{SFits, to_z, of_z}
use Rattle.std.specs.Prelude.{Result, Ok, Err}
use Rattle.std.specs.Result.{IfOk}
use Rattle.std.proofs.lemmas.Result.{IfOk-at_ok}
use Rattle.meaning.specs.Refusal.{number}
use Rattle.meaning.specs.Refusal.Refusal.{AXIS}
use Rattle.meaning.specs.Terms.{within, from_zero}
use Rattle.signed.proofs.Finding.{IsAt, read-from-zero}
use Rattle.signed.proofs.Reading.{read32}
use Rattle.answer.specs.Refused.{asked}
use Rattle.answer.specs.declared.refusal.Refusal as code
use Rattle.answer.proofs.Exits.{asked_err, asked_ok, number-some}

-- The number that it asks for.
abbrev axis_number : ℤ → ℤ → ℕ → ℕ
axis_number K G n = cond (not (within (K -ℤ G) n)) (number AXIS) 0

number-none : (b : Bool) → cond (not b) (number AXIS) 0 ≡ 0 → b ≡ true
number-none true e = refl
number-none false e = absurd (omega arith)

number-met : (b : Bool) → (cond (not b) (number AXIS) 0 ≡ 0 → ⊥) → b ≡ false
number-met true h = absurd (h refl)
number-met false h = refl

module _ {K G : ℤ} (f : SFits w32 K) (h : SFits w32 G) (n : ℕ) (x : Result ℕ code.Refusal)
    (is : asked x ≡ axis_number (to_z w32 (of_z w32 K)) (to_z w32 (of_z w32 G)) n) where
  axis-asked : asked x ≡ axis_number K G n
  axis-asked = is ∙ rw (read32 K f, read32 G h) refl

  pub axis-none : {d : code.Refusal} → x ≡ Err d → within (K -ℤ G) n ≡ false
  axis-none {d} e = number-met (within (K -ℤ G) n) (λ z. number-some d (sym (asked_err e) ∙ axis-asked ∙ z))

  pub axis-found : {a : ℕ} → x ≡ Ok a → IfOk x (λ a. (a < n) × (a ≡ from_zero (to_z w32 (of_z w32 G)) (to_z w32 (of_z w32 K)))) → IsAt K G n a
  axis-found {a} e p =
      let q = IfOk-at_ok _ e p in
      record {
        inside = number-none (within (K -ℤ G) n) (sym axis-asked ∙ asked_ok e);
        is = q.1 ∙ read-from-zero K G f h;
        below = q.0;
      }

  pub axis-refused : {d : code.Refusal} → x ≡ Err d → asked x ≡ number AXIS
  axis-refused e = axis-asked ∙ rw (axis-none e) refl
