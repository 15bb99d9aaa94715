use Rattle.std.proofs.Common.{arith, ◌≡◌, ◌∙◌, ℕ, ◌<◌, Bool, true, false, cond, ℤ, nat_abs, ◌-ℤ◌, Some, None, IfOk}
use Rattle.std.specs.Option.{ok_or}
use mathlib.Core.Path.{refl, ap}
use mathlib.Core.Bool.{not}
use Rattle.meaning.specs.Terms.{within}
use Rattle.meaning.proofs.Positions.{within-lt}
use Rattle.signed.proofs.Finding.{found_of, read_found}
use Rattle.answer.specs.Refused.{asked}
use Rattle.answer.specs.declared.refusal.Refusal.TheVariants.{Axis}
use Rattle.answer.proofs.axis.Goals as goal
use Rattle.answer.proofs.axis.Goals.{After-ok_or}

-- By whether K names an axis.
number-by : (b : Bool) (a : ℕ) → asked (ok_or (cond b (Some a) None) Axis) ≡ cond {A = ℕ} (not b) 5 0
unfolding asked
number-by true a = refl
number-by false a = refl

axis-by : (z : ℤ) (n a : ℕ) (b : Bool) → within z n ≡ b → a ≡ nat_abs z
    → IfOk (ok_or (cond b (Some a) None) Axis) (λ axis. (axis < n) × (axis ≡ nat_abs z))
axis-by z n a true w e = (omega (arith, within-lt z n w, e), e)
axis-by z n a false w e = tt

answer-is : (c : After-ok_or) → c.ok_or.result ≡ ok_or (found_of c.args.k c.args.g c.args.n) Axis
answer-is c = c.ok_or.ensures.value ∙ ap (λ o. ok_or o Axis) (c.position.ensures ∙ read_found _ _ c.ranges.k c.ranges.g _)

pub returns-clause-number : goal.returns-clause-number
returns-clause-number c = ap asked (answer-is c) ∙ number-by _ _

pub returns-clause-axis : goal.returns-clause-axis
returns-clause-axis c = rw (answer-is c) (axis-by (c.args.k -ℤ c.args.g) c.args.n _ _ refl refl)
