-- What leaves a call by `?`, and what goes on.
use mathlib.Core.Path.{◌≡◌, refl, sym, ap, ◌∙◌}
use Prim.Native.Nat.{ℕ}
use native.Mathlib.Omega.{arith}
use Rattle.std.specs.Prelude.{Result, Ok, Err}
use Rattle.std.specs.Result.{IsErrAnd}
use Rattle.std.proofs.lemmas.Result.{err_from_is_err_and}
use Rattle.shape.specs.declared.Shape.{Shape}
use Rattle.meaning.specs.Refusal.{number}
use Rattle.answer.specs.Answer.{refused}
use Rattle.answer.specs.Refused.{meant, asked, answered}
use Rattle.answer.specs.declared.Answer.{Answer}
use Rattle.answer.specs.declared.refusal.Refusal.TheVariants as coded
use Rattle.answer.specs.declared.refusal.Refusal as code

-- No refusal has the number of none.
pub number-some : (e : code.Refusal) → number (meant e) ≡ 0 → ⊥
number-some coded.Number h = omega arith
number-some coded.Form h = omega arith
number-some coded.Origin h = omega arith
number-some coded.Rank h = omega arith
number-some coded.Axis h = omega arith
number-some coded.Length h = omega arith
number-some coded.Domain h = omega arith
number-some coded.Index h = omega arith
number-some coded.Limit h = omega arith
number-some coded.Space h = omega arith

-- An answer that refuses, by a number.
pub record Refuses (a : Answer) (w : ℕ) : Type 0 where
  pub some : w ≡ 0 → ⊥
  pub is : a ≡ refused w

module _ {A : Type 0} {x : Result A code.Refusal} {d : code.Refusal} (e : x ≡ Err d) where
  pub asked_err : asked x ≡ number (meant d)
  unfolding asked
  asked_err = ap asked e

  -- What `?` hands on of x, in another result and in a call's.
  pub asked_on : {B : Type 0} (r : Result B code.Refusal) → IsErrAnd r (λ y. y ≡ d) → asked r ≡ asked x
  unfolding asked
  asked_on r h = let p = err_from_is_err_and r h in ap asked p.1 ∙ ap (λ y. number (meant y)) p.2 ∙ sym asked_err

  pub exit : (r : Result Shape code.Refusal) → IsErrAnd r (λ y. y ≡ d) → Refuses (answered r) (asked x)
  unfolding asked answered
  exit r h =
      let p = err_from_is_err_and r h in
      record {
        some = λ z. number-some d (sym asked_err ∙ z);
        is = ap answered p.1 ∙ ap (λ y. refused (number (meant y))) p.2 ∙ ap refused (sym asked_err);
      }

-- A refusal that is handed back by name.
pub refuses : (d : code.Refusal) → Refuses (answered (Err d)) (number (meant d))
unfolding answered
refuses d = record { some = number-some d; is = refl }

-- Nothing was refused.
pub asked_ok : {A : Type 0} {x : Result A code.Refusal} {v : A} → x ≡ Ok v → asked x ≡ 0
unfolding asked
asked_ok e = ap asked e
