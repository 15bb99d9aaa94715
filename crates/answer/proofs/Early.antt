-- What the tests before a primitive's own tell, of the origin read from a local and of operands that are opened.
use mathlib.Core.Path.{◌≡◌, sym, ap, ap₂, ◌∙◌}
use mathlib.Core.List.{List}
use mathlib.Core.Bool.{Bool, ◌&&◌}
use lib.IntN.{ℤ, pos}
use Prim.Native.Nat.{ℕ}
use mir.Syntax.{w32}
use mir.Val.{SFits, to_z, of_z}
use Rattle.std.specs.Prelude.{Result, Ok, Err}
use Rattle.std.specs.Result.{IsErrAnd}
use Rattle.shape.specs.declared.Shape.{Shape}
use Rattle.meaning.specs.Array.{Operand, good_form}
use Rattle.meaning.specs.Primitives.{Meaning}
use Rattle.meaning.specs.Reply.{reply}
use Rattle.signed.proofs.Reading.{read32}
use Rattle.answer.specs.Answer.{lent, WellFormed, early, Replied}
use Rattle.answer.specs.Refused.{asked, answered}
use Rattle.answer.specs.declared.refusal.Refusal as code
use Rattle.answer.proofs.Exits.{asked_ok, exit}
use Rattle.answer.proofs.Lent.{FineOne, fine-one, FineTwo, fine-two}
use Rattle.answer.proofs.Order.{early_of, Names, early-replied}

module _ {G : ℤ} (f : SFits w32 G) {A : Type 0} (x : Result A code.Refusal) where
  pub early-read : (form : Bool) → asked x ≡ early form (to_z w32 (of_z w32 G)) → asked x ≡ early form G
  early-read form is = is ∙ ap (early form) (read32 G f)

  -- All that a call then knows of one operand, and of two.
  pub one-fine : {R : Operand} {v : A} {s : Shape} {b : List ℤ} → asked x ≡ early (good_form R) (to_z w32 (of_z w32 G)) → x ≡ Ok v
      → R ≡ lent s b → WellFormed s b → FineOne G s b
  one-fine {R} {v} {s} {b} is ok e w =
      fine-one G s b w.long (ap (λ o. early (good_form o) G) (sym e) ∙ sym (early-read _ is) ∙ asked_ok ok)

  pub two-fine : {L R : Operand} {v : A} {ls rs : Shape} {l r : List ℤ}
      → asked x ≡ early (good_form L && good_form R) (to_z w32 (of_z w32 G)) → x ≡ Ok v
      → L ≡ lent ls l → WellFormed ls l → R ≡ lent rs r → WellFormed rs r → FineTwo G ls l rs r
  two-fine {L} {R} {v} {ls} {rs} {l} {r} is ok d u e w =
      fine-two G ls l rs r u.long w.long
      (ap₂ (λ o p. early (good_form o && good_form p) G) (sym d) (sym e) ∙ sym (early-read _ is) ∙ asked_ok ok)

-- FORM and ORIGIN, as `?` hands them on.
pub early-exit : {n operands : ℕ} {G K : ℤ} {L R : Operand} {m : Meaning} → Names n operands G K L R m → SFits w32 G → (out : List ℤ) → {A : Type 0}
    {x : Result A code.Refusal} {d : code.Refusal} → asked x ≡ early_of operands (to_z w32 (of_z w32 G)) L R → x ≡ Err d
    → (r : Result Shape code.Refusal) → IsErrAnd r (λ y. y ≡ d) → Replied (answered r) out (reply (pos n) G K L R out)
early-exit names f out {x = x} is was r h = early-replied names out (exit was r h) (early-read f x _ is)
