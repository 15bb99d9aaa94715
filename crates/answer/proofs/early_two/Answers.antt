use Rattle.std.proofs.Common.{sym, ◌∙◌}
use mathlib.Core.Path.{refl, ap}
use Rattle.signed.proofs.Reading.{read32}
use Rattle.answer.specs.Answer.{early}
use Rattle.answer.specs.Refused.{asked}
use Rattle.answer.proofs.Exits.{asked_on, asked_ok}
use Rattle.answer.proofs.Lent.{early-left, early-right}
use Rattle.answer.proofs.early_two.Goals as goal

pub returns-then-not-good_form-clause-number : goal.returns-then-not-good_form-clause-number
unfolding asked
returns-then-not-good_form-clause-number c = sym (early-left _ _ _ (sym c.if-not-good_form.ensures))

pub returns-in_err-right-clause-number : goal.returns-in_err-right-clause-number
returns-in_err-right-clause-number c =
    asked_on c.in_err-right.was c.from_residual.result c.from_residual.ensures.1
    ∙ c.early_one.ensures.number ∙ ap (early _) (read32 _ c.ranges.g) ∙ sym (early-right _ _ _ (sym c.if-not-good_form.ensures))

pub returns-clause-number : goal.returns-clause-number
returns-clause-number c =
    asked_ok refl ∙ sym (asked_ok c.in_ok-right.was)
    ∙ c.early_one.ensures.number ∙ ap (early _) (read32 _ c.ranges.g) ∙ sym (early-right _ _ _ (sym c.if-not-good_form.ensures))
