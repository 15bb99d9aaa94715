use Rattle.std.proofs.Common.{sym, ◌∙◌}
use mathlib.Core.Path.{ap}
use Rattle.meaning.specs.Reply.{is_origin}
use Rattle.signed.proofs.Reading.{read32}
use Rattle.answer.specs.Refused.{asked}
use Rattle.answer.proofs.Lent.{early-form, early-origin, early-none}
use Rattle.answer.proofs.early_one.Goals as goal

pub returns-then-not-good_form-clause-number : goal.returns-then-not-good_form-clause-number
unfolding asked
returns-then-not-good_form-clause-number c = sym (early-form _ _ (sym c.if-not-good_form.ensures))

pub returns-then-not-is_origin-clause-number : goal.returns-then-not-is_origin-clause-number
unfolding asked
returns-then-not-is_origin-clause-number c =
    sym (early-origin _ _ (sym c.if-not-good_form.ensures) (ap is_origin (sym (read32 _ c.ranges.g)) ∙ sym c.if-not-is_origin.ensures))

pub returns-clause-number : goal.returns-clause-number
unfolding asked
returns-clause-number c =
    sym (early-none _ _ (sym c.if-not-good_form.ensures) (ap is_origin (sym (read32 _ c.ranges.g)) ∙ sym c.if-not-is_origin.ensures))
