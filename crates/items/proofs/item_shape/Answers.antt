use Rattle.std.proofs.Common.{◌≡◌, ◌∙◌, sym}
use mathlib.Core.Path.{ap, ap₂}
use Rattle.shape.proofs.Made.{without-axis-is}
use Rattle.signed.proofs.Reading.{read32}
use Rattle.meaning.specs.Item.{item_refusal, leading_item}
use Rattle.answer.specs.Answer.{lent, refused, accepted}
use Rattle.answer.specs.Refused.{answered}
use Rattle.answer.proofs.Exits.{exit, asked_ok}
use Rattle.items.specs.Sister.{item_answer}
use Rattle.items.proofs.Given.{given}
use Rattle.items.proofs.Refusals.{item_refused, item-given}
use Rattle.items.proofs.item_shape.Goals as goal

pub returns-in_err-r : goal.returns-in_err-r
returns-in_err-r c =
    let x = exit c.in_err-r.was c.from_residual.result c.from_residual.ensures.1 in
    let n = c.found.ensures.number ∙ ap₂ (item_refusal _) (read32 _ c.ranges.g) (read32 _ c.ranges.i) in
    x.is ∙ ap refused n ∙ sym (ap item_answer (item_refused c.args.r.now c.args.g c.args.i (λ z. x.some (n ∙ z))))

pub returns : goal.returns
unfolding answered
returns c =
    let e : lent c.r.inside.shape c.r.inside.elements.now ≡ c.args.r.now = c.r.view_is ∙ c.in_ok-r.ensures.item.0 in
    let none = sym (c.found.ensures.number ∙ ap₂ (item_refusal _) (read32 _ c.ranges.g) (read32 _ c.ranges.i)) ∙ asked_ok c.in_ok-r.was in
    let g = given _ _ c.args.g c.args.i c.r.invariant.long (ap (λ o. item_refusal o c.args.g c.args.i) e ∙ none) in
    ap accepted (c.without_axis-shape.ensures ∙ without-axis-is c.r.inside.shape 0 g.operand.high g.axes)
    ∙ sym (ap item_answer (item-given (lent c.r.inside.shape c.r.inside.elements.now) c.args.g c.args.i g.none))
    ∙ ap (λ o. item_answer (leading_item o c.args.g c.args.i)) e
