use Rattle.std.proofs.Common.{Bool, arith, ◌≡◌, ◌∙◌, sym, get_or}
use mathlib.Core.Path.{refl, ap, ap₂}
use lib.Seq.{get_or-take}
use Rattle.shape.specs.Shape.{counted}
use Rattle.shape.proofs.Counts.{good-rank}
use Rattle.meaning.specs.Array.{array_of}
use Rattle.meaning.specs.Terms.{from_zero}
use Rattle.answer.specs.Answer.{own}
use Rattle.answer.specs.Refused.{asked}
use Rattle.answer.proofs.Axes.{axis-none, axis-refused, axis-found}
use Rattle.answer.proofs.Exits.{asked_on, asked_ok}
use Rattle.answer.proofs.Lent.{formed}
use Rattle.masks.specs.Steps.Actions.{action_number, masking, repeats, mask_rules}
use Rattle.masks.proofs.Vectors.{read-good}
use Rattle.masks.proofs.Calls.{masking-own, mask-own}
use Rattle.masks.specs.contracts.mask_refusal.{EXPANDS-type}
use denote.Param.{number}
use Rattle.masks.proofs.mask_refusal.Given as given
use Rattle.masks.proofs.mask_refusal.Goals as goal
use Rattle.masks.proofs.mask_refusal.Goals.{After-mask_test}

abbrev expands : given.Over → Bool
expands g = EXPANDS-type (number g.row.EXPANDS)

pub returns-then-not-is_list-clause-number : goal.returns-then-not-is_list-clause-number
unfolding asked
returns-then-not-is_list-clause-number g c = sym (masking-own _ _ c.args.l.now c.args.r.now (expands g) ∙ rw (sym c.if-not-is_list.ensures) refl)

pub returns-in_err-axis-clause-number : goal.returns-in_err-axis-clause-number
returns-in_err-axis-clause-number g c =
    let n = c.as_vector-s.result.rank in
    let w = axis-none c.ranges.k c.ranges.g n c.axis.result c.axis.ensures.number c.in_err-axis.was in
    let asks = mask-own (expands g) c.args.g c.args.k c.args.l.now c.r.invariant c.r.view_is c.as_vector-s.ensures in
    asked_on c.in_err-axis.was c.from_residual.result c.from_residual.ensures.1
    ∙ axis-refused c.ranges.k c.ranges.g n c.axis.result c.axis.ensures.number c.in_err-axis.was
    ∙ sym (asks ∙ rw (sym c.if-not-is_list.ensures, w) refl)

pub bounds-s-axis : goal.bounds-s-axis
bounds-s-axis g c =
    let n = c.as_vector-s.result.rank in
    let i = axis-found c.ranges.k c.ranges.g n c.axis.result c.axis.ensures.number c.in_ok-axis.was c.axis.ensures.axis in
    let good = read-good c.r.inside.shape c.as_vector-s.ensures (formed c.r.invariant).good in
    omega (arith, i.below, good-rank c.as_vector-s.result good)

-- What is left is what the mask meets.
rest : (g : given.Over) (c : After-mask_test g)
    → asked c.mask_test.result
    ≡ own (action_number (expands g)) (masking (expands g) c.args.g c.args.k (array_of c.args.l.now) (array_of c.args.r.now)).refusals
rest g c =
    let a = c.args in
    let s = c.as_vector-s.result in
    let i = axis-found c.ranges.k c.ranges.g s.rank c.axis.result c.axis.ensures.number c.in_ok-axis.was c.axis.ensures.axis in
    let n : get_or s.lens c.in_ok-axis.axis 0 ≡ get_or (counted s) (from_zero a.g a.k) 0 =
    sym (get_or-take s.rank s.lens _ 0 i.below) ∙ ap (λ x. get_or (counted s) x 0) i.is in
    let asks = mask-own (expands g) c.args.g c.args.k c.args.l.now c.r.invariant c.r.view_is c.as_vector-s.ensures in
    (rw c.repeats.ensures at c.mask_test.ensures)
    ∙ ap₂ (λ l n. own (action_number (expands g)) (mask_rules (expands g) (repeats (expands g) c.r.inside.shape.rank) l n)) c.elements.ensures n
    ∙ sym (asks ∙ rw (sym c.if-not-is_list.ensures, i.inside) refl)

pub returns-in_err-mask_test-clause-number : goal.returns-in_err-mask_test-clause-number
returns-in_err-mask_test-clause-number g c =
    asked_on c.in_err-mask_test.was c.from_residual-in_err-mask_test.result c.from_residual-in_err-mask_test.ensures.1 ∙ rest g c.before.before.before

pub returns-clause-number : goal.returns-clause-number
returns-clause-number g c = asked_ok refl ∙ sym (asked_ok c.in_ok-mask_test.was) ∙ rest g c.before.before
