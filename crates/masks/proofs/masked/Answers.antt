use Rattle.std.proofs.Common.{Bool, arith, ◌≡◌, ◌∙◌, sym, length}
use mathlib.Core.Path.{refl, ap, ap₂}
use mathlib.Core.Bool.{◌&&◌}
use Rattle.signed.proofs.Finding.{read-from-zero}
use Rattle.signed.proofs.Reading.{read32}
use Rattle.meaning.specs.Array.{array_of, good_form}
use Rattle.answer.specs.Answer.{lent, early, own}
use Rattle.answer.specs.Refused.{asked}
use Rattle.answer.proofs.Early.{early-read, early-exit}
use Rattle.answer.proofs.Exits.{exit, asked_ok}
use Rattle.answer.proofs.Lent.{formed}
use Rattle.answer.proofs.Order.{own-replied, late-replied, given-replied, Roomy, late-fine}
use Rattle.masks.specs.Steps.Actions.{action_number, masking, vector_shape}
use Rattle.masks.proofs.Calls.{mask-names, Known, known-has, known-high, shape_is, known-ready, known-masked, known_out}
use Rattle.masks.specs.contracts.masked.{EXPANDS-type}
use denote.Param.{number}
use Rattle.masks.proofs.masked.Given as given
use Rattle.masks.proofs.masked.Goals as goal
use Rattle.masks.proofs.masked.Goals.{After-mask_refusal, After-elements-mask, After-width_of-m, In_ok-late}

abbrev expands : given.Over → Bool
expands g = EXPANDS-type (number g.row.EXPANDS)

pub returns-in_err-l : goal.returns-in_err-l
returns-in_err-l g c =
    early-exit (mask-names _ _ c.args.l.now c.args.r.now (expands g)) c.ranges.g _ c.early_two.ensures.number c.in_err-l.was _ c.from_residual.ensures.1

-- FORM and ORIGIN were not met, and what RANK, AXIS, LENGTH and DOMAIN came to.
fine : (g : given.Over) (c : After-mask_refusal g) → early (good_form c.args.l.now && good_form c.args.r.now) c.args.g ≡ 0
fine g c = sym (early-read c.ranges.g c.early_two.result _ c.early_two.ensures.number) ∙ asked_ok c.in_ok-l.was

owns : (g : given.Over) (c : After-mask_refusal g)
    → asked c.mask_refusal.result
    ≡ own (action_number (expands g)) (masking (expands g) c.args.g c.args.k (array_of c.args.l.now) (array_of c.args.r.now)).refusals
owns g c =
    let a = c.args in
    c.mask_refusal.ensures.number
    ∙ ap₂ (λ G K. own (action_number (expands g)) (masking (expands g) G K (array_of c.in_ok-l.l) (array_of c.in_ok-l.r)).refusals)
    (read32 _ c.ranges.g) (read32 _ c.ranges.k)
    ∙ ap₂ (λ l r. own (action_number (expands g)) (masking (expands g) a.g a.k (array_of l) (array_of r)).refusals)
    c.in_ok-l.ensures.operands.0 c.in_ok-l.ensures.operands.1

pub returns-in_err-s : goal.returns-in_err-s
returns-in_err-s g c =
    let m : After-mask_refusal g = c.before.before.before in
    own-replied (mask-names _ _ c.args.l.now c.args.r.now (expands g)) _ (fine g m)
    (exit c.in_err-s.was c.from_residual-in_err-s.result c.from_residual-in_err-s.ensures.1) (owns g m)

-- What is known where none of them was met.
known : (g : given.Over) (c : After-elements-mask g)
    → Known (expands g) c.args.g c.args.k c.args.l.now c.r.inside.shape c.elements-mask.result.now c.r.inside.elements.now c.in_ok-s.s c.in_ok-s.axis
known g c =
    let a = c.args in
    let m : After-mask_refusal g = c.before.before.before.before.before in
    let e : lent c.r.inside.shape c.r.inside.elements.now ≡ a.r.now = c.r.view_is ∙ c.in_ok-l.ensures.operands.1 in
    record {
      fine = ap (λ o. early (good_form a.l.now && good_form o) a.g) e ∙ fine g m;
      right = formed c.r.invariant;
      none = ap (λ o. own (action_number (expands g)) (masking (expands g) a.g a.k (array_of a.l.now) (array_of o)).refusals) e
          ∙ sym (owns g m) ∙ asked_ok c.in_ok-s.was;
      read = c.in_ok-s.ensures.found.0 ∙ ap (λ o. vector_shape o.shape) (sym c.r.view_is);
      axis-is = c.in_ok-s.ensures.found.1 ∙ read-from-zero _ _ c.ranges.k c.ranges.g;
      mask = c.elements-mask.ensures ∙ ap (λ o. (array_of o).elements) c.in_ok-l.ensures.operands.0;
    }

pub bounds-s-axis : goal.bounds-s-axis
bounds-s-axis g c = let d = known g c in omega (arith, known-has d, known-high d)

-- LIMIT and SPACE.
pub returns-in_err-late : goal.returns-in_err-late
returns-in_err-late g c =
    let e : c.args.r.now ≡ lent c.r.inside.shape c.r.inside.elements.now = sym (c.r.view_is ∙ c.in_ok-l.ensures.operands.1) in
    let w : After-width_of-m g = c.before.before.before.before.before.before in
    rw e
    (late-replied (known-ready (known g w.before.before) c.width_of-m.ensures c.with_length-shape.ensures) _ c.late.ensures c.count-count.ensures
    (exit c.in_err-late.was c.from_residual-in_err-late.result c.from_residual-in_err-late.ensures.1))

roomy : (g : given.Over) (c : In_ok-late g) → Roomy c.with_length-shape.result (length c.args.out.now)
roomy g c = late-fine _ (sym (asked_ok c.in_ok-late.was) ∙ c.late.ensures) c.count-count.ensures refl

pub mask_into-requires : goal.mask_into-requires
mask_into-requires g c =
    let o : In_ok-late g = c.before.before.before in
    let w : After-width_of-m g = o.before.before.before.before.before in
    rw c.repeats-repeated.ensures
    (known-masked (known g w.before.before) c.width_of-m.ensures c.with_length-shape.ensures c.count-count.ensures (roomy g o))

pub returns : goal.returns
returns g c =
    let e : c.args.r.now ≡ lent c.r.inside.shape c.r.inside.elements.now = sym (c.r.view_is ∙ c.in_ok-l.ensures.operands.1) in
    let o : In_ok-late g = c.before.before.before.before.before in
    let w : After-width_of-m g = o.before.before.before.before.before in
    let d = known g w.before.before in
    let shape = c.with_length-shape.ensures in
    rw e
    (given-replied (known-ready d c.width_of-m.ensures shape) _ (sym (asked_ok c.in_ok-late.was) ∙ c.late.ensures) c.count-count.ensures refl
    (shape_is d c.width_of-m.ensures shape)
    ((rw c.repeats-repeated.ensures at c.mask_into.ensures)
    ∙ known_out d c.width_of-m.ensures shape c.count-count.ensures (roomy g o) c.args.out.now))
