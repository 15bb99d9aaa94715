use Rattle.std.proofs.Common.{◌∙◌, sym}
use native.Mathlib.Omega.{arith}
use mathlib.Core.Path.{refl, ap₂}
use Rattle.meaning.specs.Array.{array_of}
use Rattle.meaning.specs.Primitives.{catenate}
use Rattle.answer.specs.Answer.{own}
use Rattle.answer.proofs.Early.{early-read, early-exit}
use Rattle.answer.proofs.Exits.{exit, asked_ok}
use Rattle.answer.proofs.Order.{own-replied, late-replied, given-replied, Roomy, late-fine}
use Rattle.joins.proofs.Blocks.{wide}
use Rattle.joins.proofs.Heights.{catenate-names}
use Rattle.joins.proofs.Catenating.{extent-small, joint-asked, joint-found, shape-made, catenate-ready, catenate-total, joinable, catenate-out}
use Rattle.joins.proofs.catenate.Goals as goal

pub returns-in_err-early_two : goal.returns-in_err-early_two
returns-in_err-early_two c =
    early-exit (catenate-names _ _ c.args.l.now c.args.r.now) c.ranges.g _ c.early_two.ensures.number c.in_err-early_two.was _ c.from_residual.ensures.1

pub returns-in_err-along : goal.returns-in_err-along
returns-in_err-along c =
    let asked =
    joint-asked c.ranges.g c.ranges.k c.joint.result _ _ c.joint.ensures.number
    ∙ ap₂ (λ x y. own 22 (catenate c.args.g c.args.k (array_of x) (array_of y)).refusals) c.l.view_is c.r.view_is in
    own-replied (catenate-names _ _ c.args.l.now c.args.r.now) _
    (sym (early-read c.ranges.g c.early_two.result _ c.early_two.ensures.number) ∙ asked_ok c.in_ok-early_two.was)
    (exit c.in_err-along.was c.from_residual-in_err-along.result c.from_residual-in_err-along.ensures.1) asked

pub overflow_add-left-inside : goal.overflow_add-left-inside
overflow_add-left-inside c =
    let k =
    joint-found c.ranges.g c.ranges.k c.joint.result _ _ c.joint.ensures.number c.early_two.result c.early_two.ensures.number c.in_ok-early_two.was
    (c.l.view_is, c.r.view_is) c.in_ok-along.was c.in_ok-along.ensures.found in
    let x = wide (c.left.view_is ∙ c.of-left.ensures) in
    let y = wide (c.right.view_is ∙ c.of-right.ensures) in
    omega (arith, x, y, extent-small k.left, extent-small k.right)

pub returns-in_err-late : goal.returns-in_err-late
returns-in_err-late c =
    let k =
    joint-found c.ranges.g c.ranges.k c.joint.result _ _ c.joint.ensures.number c.early_two.result c.early_two.ensures.number c.in_ok-early_two.was
    (c.l.view_is, c.r.view_is) c.in_ok-along.was c.in_ok-along.ensures.found in
    rw (sym c.l.view_is, sym c.r.view_is)
    (late-replied (catenate-ready k (c.left.view_is ∙ c.of-left.ensures) (c.right.view_is ∙ c.of-right.ensures) c.with_length-shape.ensures) _
    c.late.ensures c.count-count.ensures (exit c.in_err-late.was c.from_residual-in_err-late.result c.from_residual-in_err-late.ensures.1))

pub join_into-requires : goal.join_into-requires
join_into-requires c =
    let k =
    joint-found c.ranges.g c.ranges.k c.joint.result _ _ c.joint.ensures.number c.early_two.result c.early_two.ensures.number c.in_ok-early_two.was
    (c.l.view_is, c.r.view_is) c.in_ok-along.was c.in_ok-along.ensures.found in
    let roomy : Roomy c.with_length-shape.result _ = late-fine _ (sym (asked_ok c.in_ok-late.was) ∙ c.late.ensures) c.count-count.ensures refl in
    let total =
    catenate-total k (c.left.view_is ∙ c.of-left.ensures) (c.right.view_is ∙ c.of-right.ensures) c.with_length-shape.ensures roomy.good
    c.count-count.ensures in
    joinable k c.of-left.ensures c.of-right.ensures total (omega (arith, roomy.small, c.count-count.ensures))
    (omega (arith, roomy.space, c.count-count.ensures))

pub returns : goal.returns
returns c =
    let k =
    joint-found c.ranges.g c.ranges.k c.joint.result _ _ c.joint.ensures.number c.early_two.result c.early_two.ensures.number c.in_ok-early_two.was
    (c.l.view_is, c.r.view_is) c.in_ok-along.was c.in_ok-along.ensures.found in
    let a = c.left.view_is ∙ c.of-left.ensures in
    let b = c.right.view_is ∙ c.of-right.ensures in
    let late = sym (asked_ok c.in_ok-late.was) ∙ c.late.ensures in
    let roomy : Roomy c.with_length-shape.result _ = late-fine _ late c.count-count.ensures refl in
    let total = catenate-total k a b c.with_length-shape.ensures roomy.good c.count-count.ensures in
    rw (sym c.l.view_is, sym c.r.view_is)
    (given-replied (catenate-ready k a b c.with_length-shape.ensures) _ late c.count-count.ensures refl
    (shape-made k a b c.with_length-shape.ensures)
    (c.join_into.ensures ∙ catenate-out k c.of-left.ensures c.of-right.ensures total _))
