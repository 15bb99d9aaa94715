use Rattle.std.proofs.Common.{arith, ◌≡◌, ◌∙◌, sym}
use mathlib.Core.Path.{refl, ap}
use Rattle.meaning.specs.Array.{Operand, array_of}
use Rattle.meaning.specs.Terms.{rank, as_vector}
use Rattle.meaning.proofs.Scalars.{vector-rank}
use Rattle.answer.specs.Answer.{lent}
use Rattle.answer.proofs.Axes.{axis-none, axis-refused, axis-found}
use Rattle.answer.proofs.Early.{early-read, one-fine, early-exit}
use Rattle.answer.proofs.Exits.{exit, asked_ok}
use Rattle.answer.proofs.Lent.{formed}
use Rattle.answer.proofs.Order.{own-replied, as-result, late-replied, given-replied, Roomy, late-fine}
use Rattle.turns.proofs.Calls.{reverse-names, reverse-own, reverse-ready, reverse-out}
use Rattle.turns.proofs.reverse.Goals as goal
use Rattle.turns.proofs.reverse.Goals.{After-axis, In_ok-axis, In_ok-late}

pub returns-in_err-r : goal.returns-in_err-r
returns-in_err-r c L =
    early-exit (reverse-names _ _ L c.args.r.now) c.ranges.g _ c.early_one.ensures.number c.in_err-r.was _ c.from_residual.ensures.1

pub returns-in_err-axis : goal.returns-in_err-axis
returns-in_err-axis c L =
    let R : Operand = c.args.r.now in
    let fine = sym (early-read c.ranges.g c.early_one.result _ c.early_one.ensures.number) ∙ asked_ok c.in_ok-r.was in
    let axes : rank (as_vector (array_of R)) ≡ c.axes.result =
    sym (c.axes.ensures ∙ ap (λ o. rank (as_vector (array_of o))) c.in_ok-r.ensures.operand) in
    let w = axis-none c.ranges.k c.ranges.g c.axes.result c.axis.result c.axis.ensures.number c.in_err-axis.was in
    own-replied (reverse-names _ _ L R) _ fine (exit c.in_err-axis.was c.from_residual-in_err-axis.result c.from_residual-in_err-axis.ensures.1)
    (axis-refused c.ranges.k c.ranges.g c.axes.result c.axis.result c.axis.ensures.number c.in_err-axis.was ∙ sym (reverse-own _ _ L R _ axes ∙ rw w refl))

pub returns-in_err-late : goal.returns-in_err-late
returns-in_err-late c L =
    let e : c.args.r.now ≡ lent c.r.inside.shape c.r.inside.elements.now = sym (c.r.view_is ∙ c.in_ok-r.ensures.operand) in
    let f = one-fine c.ranges.g c.early_one.result c.early_one.ensures.number c.in_ok-r.was e c.r.invariant in
    let axes = sym (c.axes.ensures ∙ ap (λ o. rank (as_vector (array_of o))) (sym c.r.view_is)) in
    let a = axis-found c.ranges.k c.ranges.g c.axes.result c.axis.result c.axis.ensures.number c.in_ok-axis.was c.axis.ensures.axis in
    rw e
    (late-replied (reverse-ready axes a f L) _ c.late.ensures c.count-count.ensures
    (exit c.in_err-late.was c.from_residual-in_err-late.result c.from_residual-in_err-late.ensures.1))

pub turn_into-requires : goal.turn_into-requires
turn_into-requires c =
    let axes = c.axes.ensures ∙ ap (λ o. rank (as_vector (array_of o))) (sym c.r.view_is) in
    let a = axis-found c.ranges.k c.ranges.g c.axes.result c.axis.result c.axis.ensures.number c.in_ok-axis.was c.axis.ensures.axis in
    let roomy : Roomy c.r.inside.shape _ = late-fine _ (sym (asked_ok c.in_ok-late.was) ∙ c.late.ensures) c.count-count.ensures refl in
    record {
      form = c.r.invariant.form;
      count-is = c.count-count.ensures;
      space = omega (arith, roomy.space, c.count-count.ensures);
      has = omega (arith, a.below, axes, vector-rank (array_of (lent c.r.inside.shape c.r.inside.elements.now)), (formed c.r.invariant).rank_is);
    }

pub returns : goal.returns
returns c L =
    let e : c.args.r.now ≡ lent c.r.inside.shape c.r.inside.elements.now = sym (c.r.view_is ∙ c.in_ok-r.ensures.operand) in
    let f = one-fine c.ranges.g c.early_one.result c.early_one.ensures.number c.in_ok-r.was e c.r.invariant in
    let axes = sym (c.axes.ensures ∙ ap (λ o. rank (as_vector (array_of o))) (sym c.r.view_is)) in
    let a = axis-found c.ranges.k c.ranges.g c.axes.result c.axis.result c.axis.ensures.number c.in_ok-axis.was c.axis.ensures.axis in
    let ready = reverse-ready axes a f L in
    let l = sym (asked_ok c.in_ok-late.was) ∙ c.late.ensures in
    let roomy : Roomy c.r.inside.shape _ = late-fine _ l c.count-count.ensures refl in
    rw e
    (given-replied ready _ l c.count-count.ensures refl (as-result ready roomy.good c.as_result.ensures)
    (c.turn_into.ensures ∙ reverse-out _ _ _ _ a.is _))
