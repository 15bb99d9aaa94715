use Rattle.std.proofs.Common.{arith, ◌∙◌, sym, length}
use mathlib.Core.Path.{refl, ap}
use Rattle.meaning.specs.Array.{array_of}
use Rattle.answer.proofs.Early.{early-exit}
use Rattle.answer.proofs.Exits.{exit, asked_ok}
use Rattle.answer.proofs.Order.{as-result, late-replied, given-replied, Roomy, late-fine}
use Rattle.lookups.proofs.Calls.{member-names, member-ready, member-out, few, known}
use Rattle.lookups.proofs.member.Goals as goal

pub returns-in_err-l : goal.returns-in_err-l
returns-in_err-l c K =
    early-exit (member-names _ K c.args.l.now c.args.r.now) c.ranges.g _ c.early_two.ensures.number c.in_err-l.was _ c.from_residual.ensures.1

pub returns-in_err-late : goal.returns-in_err-late
returns-in_err-late c K =
    let k = known c.ranges.g c.early_two.result c.args.l.now c.args.r.now c.early_two.ensures.number c.in_ok-l.was c.l.view_is
    c.in_ok-l.ensures.operands.0 c.l.invariant c.count.ensures in
    rw k.is (late-replied (member-ready k.good (rw k.is at k.fine)) _ c.late.ensures k.count
    (exit c.in_err-late.was c.from_residual-in_err-late.result c.from_residual-in_err-late.ensures.1))

pub put_each-requires : goal.put_each-requires
put_each-requires c =
    let k = known c.ranges.g c.early_two.result c.args.l.now c.args.r.now c.early_two.ensures.number c.in_ok-l.was c.l.view_is
    c.in_ok-l.ensures.operands.0 c.l.invariant c.count.ensures in
    let r = ap length (c.elements.ensures ∙ ap (λ o. (array_of o).elements) c.in_ok-l.ensures.operands.1) in
    let roomy : Roomy c.l.inside.shape _ = late-fine _ (sym (asked_ok c.in_ok-late.was) ∙ c.late.ensures) k.count refl in
    record {
      origin = omega arith;
      small = omega (arith, r, few _ k.both.right);
      space = omega (arith, ap length c.elements-2.ensures, c.count.ensures, k.count, roomy.space);
    }

pub returns : goal.returns
returns c K =
    let k = known c.ranges.g c.early_two.result c.args.l.now c.args.r.now c.early_two.ensures.number c.in_ok-l.was c.l.view_is
    c.in_ok-l.ensures.operands.0 c.l.invariant c.count.ensures in
    let ready = member-ready k.good {K = K} (rw k.is at k.fine) in
    let late = sym (asked_ok c.in_ok-late.was) ∙ c.late.ensures in
    let roomy : Roomy c.l.inside.shape _ = late-fine _ late k.count refl in
    rw k.is
    (given-replied ready _ late k.count refl (as-result ready roomy.good c.as_result.ensures)
    (member-out _ _ _ k.good.whole (c.elements-2.ensures ∙ ap (λ o. (array_of o).elements) (sym c.l.view_is))
    (c.elements.ensures ∙ ap (λ o. (array_of o).elements) c.in_ok-l.ensures.operands.1) c.put_each.ensures))
