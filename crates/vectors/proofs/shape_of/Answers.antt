use Rattle.std.proofs.Common.{◌≡◌, ◌∙◌, sym, length-take-le}
use native.Mathlib.Omega.{arith}
use mathlib.Core.Path.{refl}
use Rattle.answer.specs.Answer.{lent}
use Rattle.answer.proofs.Early.{one-fine}
use Rattle.answer.proofs.Exits.{exit, asked_ok}
use Rattle.answer.proofs.Order.{late-replied, given-replied}
use Rattle.vectors.proofs.Vector.{vector-counted, vector-room, vector-shape, vector-put}
use Rattle.answer.proofs.Lent.{formed}
use Rattle.answer.proofs.Early.{early-exit}
use Rattle.vectors.proofs.Calls.{shape-names, shape-vector, shape-ready, lengths-put}
use Rattle.vectors.proofs.shape_of.Goals as goal

pub returns-in_err-r : goal.returns-in_err-r
returns-in_err-r c K L =
    early-exit (shape-names _ _ L c.args.r.now) c.ranges.g _ c.early_one.ensures.number c.in_err-r.was _ c.from_residual.ensures.1

pub returns-in_err-late : goal.returns-in_err-late
returns-in_err-late c K L =
    let e : c.args.r.now ≡ lent c.r.inside.shape c.r.inside.elements.now = sym (c.r.view_is ∙ c.in_ok-r.ensures.operand) in
    let f = one-fine c.ranges.g c.early_one.result c.early_one.ensures.number c.in_ok-r.was e c.r.invariant in
    rw e
    (late-replied (shape-ready f K L) _ c.late.ensures (vector-counted _ (omega (arith, f.operand.high)))
    (exit c.in_err-late.was c.from_residual-in_err-late.result c.from_residual-in_err-late.ensures.1))

pub slice_bounds-put_lengths-end : goal.slice_bounds-put_lengths-end
slice_bounds-put_lengths-end c = (vector-room _ _ c.late.ensures (asked_ok c.in_ok-late.was)).1

pub slice_bounds-put_lengths-end-2 : goal.slice_bounds-put_lengths-end-2
slice_bounds-put_lengths-end-2 c =
    let room = vector-room _ _ c.late.ensures (asked_ok c.in_ok-late.was) in sym (length-take-le _ c.args.out.now room.1)

pub put_lengths-requires : goal.put_lengths-requires
put_lengths-requires c =
    let room = vector-room _ _ c.late.ensures (asked_ok c.in_ok-late.was) in
    omega (arith, (formed c.r.invariant).high, length-take-le _ c.args.out.now room.1)

pub returns : goal.returns
returns c K L =
    let e : c.args.r.now ≡ lent c.r.inside.shape c.r.inside.elements.now = sym (c.r.view_is ∙ c.in_ok-r.ensures.operand) in
    let f = one-fine c.ranges.g c.early_one.result c.early_one.ensures.number c.in_ok-r.was e c.r.invariant in
    let v = shape-vector f.operand in
    let room = (vector-room _ _ c.late.ensures (asked_ok c.in_ok-late.was)).1 in
    rw e
    (given-replied (shape-ready f K L) _ (sym (asked_ok c.in_ok-late.was) ∙ c.late.ensures) (vector-counted _ (omega (arith, f.operand.high))) refl
    (vector-shape v c.vector.ensures)
    (vector-put v c.args.out.now room (lengths-put f.operand _ (length-take-le _ c.args.out.now room) c.put_lengths.ensures)))
