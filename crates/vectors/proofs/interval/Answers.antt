use Rattle.std.proofs.Common.{◌≡◌, ◌∙◌, sym, ap, ℤ, [], ◌∷◌, length-take-le, nat_abs}
use native.Mathlib.Omega.{arith}
use mathlib.Core.Path.{refl}
use Rattle.shape.specs.Shape.{shape_of}
use Rattle.meaning.specs.Array.{Operand, array_of, good_form}
use Rattle.meaning.specs.Primitives.{interval}
use Rattle.signed.proofs.Reading.{read32}
use Rattle.answer.specs.Answer.{early, own}
use Rattle.answer.specs.Refused.{asked}
use Rattle.answer.proofs.Early.{early-read}
use Rattle.answer.proofs.Exits.{exit, asked_ok}
use Rattle.answer.proofs.Lent.{early-fine}
use Rattle.answer.proofs.Order.{own-replied, Ready, late-replied, given-replied}
use Rattle.vectors.proofs.Vector.{vector-late, vector-room, vector-shape, vector-put}
use Rattle.answer.proofs.Early.{early-exit}
use Rattle.vectors.proofs.Calls.{ends, interval-names, interval-vector, interval-ready}
use Rattle.vectors.proofs.interval.Goals as goal
use Rattle.vectors.proofs.interval.Goals.{After-interval_length, After-late}

pub returns-in_err-r : goal.returns-in_err-r
returns-in_err-r c K L =
    early-exit (interval-names _ _ L c.args.r.now) c.ranges.g _ c.early_one.ensures.number c.in_err-r.was _ c.from_residual.ensures.1

-- Neither FORM nor ORIGIN, and what 13 asks of R.
fine : (c : After-interval_length) → early (good_form c.args.r.now) c.args.g ≡ 0
fine c = sym (early-read c.ranges.g c.early_one.result _ c.early_one.ensures.number) ∙ asked_ok c.in_ok-r.was

asks : (c : After-interval_length) → asked c.interval_length.result ≡ own 13 (interval c.args.g (array_of c.args.r.now)).refusals
asks c = c.interval_length.ensures.number c.args.g ∙ ap (λ o. own 13 (interval c.args.g (array_of o)).refusals) c.in_ok-r.ensures.operand

-- The result's length.
length-is : (c : After-late) → c.in_ok-n.n ≡ nat_abs (ends (array_of c.args.r.now))
length-is c = c.in_ok-n.ensures.length ∙ ap (λ o. nat_abs (ends (array_of o))) c.in_ok-r.ensures.operand

pub returns-in_err-n : goal.returns-in_err-n
returns-in_err-n c K L =
    let n = c.before.before.before in
    own-replied (interval-names _ _ L c.args.r.now) _ (fine n) (exit c.in_err-n.was c.from_residual-in_err-n.result c.from_residual-in_err-n.ensures.1) (asks n)

-- All that is known then, with the shape of n numbers, the number whose interval is asked for.
ready : (c : After-late) (K : ℤ) (L : Operand)
    → Ready 13 1 c.args.g K L c.args.r.now (interval c.args.g (array_of c.args.r.now)) (shape_of (c.in_ok-n.n ∷ []))
ready c K L =
    let n = c.before.before.before in
    interval-ready c.args.r.now (length-is c) c.args.g (fine n) (sym (asks n) ∙ asked_ok c.in_ok-n.was) refl K L

pub returns-in_err-late : goal.returns-in_err-late
returns-in_err-late c K L =
    late-replied (ready c.before.before.before K L) _ (c.late.ensures ∙ vector-late _ _) refl
    (exit c.in_err-late.was c.from_residual-in_err-late.result c.from_residual-in_err-late.ensures.1)

pub slice_bounds-count_up-end : goal.slice_bounds-count_up-end
slice_bounds-count_up-end c = (vector-room _ _ c.late.ensures (asked_ok c.in_ok-late.was)).1

pub slice_bounds-count_up-end-2 : goal.slice_bounds-count_up-end-2
slice_bounds-count_up-end-2 c =
    let room = vector-room _ _ c.late.ensures (asked_ok c.in_ok-late.was) in sym (length-take-le _ c.args.out.now room.1)

pub count_up-requires : goal.count_up-requires
count_up-requires c =
    let n = c.before.before.before.before.before.before in
    let room = vector-room _ _ c.late.ensures (asked_ok c.in_ok-late.was) in
    (rw (read32 _ c.ranges.g) (early-fine c.args.g _ (fine n)).origin, omega (arith, length-take-le _ c.args.out.now room.1, room.0))

pub returns : goal.returns
returns c K L =
    let t = c.before.before.before.before.before.before in
    let v = interval-vector c.args.r.now (length-is t) c.args.g (fine t.before.before.before) in
    let room = vector-room _ _ c.late.ensures (asked_ok c.in_ok-late.was) in
    given-replied (ready t K L) _ (c.late.ensures ∙ vector-late _ _) refl (asked_ok c.in_ok-late.was) (vector-shape v c.vector.ensures)
    (vector-put v c.args.out.now room.1 (rw (read32 _ c.ranges.g) at c.count_up.ensures))
