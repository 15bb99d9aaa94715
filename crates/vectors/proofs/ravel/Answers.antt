use Rattle.std.proofs.Common.{◌≡◌, ◌∙◌, sym, ap, length}
use native.Mathlib.Omega.{arith}
use mathlib.Core.Path.{refl}
use Rattle.meaning.specs.Array.{array_of, good_form}
use Rattle.copying.specs.Runs.{copied}
use Rattle.answer.specs.Answer.{early}
use Rattle.answer.proofs.Early.{early-read}
use Rattle.answer.proofs.Exits.{exit, asked_ok}
use Rattle.answer.proofs.Order.{late-replied, given-replied, late-fine}
use Rattle.vectors.proofs.Vector.{vector-shape, vector-out}
use Rattle.answer.proofs.Early.{early-exit}
use Rattle.vectors.proofs.Calls.{ravel-names, ravel-vector, ravel-ready, ravel-count, ravel-copied}
use Rattle.vectors.proofs.ravel.Goals as goal
use Rattle.vectors.proofs.ravel.Goals.{After-elements-elements}

pub returns-in_err-r : goal.returns-in_err-r
returns-in_err-r c K L =
    early-exit (ravel-names _ _ L c.args.r.now) c.ranges.g _ c.early_one.ensures.number c.in_err-r.was _ c.from_residual.ensures.1

-- Neither FORM nor ORIGIN; R's elements.
fine : (c : After-elements-elements) → early (good_form c.args.r.now) c.args.g ≡ 0
fine c = sym (early-read c.ranges.g c.early_one.result _ c.early_one.ensures.number) ∙ asked_ok c.in_ok-r.was

same : (c : After-elements-elements) → c.elements-elements.result.now ≡ (array_of c.args.r.now).elements
same c = c.elements-elements.ensures ∙ ap (λ o. (array_of o).elements) c.in_ok-r.ensures.operand

pub returns-in_err-late : goal.returns-in_err-late
returns-in_err-late c K L =
    let n = c.before.before.before.before in
    let e = ap length (same n) in
    late-replied (ravel-ready c.args.r.now e _ (fine n) K L) _ c.late.ensures (ravel-count c.args.r.now e _ (fine n))
    (exit c.in_err-late.was c.from_residual-in_err-late.result c.from_residual-in_err-late.ensures.1)

pub returns : goal.returns
returns c K L =
    let n = c.before.before.before.before.before.before.before in
    let e = ap length (same n) in
    let v = ravel-vector c.args.r.now e in
    let count = ravel-count c.args.r.now e _ (fine n) in
    let l = sym (asked_ok c.in_ok-late.was) ∙ c.late.ensures in
    let roomy = late-fine _ l count refl in
    given-replied (ravel-ready c.args.r.now e _ (fine n) K L) _ l count refl (vector-shape v c.vector.ensures)
    (c.copy_run.ensures ∙ ap (λ x. copied x c.args.out.now) (same n)
    ∙ ravel-copied c.args.r.now e _ (omega (arith, roomy.space, count)) ∙ vector-out v _)
