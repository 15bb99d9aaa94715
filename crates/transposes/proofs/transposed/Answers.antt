use Rattle.std.proofs.Common.{arith, ◌∙◌, ◌-◌, sym, length}
use mathlib.Core.Path.{refl, ap, ap₂}
use native.Mathlib.Nat.{sub-zero}
use Rattle.std.proofs.lemmas.Result.{err_from_is_err_and}
use lib.ListN.{drop}
use lib.Seq.{length-take-le}
use mathlib.Core.List.{◌++◌}
use Rattle.shape.specs.Shape.{count_of}
use Rattle.shape.proofs.Made.{made-stands, stands-count}
use Rattle.answer.specs.Answer.{late}
use Rattle.answer.specs.Refused.{asked}
use Rattle.answer.proofs.Exits.{asked_on, asked_ok}
use Rattle.answer.proofs.Order.{Roomy, late-fine}
use Rattle.transposes.proofs.transposed.Goals as goal

pub returns-in_err-late : goal.returns-in_err-late
returns-in_err-late c =
    let p = err_from_is_err_and c.from_residual.result c.from_residual.ensures.1 in
    let n = c.count-count.ensures ∙ ap count_of c.sent_shape-shape.ensures in
    rw (p.1)
    (record {
      asks = sym (ap asked p.1) ∙ asked_on c.in_err-late.was c.from_residual.result c.from_residual.ensures.1 ∙ c.late.ensures
          ∙ ap (λ x. late x (length c.args.out.now)) n;
      shape_is = tt;
      elements = tt;
      kept = refl;
    })

pub slice_bounds-transpose_into-end : goal.slice_bounds-transpose_into-end
slice_bounds-transpose_into-end c =
    let f : Roomy c.sent_shape-shape.result (length c.args.out.now) =
    late-fine _ (sym (asked_ok c.in_ok-late.was) ∙ c.late.ensures) c.count-count.ensures refl in
    omega (arith, f.space, c.count-count.ensures)

pub transpose_into-requires : goal.transpose_into-requires
transpose_into-requires c =
    let f : Roomy c.sent_shape-shape.result (length c.args.out.now) =
    late-fine _ (sym (asked_ok c.in_ok-late.was) ∙ c.late.ensures) c.count-count.ensures refl in
    record {
      shape_is = c.sent_shape-shape.ensures;
      room_is = length-take-le (c.count-count.result - 0) c.args.out.now (omega (arith, f.space, c.count-count.ensures))
          ∙ sub-zero c.count-count.result ∙ c.count-count.ensures
          ∙ stands-count (made-stands c.sent_shape-shape.result _ c.sent_shape-shape.ensures) f.good;
    }

pub returns : goal.returns
returns c =
    let n = c.count-count.ensures ∙ ap count_of c.sent_shape-shape.ensures in
    record {
      asks = asked_ok refl ∙ sym (asked_ok c.in_ok-late.was) ∙ c.late.ensures ∙ ap (λ x. late x (length c.args.out.now)) n;
      shape_is = c.sent_shape-shape.ensures;
      elements = ap₂ (λ x k. x ++ drop k c.args.out.now) c.transpose_into.ensures (sub-zero c.count-count.result ∙ n);
      kept = tt;
    }
