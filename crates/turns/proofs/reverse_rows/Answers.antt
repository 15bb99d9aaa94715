use Rattle.std.proofs.Common.{arith, ◌≡◌, ◌∙◌, ◌+◌, ◌*◌, ◌-◌, get_or, pos}
use mathlib.Core.Path.{refl, ap}
use native.Mathlib.Nat.{zero-mul}
use Rattle.copying.specs.Steps.{filled}
use Rattle.copying.proofs.Runs.{filled_none, filled-whole, put-copied}
use Rattle.turns.specs.Steps.{back_at}
use Rattle.turns.proofs.Rows.{row_before, reversed-row}
use Rattle.turns.proofs.reverse_rows.Goals as goal

pub loop-i-init : goal.loop-i-init
loop-i-init c = (omega arith, filled_none _ _)

pub overflow_add-end : goal.overflow_add-end
overflow_add-end c = omega (arith, row_before c.loop-i.i c.args.w.inner c.loop-i-test.true, c.loop-i.invariant.0, c.requires)

pub offset_bounds-out-to : goal.offset_bounds-out-to
offset_bounds-out-to c = omega (arith, row_before c.loop-i.i c.args.w.inner c.loop-i-test.true, c.loop-i.invariant.0, c.requires, c.loop-i.auto.out)

pub slice_bounds-copy_row-end-in-loop-i : goal.slice_bounds-copy_row-end-in-loop-i
slice_bounds-copy_row-end-in-loop-i c =
    omega (arith, row_before c.loop-i.i c.args.w.inner c.loop-i-test.true, c.loop-i.invariant.0, c.requires, c.loop-i.auto.out)

pub loop-i-preserved : goal.loop-i-preserved
loop-i-preserved c =
    let a = c.args in
    let lp = c.loop-i in
    let from = (lp.i - 1) * a.w.inner in
    let e = row_before lp.i a.w.inner c.loop-i-test.true in (
      omega (arith, e, lp.invariant.0),
      put-copied (back_at a.r.now a.w.length a.w.inner) lp.to a.w.inner _ lp.out a.out.now _ lp.invariant.1 refl
          (omega (arith, e, lp.invariant.0, c.requires)) a.r.now
          from (from + a.w.inner) (pos 0) refl (omega (arith, e, lp.invariant.0, c.requires))
          (λ x b. ap (λ k. get_or a.r.now k (pos 0)) (reversed-row a.w.length a.w.inner lp.i lp.to x c.loop-i-test.true lp.auto.i lp.invariant.0 b))
          c.copy_row.ensures,
    )

pub returns : goal.returns
returns c =
    let a = c.args in
    let lp = c.loop-i in
    let z : lp.i ≡ 0 = omega arith in
    let e : lp.to ≡ a.w.length * a.w.inner = omega (arith, lp.invariant.0, ap (λ k. k * a.w.inner) z, zero-mul a.w.inner) in
    lp.invariant.1
    ∙ ap (λ k. filled (back_at a.r.now a.w.length a.w.inner) k a.out.now) e
    ∙ filled-whole _ (a.w.length * a.w.inner) a.out.now (omega (arith, c.requires))
