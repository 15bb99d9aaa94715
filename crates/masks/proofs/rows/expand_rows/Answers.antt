use Rattle.std.proofs.Common.{arith}
use native.Mathlib.Nat.{zero-mul}
use Rattle.masks.proofs.Opened.{opened-none, opened-gap, opened-run, opened_rows_lem}
use Rattle.masks.proofs.rows.expand_rows.Goals as goal

pub loop-i-init : goal.loop-i-init
loop-i-init c = rw (zero-mul c.args.inner) (opened-none _ _ _ _)

pub overflow_add-stop : goal.overflow_add-stop
overflow_add-stop c = omega (arith, opened_rows_lem c.loop-i.invariant c.past-first.ensures c.past-next.ensures (omega arith))

pub offset_bounds-r-from : goal.offset_bounds-r-from
offset_bounds-r-from c = omega (arith, opened_rows_lem c.loop-i.invariant c.past-first.ensures c.past-next.ensures (omega arith))

pub slice_bounds-copy_run-end : goal.slice_bounds-copy_run-end
slice_bounds-copy_run-end c = omega (arith, opened_rows_lem c.loop-i.invariant c.past-first.ensures c.past-next.ensures (omega arith))

pub loop-i-preserved : goal.loop-i-preserved
loop-i-preserved c =
    let zeros = opened-gap c.loop-i.invariant (omega arith) c.past-first.ensures _ c.fill_run.ensures in
    opened-run zeros (omega arith) c.past-next.ensures
    (opened_rows_lem c.loop-i.invariant c.past-first.ensures c.past-next.ensures (omega arith)) _ c.copy_run.ensures
