use Rattle.std.proofs.Common.{arith}
use Rattle.masks.proofs.Stretches.{rows-within}
use Rattle.masks.proofs.Kept.{kept-none, kept_full, kept-first, kept-ones, run_room, kept_run}
use Rattle.masks.proofs.rows.compress_rows.Goals as goal

pub loop-to-init : goal.loop-to-init
loop-to-init c = kept-none _ _ _ _

pub past-i-requires : goal.past-i-requires
past-i-requires c =
    let k = c.loop-to.invariant in
    omega (arith, kept-first k (omega arith) (omega (arith, k.written.long)) c.past-first.ensures)

pub slice_bounds-copy_run-end-in-loop-to : goal.slice_bounds-copy_run-end-in-loop-to
slice_bounds-copy_run-end-in-loop-to c =
    let k = c.loop-to.invariant in
    let run = kept-ones k (omega arith) (omega (arith, k.written.long)) c.past-first.ensures c.past-i.ensures in
    omega (arith, run_room k (omega arith) c.past-first.ensures run, k.written.long)

pub loop-to-preserved : goal.loop-to-preserved
loop-to-preserved c =
    let k = c.loop-to.invariant in
    let run = kept-ones k (omega arith) (omega (arith, k.written.long)) c.past-first.ensures c.past-i.ensures in
    kept_run k (omega arith) c.past-first.ensures run (rows-within _ _ run (omega arith)).1 _ c.copy_run.ensures

pub returns : goal.returns
returns c = let k = c.loop-to.invariant in kept_full k (omega arith) (omega (arith, k.written.long))
