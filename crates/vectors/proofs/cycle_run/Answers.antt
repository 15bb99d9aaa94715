use Rattle.std.proofs.Common.{arith, refl}
use Rattle.vectors.proofs.Cycling.{runs-first, runs-next, runs-all}
use Rattle.vectors.proofs.cycle_run.Goals as goal

pub loop-done-init : goal.loop-done-init
loop-done-init c = rw c.copy_run.ensures (runs-first _ _ _ c.requires (omega arith))

pub loop-done-smaller : goal.loop-done-smaller
loop-done-smaller c = omega (arith, c.loop-done.invariant.begun (omega arith))

pub loop-done-preserved : goal.loop-done-preserved
loop-done-preserved c =
    rw c.copy_run-in-loop-done.ensures
    (runs-next c.loop-done.invariant refl (omega arith) (omega arith) c.split_at_mut-front.ensures.front c.split_at_mut-front.ensures.back)

pub returns : goal.returns
returns c = runs-all c.loop-done.invariant refl (omega arith)
