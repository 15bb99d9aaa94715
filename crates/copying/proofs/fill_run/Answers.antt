use Rattle.std.proofs.Common.{arith}
use Rattle.copying.proofs.Steps.{fill_step}
use Rattle.copying.proofs.fill_run.Goals as goal

pub loop-o-preserved : goal.loop-o-preserved
loop-o-preserved g c = rw c.loop-o.invariant (fill_step _ c.args.out.now c.loop-o.o-index (omega arith))
