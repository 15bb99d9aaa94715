use Rattle.std.proofs.Common.{arith}
use Rattle.copying.proofs.Blockwise.{blockwise-none, blockwise-room, blockwise-next}
use Rattle.copying.proofs.Gathering.{row_more}
use Rattle.copying.proofs.gather_rows.Goals as goal

pub loop-x-init : goal.loop-x-init
loop-x-init c = blockwise-none _ _ _ _

pub loop-x-preserved : goal.loop-x-preserved
loop-x-preserved c =
    let inv = c.loop-x.invariant in
    blockwise-next inv c.copy_run.new.out (omega arith) c.copy_run.auto.out
    (row_more c.args.at.now c.args.r.now c.args.inner inv (c.requires.inside c.loop-x.x-index (omega arith))
    (blockwise-room inv _ (omega arith) (omega (arith, c.requires.room))) _ (rw c.from.ensures at c.copy_run.ensures))
