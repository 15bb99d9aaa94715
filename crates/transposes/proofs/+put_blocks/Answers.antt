use Rattle.std.proofs.Common.{arith}
use Rattle.transposes.proofs.Placing.{placed-none, placed_one, placed-more, placed-swap}
use Rattle.transposes.proofs.Walking.{others-fewer, rows-one, blocked-first, blocked-from, blocked-inner, blocked-all}
use Rattle.transposes.proofs.+put_blocks.Goals as goal

-- One axis is left: a block.
pub put_block-requires : goal.put_block-requires
put_block-requires t c = rw (rows-one _ _ c.if-rank-eq1.true c.requires.axes) at c.requires.reach

pub returns-then-rank-eq1 : goal.returns-then-rank-eq1
returns-then-rank-eq1 t c = rw (rows-one _ _ c.if-rank-eq1.true c.requires.axes) c.put_block.ensures

pub nonzero_div-step : goal.nonzero_div-step
nonzero_div-step t c = blocked-first c.requires

pub loop-i-init : goal.loop-i-init
loop-i-init t c = record { placed = placed-swap (placed-none _); starts = blocked-from c.requires }

pub put_blocks-requires : goal.put_blocks-requires
put_blocks-requires t c = (
  omega (arith, others-fewer c.args.lens.now c.requires.some, c.decreases),
  blocked-inner c.args.r.now c.args.out.now c.loop-i.out c.requires c.loop-i.invariant.placed.room c.loop-i.i (omega arith)
      (omega (arith, c.requires.some)),
)

pub loop-i-preserved : goal.loop-i-preserved
loop-i-preserved t c = record {
  placed = placed-swap
      (placed-more (placed-swap c.loop-i.invariant.placed)
      (placed_one _ _ (omega (arith, c.loop-i.invariant.starts)) c.put_blocks.ensures));
  starts = c.loop-i.invariant.starts;
}

pub returns : goal.returns
returns t c = blocked-all c.requires _ (omega arith) c.loop-i.invariant.placed
