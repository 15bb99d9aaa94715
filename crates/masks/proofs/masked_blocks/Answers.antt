use Rattle.std.proofs.Common.{arith}
use Rattle.copying.proofs.Blockwise.{blockwise-none, blockwise-at}
use Rattle.masks.proofs.Placing.{block_room, placed-block, placed-more}
use Rattle.masks.proofs.masked_blocks.Goals as goal

pub loop-o-init : goal.loop-o-init
loop-o-init g c = blockwise-at (blockwise-none _ _ _ _)

pub slice_bounds-masked_block-end-in-loop-o : goal.slice_bounds-masked_block-end-in-loop-o
slice_bounds-masked_block-end-in-loop-o g c = omega (arith, block_room c.args.r.now c.args.out.now c.requires c.loop-o.o (omega arith), c.loop-o.invariant.long)

pub masked_block-requires : goal.masked_block-requires
masked_block-requires g c = placed-block c.args.r.now c.args.out.now c.requires c.loop-o.o (omega arith) c.loop-o.invariant

pub loop-o-preserved : goal.loop-o-preserved
loop-o-preserved g c = placed-more c.args.r.now c.args.out.now c.requires c.loop-o.o (omega arith) c.loop-o.invariant _ c.masked_block.ensures
