use Rattle.std.proofs.Common.{arith}
use Rattle.copying.proofs.Blockwise.{blockwise-none, blockwise-at}
use mathlib.Core.Path.{refl, ◌∙◌}
use Rattle.masks.proofs.Actions.{expand-block, noted-opens}
use Rattle.masks.proofs.Placing.{block_inside, placed-block, placed-more, placed-notes}
use Rattle.masks.proofs.open_blocks.Goals as goal

pub loop-o-init : goal.loop-o-init
loop-o-init c = blockwise-at (blockwise-none _ _ _ _)

pub slice_bounds-opened_rows-end : goal.slice_bounds-opened_rows-end
slice_bounds-opened_rows-end c = omega (arith, block_inside c.args.r.now c.args.out.now c.requires.0 c.loop-o.o (omega arith))

pub opened_rows-requires : goal.opened_rows-requires
opened_rows-requires c =
    let block = placed-block c.args.r.now c.args.out.now c.requires.0 c.loop-o.o (omega arith) c.loop-o.invariant in (
      block.row,
      (
        block.source,
        noted-opens block refl refl (placed-notes c.args.r.now c.args.out.now c.requires.0 c.loop-o.o (omega arith) c.loop-o.invariant c.requires.1),
      ),
    )

pub loop-o-preserved : goal.loop-o-preserved
loop-o-preserved c =
    let k = c.requires.0 in
    let w = c.loop-o.invariant in
    let block = placed-block c.args.r.now c.args.out.now k c.loop-o.o (omega arith) w in
    placed-more c.args.r.now c.args.out.now k c.loop-o.o (omega arith) w _ (c.opened_rows.ensures ∙ expand-block block refl _ refl)
