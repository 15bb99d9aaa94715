use Rattle.std.proofs.Common.{arith, ◌∙◌, true, ◌+◌, ◌*◌, ◌≤◌, ◌-ℤ◌, length, get_or, pos}
use mathlib.Core.Path.{refl}
use Rattle.shape.proofs.Places.{row_fits}
use Rattle.meaning.proofs.Positions.{within-lt}
use Rattle.copying.proofs.Runs.{filled-whole}
use Rattle.copying.proofs.Parts.{part-long}
use Rattle.copying.proofs.Blocks.{put-block}
use Rattle.copying.proofs.Blockwise.{blockwise-none, blockwise-next}
use Rattle.selects.specs.Steps.{position_at}
use Rattle.selects.proofs.Rows.{room-in, rows-fit}
use Rattle.selects.proofs.select_blocks.Goals as goal

pub loop-o-init : goal.loop-o-init
loop-o-init c = blockwise-none _ _ _ _

pub overflow_add-end : goal.overflow_add-end
overflow_add-end c =
    let t = rw (← c.len.ensures) at (room-in c.loop-o.invariant c.loop-o-test.true c.requires.space) in omega (arith, t)

pub offset_bounds-out-at : goal.offset_bounds-out-at
offset_bounds-out-at c =
    let t = rw (← c.len.ensures) at (room-in c.loop-o.invariant c.loop-o-test.true c.requires.space) in omega (arith, t)

pub slice_bounds-select_block-end-in-loop-o : goal.slice_bounds-select_block-end-in-loop-o
slice_bounds-select_block-end-in-loop-o c =
    let t = rw (← c.len.ensures) at (room-in c.loop-o.invariant c.loop-o-test.true c.requires.space) in omega (arith, t)

pub select_block-requires : goal.select_block-requires
select_block-requires c =
    let m = length c.args.choice.numbers * c.args.a.inner in
    let n = c.args.a.length * c.args.a.inner in
    let t = room-in c.loop-o.invariant c.loop-o-test.true c.requires.space in
    let read : c.loop-o.o * (c.args.a.length * c.args.a.inner) + c.args.a.length * c.args.a.inner ≤ length c.args.r.now =
    omega (arith, row_fits c.loop-o.o c.args.a.outer (c.args.a.length * c.args.a.inner) c.loop-o-test.true, c.requires.source) in
    rw (part-long c.args.r.now (c.loop-o.o * n) n read, c.len.ensures, part-long c.loop-o.out c.loop-o.at m t)
    (rows-fit c.requires.positions (omega arith) (omega arith))

pub loop-o-preserved : goal.loop-o-preserved
loop-o-preserved c =
    let p = c.requires.positions in
    let a = c.args.a in
    let n = c.args.choice in
    let lp = c.loop-o in
    let m = length n.numbers in
    let long = part-long lp.out lp.at (m * a.inner) (room-in lp.invariant c.loop-o-test.true c.requires.space) in
    let done = rw c.len.ensures at c.select_block.auto.out in
    rw c.len.ensures
    (blockwise-next lp.invariant c.select_block.new.out c.loop-o-test.true done
    (put-block (λ i. true) (position_at n) a.length m a.inner c.args.r.now lp.o
    (λ i h w. within-lt (get_or n.numbers i (pos 0) -ℤ n.origin) a.length (p.inside i h))
    lp.out c.args.out.now _ (lp.o * (a.length * a.inner)) lp.at lp.invariant.done lp.invariant.at-is refl
    (c.select_block.ensures ∙ filled-whole _ (m * a.inner) _ (omega (arith, long)))))
