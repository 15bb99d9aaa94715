use Rattle.std.proofs.Common.{arith, refl, ◌+◌, ◌*◌, ◌-◌, length}
use borrow.Rule.Slice.PartMut.{same_len_mid}
use Rattle.shape.proofs.Places.{row_fits}
use Rattle.copying.proofs.Parts.{part-long}
use Rattle.copying.proofs.Blockwise.{blockwise-none, blockwise-at, blockwise-more}
use Rattle.copying.proofs.Gathering.{gathers-is, product-two, block-lies, block_more}
use Rattle.copying.proofs.gather_blocks.Goals as goal

pub overflow_mul-size : goal.overflow_mul-size
overflow_mul-size c = let s = (gathers-is c.requires).small in product-two s.taken s.inner

pub overflow_mul-part : goal.overflow_mul-part
overflow_mul-part c = let s = (gathers-is c.requires).small in product-two s.made s.inner

pub overflow_mul-some : goal.overflow_mul-some
overflow_mul-some c = let k = gathers-is c.requires in product-two (omega (arith, k.fits, k.small)) k.small.inner

pub overflow_mul-start : goal.overflow_mul-start
overflow_mul-start c = let k = gathers-is c.requires in product-two (omega (arith, k.fits, k.small)) k.small.inner

pub loop-o-init : goal.loop-o-init
loop-o-init c = blockwise-at (blockwise-none _ _ _ _)

pub overflow_mul-from : goal.overflow_mul-from
overflow_mul-from c = omega (arith, block-lies (gathers-is c.requires) c.loop-o.o (omega arith))

pub overflow_mul-to : goal.overflow_mul-to
overflow_mul-to c = omega (arith, block-lies (gathers-is c.requires) c.loop-o.o (omega arith))

pub overflow_add-to : goal.overflow_add-to
overflow_add-to c = omega (arith, block-lies (gathers-is c.requires) c.loop-o.o (omega arith))

pub overflow_add-from : goal.overflow_add-from
overflow_add-from c = omega (arith, block-lies (gathers-is c.requires) c.loop-o.o (omega arith))

pub offset_bounds-r-from : goal.offset_bounds-r-from
offset_bounds-r-from c = omega (arith, block-lies (gathers-is c.requires) c.loop-o.o (omega arith))

pub slice_bounds-gather_block-end : goal.slice_bounds-gather_block-end
slice_bounds-gather_block-end c = omega (arith, block-lies (gathers-is c.requires) c.loop-o.o (omega arith))

pub overflow_add-to-in-loop-o : goal.overflow_add-to-in-loop-o
overflow_add-to-in-loop-o c = omega (arith, block-lies (gathers-is c.requires) c.loop-o.o (omega arith))

pub offset_bounds-out-to : goal.offset_bounds-out-to
offset_bounds-out-to c = omega (arith, block-lies (gathers-is c.requires) c.loop-o.o (omega arith))

pub slice_bounds-gather_block-end-in-loop-o : goal.slice_bounds-gather_block-end-in-loop-o
slice_bounds-gather_block-end-in-loop-o c = omega (arith, block-lies (gathers-is c.requires) c.loop-o.o (omega arith))

pub gather_block-requires : goal.gather_block-requires
gather_block-requires c =
    let b = c.args.b in
    let o = c.loop-o.o in
    let k = gathers-is c.requires in
    let lies = block-lies k o (omega arith) in
    let x = part-long c.args.r.now (o * (b.taken * b.inner)) (b.taken * b.inner) lies.0 in
    record {
      inside = λ q h. omega (arith, row_fits _ b.taken b.inner (k.inside q h));
      room = part-long c.loop-o.out (o * (b.made * b.inner) + c.args.first * b.inner) (length c.args.at.now * b.inner) (omega (arith, lies.1));
    }

pub loop-o-preserved : goal.loop-o-preserved
loop-o-preserved c =
    let b = c.args.b in
    let o = c.loop-o.o in
    let some = length c.args.at.now * b.inner in
    let to = o * (b.made * b.inner) + c.args.first * b.inner in
    let g = c.gather_block in
    let inv = c.loop-o.invariant in
    blockwise-at
    (blockwise-more inv _ (omega arith) (same_len_mid to (to + some - to) c.loop-o.out g.new.out g.auto.out)
    (block_more c.args.r.now c.args.out.now (gathers-is c.requires) o (omega arith) inv.done g.new.out g.ensures to refl))
