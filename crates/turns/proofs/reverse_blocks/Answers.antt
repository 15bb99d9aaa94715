use Rattle.std.proofs.Common.{arith, ◌≡◌, ◌∙◌, true, ◌+◌, ◌*◌, ◌-◌, take, drop}
use mathlib.Core.Path.{ap}
use Rattle.copying.specs.Steps.{filled}
use Rattle.copying.proofs.Blocks.{put-block}
use Rattle.copying.proofs.Blockwise.{blockwise-none, blockwise-next, blockwise-all}
use Rattle.copying.proofs.Parts.{part-long}
use Rattle.turns.specs.declared.Turn.TheVariants.{Back}
use Rattle.turns.specs.Steps.{turn_position, turned_at}
use Rattle.turns.proofs.Rows.{turn-lt, block_back}
use Rattle.turns.proofs.Groups.{block-lies}
use Rattle.turns.proofs.reverse_blocks.Goals as goal

pub loop-init : goal.loop-init
loop-init c = blockwise-none _ _ _ _

pub overflow_add-end : goal.overflow_add-end
overflow_add-end c = omega (arith, block-lies c.loop.invariant c.loop-test.true c.requires)

pub offset_bounds-r-at : goal.offset_bounds-r-at
offset_bounds-r-at c = omega (arith, block-lies c.loop.invariant c.loop-test.true c.requires)

pub slice_bounds-reverse_block-end : goal.slice_bounds-reverse_block-end
slice_bounds-reverse_block-end c = omega (arith, block-lies c.loop.invariant c.loop-test.true c.requires)

pub offset_bounds-out-at : goal.offset_bounds-out-at
offset_bounds-out-at c = omega (arith, block-lies c.loop.invariant c.loop-test.true c.requires)

pub slice_bounds-reverse_block-end-in-loop : goal.slice_bounds-reverse_block-end-in-loop
slice_bounds-reverse_block-end-in-loop c = omega (arith, block-lies c.loop.invariant c.loop-test.true c.requires)

pub reverse_block-requires : goal.reverse_block-requires
reverse_block-requires c =
    let s = c.args.w.length * c.args.w.inner in
    let b = c.loop.invariant in
    let lies = block-lies b c.loop-test.true c.requires in
    (part-long c.args.r.now c.loop.at s lies.0, part-long c.loop.out c.loop.at s lies.1)

pub loop-preserved : goal.loop-preserved
loop-preserved c =
    let b = c.loop.invariant in
    let n = c.args.w.length in
    let at = c.loop.at in
    blockwise-next b c.reverse_block.new.out c.loop-test.true c.reverse_block.auto.out
    (put-block (λ i. true) (turn_position Back n) n n c.args.w.inner c.args.r.now c.loop.counter (λ i l w. turn-lt Back n i l) c.loop.out c.args.out.now
    c.reverse_block.new.out at at b.done b.at-is b.at-is (c.reverse_block.ensures
    ∙ block_back (take (at + n * c.args.w.inner - at) (drop at c.args.r.now)) n c.args.w.inner))

pub returns : goal.returns
returns c =
    let a = c.args in
    let e : a.w.outer * (a.w.length * a.w.inner) ≡ a.w.outer * a.w.length * a.w.inner = omega arith in
    blockwise-all c.loop.invariant (omega arith) ∙ ap (λ k. filled (turned_at Back a.r.now a.w.length a.w.inner) k a.out.now) e
