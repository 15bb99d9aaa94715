use Rattle.std.proofs.Common.{arith, ◌∙◌, ◌+◌, ◌*◌, ◌-◌, ◌≤◌, length}
use borrow.Rule.Slice.PartMut.{same_len_mid}
use Rattle.shape.proofs.Places.{row_fits}
use Rattle.copying.proofs.Blockwise.{blockwise-none, blockwise-room, blockwise-all}
use Rattle.turns.specs.Steps.{cut_blocks}
use Rattle.turns.proofs.Groups.{first_run, Bounds, bounds, limits, shift-step, moved_all}
use Rattle.turns.proofs.shift.Goals as goal
use Rattle.turns.proofs.shift.Goals.{In-loop}

-- The block lies within both.
room : (c : In-loop)
    → (c.loop.at + c.args.w.length * c.args.w.inner ≤ length c.args.r.now)
    × (c.loop.at + c.args.w.length * c.args.w.inner ≤ length c.loop.out)
    × Bounds (c.args.w.length * c.args.w.inner) c.args.from c.args.to c.args.before c.args.after
room c =
    let b = c.loop.invariant in
    let s = blockwise-room b _ c.loop-test.true c.requires.1.source in
    let t = blockwise-room b _ c.loop-test.true c.requires.1.space in
    (s, omega (arith, t, c.loop.auto.out), bounds c.requires.0)

pub offset_bounds-r-from : goal.offset_bounds-r-from
offset_bounds-r-from c = omega (arith, limits c.requires.0 c.requires.1, c.requires.1)

pub offset_bounds-out-to : goal.offset_bounds-out-to
offset_bounds-out-to c = omega (arith, limits c.requires.0 c.requires.1, c.requires.1)

pub slice_bounds-copy_run-end-2 : goal.slice_bounds-copy_run-end-2
slice_bounds-copy_run-end-2 c = omega (arith, limits c.requires.0 c.requires.1, c.requires.1)

pub loop-init : goal.loop-init
loop-init c = blockwise-none _ _ _ _

pub overflow_add-source : goal.overflow_add-source
overflow_add-source c = omega (arith, room c)

pub overflow_add-target : goal.overflow_add-target
overflow_add-target c = omega (arith, room c)

pub overflow_add-source_end : goal.overflow_add-source_end
overflow_add-source_end c = omega (arith, room c)

pub overflow_add-target_end : goal.overflow_add-target_end
overflow_add-target_end c = omega (arith, room c)

pub offset_bounds-r-source : goal.offset_bounds-r-source
offset_bounds-r-source c = omega (arith, room c)

pub slice_bounds-copy_run-end-in-loop : goal.slice_bounds-copy_run-end-in-loop
slice_bounds-copy_run-end-in-loop c = omega (arith, room c)

pub offset_bounds-out-target : goal.offset_bounds-out-target
offset_bounds-out-target c = omega (arith, room c.before)

pub slice_bounds-copy_run-end-in-loop-2 : goal.slice_bounds-copy_run-end-in-loop-2
slice_bounds-copy_run-end-in-loop-2 c = omega (arith, room c.before)

pub overflow_add-at : goal.overflow_add-at
overflow_add-at c =
    let b = c.loop.invariant in
    omega (arith, blockwise-room b _ c.loop-test.true c.requires.1.source)

pub loop-preserved : goal.loop-preserved
loop-preserved c =
    let a = c.args in
    let k = bounds c.requires.0 in
    let size = a.w.length * a.w.inner in
    let n = row_fits 0 a.w.outer size c.requires.1.some in
    let first =
    first_run {r = a.r.now} {from = a.from} _ (omega (arith, k, n, c.requires.1.source)) (omega (arith, k, n)) c.requires.1.space
    c.copy_run.ensures in
    let lp = c.loop in
    let target = lp.at + a.after in
    record {
      some = omega (arith, c.loop-test.true);
      at-is = omega (arith, lp.invariant.at-is);
      long =
          same_len_mid target (target + (a.from + a.to) - target) lp.out c.copy_run-in-loop.new.out c.copy_run-in-loop.auto.out
          ∙ lp.invariant.long;
      done = shift-step c.requires.0 c.requires.1 first c.loop-test.true lp.invariant c.copy_run-in-loop.ensures;
    }

pub returns : goal.returns
returns c =
    let a = c.args in
    let k = bounds c.requires.0 in
    let size = a.w.length * a.w.inner in
    let n = row_fits 0 a.w.outer size c.requires.1.some in
    let first =
    first_run {r = a.r.now} {from = a.from} _ (omega (arith, k, n, c.requires.1.source)) (omega (arith, k, n)) c.requires.1.space
    c.copy_run.ensures in
    moved_all a.w.outer size (cut_blocks a.r.now size (a.from + a.before)) first (blockwise-all c.loop.invariant (omega arith))
