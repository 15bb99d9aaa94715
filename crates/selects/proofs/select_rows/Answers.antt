use Rattle.std.proofs.Common.{arith, ◌+◌, ◌*◌, ◌<◌, ◌≤◌, length}
use Rattle.copying.proofs.Blockwise.{blockwise-none, blockwise-at, blockwise-room, blockwise-next}
use Rattle.selects.proofs.Rows.{row_more}
use Rattle.selects.proofs.select_rows.Goals as goal

pub loop-q-init : goal.loop-q-init
loop-q-init c = blockwise-at (blockwise-none _ _ _ _)

pub loop-q-preserved : goal.loop-q-preserved
loop-q-preserved c =
    let a = c.args in
    let q : c.loop-q.q < length c.args.choice.now.numbers = omega (arith, c.loop-q-test.true, c.len-q-end.ensures) in
    let i : c.at-x.result * c.args.inner + c.args.inner ≤ length c.args.r.now = rw c.at-x.ensures (c.requires.source c.loop-q.q q) in
    blockwise-at (blockwise-next c.loop-q.invariant c.copy_row.new.out q c.copy_row.auto.out
    (row_more a.choice.now a.r.now a.inner c.loop-q.invariant _ _ c.at-x.ensures i (blockwise-room c.loop-q.invariant _ q c.requires.space)
    c.copy_row.ensures))
