use Rattle.std.proofs.Common.{◌≤◌, length, arith, take_all}
use Rattle.sheet_line.proofs.Readers.{so-far-none, so-far-stop, so_far_more, so-far-all}
use Rattle.sheet_line.proofs.Operands.{small-none, small-set}
use Rattle.sheet_line.proofs.numbers.Reader.lengths.Goals as goal

pub loop-n-init : goal.loop-n-init
loop-n-init c = (so-far-none, small-none)

pub returns-in_err-n-clause-taken : goal.returns-in_err-n-clause-taken
returns-in_err-n-clause-taken c = rw c.from_residual.ensures (so-far-stop c.loop-n.invariant.0 c.loop-n-test.true c.in_err-n.ensures.taken)

pub loop-n-preserved : goal.loop-n-preserved
loop-n-preserved c = (
  so_far_more c.loop-n.invariant.0 c.loop-n-test.true (omega arith) c.in_ok-n.ensures.taken,
  small-set c.loop-n.n-index _ c.loop-n.lens c.loop-n.invariant.1 (omega (arith, c.in_ok-n.ensures.bound)) (omega arith),
)

pub returns-clause-taken : goal.returns-clause-taken
returns-clause-taken c =
    let all : length c.loop-n.lens ≤ length c.args.lens.now = omega arith in
    rw (take_all _ c.loop-n.lens all) at (so-far-all c.loop-n.invariant.0 (omega arith))

pub returns-clause-bound : goal.returns-clause-bound
returns-clause-bound c =
    let all : length c.loop-n.lens ≤ c.loop-n.n-index = omega arith in
    rw (take_all _ c.loop-n.lens all) at c.loop-n.invariant.1
