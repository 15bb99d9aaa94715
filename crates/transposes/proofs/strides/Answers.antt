use Rattle.std.proofs.Common.{arith, ◌-◌, get_or}
use Rattle.transposes.proofs.Passing.{opened, opened-some, summed-none, summed-next, summed-all, step_small, sums-small}
use Rattle.transposes.proofs.strides.Goals as goal

pub loop-i-init : goal.loop-i-init
loop-i-init c =
    let o = opened c.sent.view_is c.sent.invariant c.r.view_is c.r.invariant in
    record { summed = summed-none o.passed; below = o.passed.below }

-- No number is large.
pub overflow_add-sums : goal.overflow_add-sums
overflow_add-sums c =
    let o = opened c.sent.view_is c.sent.invariant c.r.view_is c.r.invariant in
    let i = c.loop-i.invariant.summed in
    let h = opened-some o c.requires in
    omega (
      arith,
      step_small o.passed i (omega arith) o.operand.good h,
      sums-small o.passed i (omega arith) o.operand.good h (get_or c.sent.inside.to (c.loop-i.i - 1) 0),
    )

pub overflow_mul-step : goal.overflow_mul-step
overflow_mul-step c =
    let o = opened c.sent.view_is c.sent.invariant c.r.view_is c.r.invariant in
    omega (arith, step_small o.passed c.loop-i.invariant.summed (omega arith) o.operand.good (opened-some o c.requires))

pub loop-i-preserved : goal.loop-i-preserved
loop-i-preserved c =
    let o = opened c.sent.view_is c.sent.invariant c.r.view_is c.r.invariant in
    record { summed = summed-next o.passed c.loop-i.invariant.summed (omega arith); below = o.passed.below }

pub returns : goal.returns
returns c =
    let o = opened c.sent.view_is c.sent.invariant c.r.view_is c.r.invariant in
    summed-all o c.loop-i.invariant.summed (omega arith)
