use Rattle.std.proofs.Common.{arith, rules}
use Rattle.masks.proofs.Ones.{test-one, test-other, before-none, before-le, before-one, before-other}
use Rattle.masks.proofs.count_ones.Goals as goal
use Rattle.masks.proofs.count_ones.Goals.{then-z-eq1, else-z-eq1}

pub loop-z-init : goal.loop-z-init
loop-z-init c = before-none c.args.l.now

pub overflow_add-n : goal.overflow_add-n
overflow_add-n c = omega (arith, c.loop-z.invariant, before-le c.args.l.now c.loop-z.z-index)

pub loop-z-preserved : goal.loop-z-preserved
loop-z-preserved c =
    elim c.if-z-eq1.branch [
      | then-z-eq1 w ↦ omega (arith, w.n-is, before-one c.args.l.now c.loop-z.z-index (omega arith) (test-one _ (search rules) w.if-z-eq1.true))
      | else-z-eq1 w ↦ omega (arith, w.n-is, before-other c.args.l.now c.loop-z.z-index (omega arith) (test-other _ (search rules) w.if-z-eq1.false))
    ]
