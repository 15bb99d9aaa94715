use Rattle.std.proofs.Common.{arith, rules, sym, cond, get_or, pos}
use mathlib.Core.Path.{ap}
use mir.Syntax.{w32}
use mir.Val.{to_z, of_z}
use Rattle.masks.proofs.Ones.{test-one, test-other}
use Rattle.masks.proofs.Written.{written_none, written_one}
use Rattle.masks.proofs.rows.spread.Goals as goal
use Rattle.masks.proofs.rows.spread.Goals.{then-z-eq1, else-z-eq1}

pub loop-i-init : goal.loop-i-init
loop-i-init c = written_none _ 1 _

pub loop-i-preserved : goal.loop-i-preserved
loop-i-preserved c =
    let x = to_z w32 (of_z w32 c.args.x) in
    let z = get_or c.args.l.now c.loop-i.i (pos 0) in
    elim c.if-z-eq1.branch [
      | then-z-eq1 w ↦ rw w.out-is
          (written_one c.loop-i.invariant (omega arith) _ (sym (ap (λ b. cond b x (pos 0)) (test-one z (search rules) w.if-z-eq1.true))))
      | else-z-eq1 w ↦ rw w.out-is
          (written_one c.loop-i.invariant (omega arith) _ (sym (ap (λ b. cond b x (pos 0)) (test-other z (search rules) w.if-z-eq1.false))))
    ]
