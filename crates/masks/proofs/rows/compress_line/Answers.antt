use Rattle.std.proofs.Common.{arith, rules, sym, ◌∙◌, ◌<◌, length, get_or, pos}
use Rattle.signed.proofs.Reading.{read32}
use Rattle.masks.proofs.Ones.{test-one, test-other}
use Rattle.masks.proofs.Kept.{front-none, front-one, front-other, front-left, line-all, line-one}
use Rattle.masks.proofs.rows.compress_line.Goals as goal
use Rattle.masks.proofs.rows.compress_line.Goals.{then-l-i-eq1, else-l-i-eq1}

pub loop-to-init : goal.loop-to-init
loop-to-init c = front-none _ _ _ _

pub loop-to-preserved : goal.loop-to-preserved
loop-to-preserved c =
    let l = c.args.l.now in
    let i = c.loop-to.i in
    let k = c.loop-to.invariant in
    let more : i < length l = front-left k (omega (arith, k.long)) in
    let room : c.loop-to.to < length c.args.out.now = omega (arith, k.long) in
    let z = get_or l i (pos 0) in
    elim c.if-l-i-eq1.branch [
      | then-l-i-eq1 w ↦
          let one = test-one z (search rules) w.if-l-i-eq1.true in
          rw w.to-is (front-one k more room _ one (line-one l c.args.r.now i more one ∙ sym (read32 (get_or c.args.r.now i (pos 0)) (search rules))))
      | else-l-i-eq1 w ↦ rw w.to-is (front-other k more room _ (test-other z (search rules) w.if-l-i-eq1.false))
    ]

pub returns : goal.returns
returns c = let k = c.loop-to.invariant in line-all c.args.l.now c.args.r.now k (omega arith) (omega (arith, k.long))
