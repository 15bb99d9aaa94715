use Rattle.std.proofs.Common.{arith, rules, ◌+◌, ◌≤◌, length, get_or, pos}
use mathlib.Core.Path.{refl}
use Rattle.signed.proofs.Reading.{read32}
use Rattle.masks.proofs.Ones.{test-one, test-other}
use Rattle.masks.proofs.Opened.{opened-none, opened_one, opened-zero, opened_inside}
use Rattle.masks.proofs.rows.expand_line.Goals as goal
use Rattle.masks.proofs.rows.expand_line.Goals.{Then-l-i-eq1, then-l-i-eq1, else-l-i-eq1}

pub loop-i-init : goal.loop-i-init
loop-i-init c = opened-none _ _ 1 _

-- What is read lies in r.
inside : (c : Then-l-i-eq1) → c.loop-i.from + 1 ≤ length c.args.r.now
inside c =
    let one = test-one (get_or c.args.l.now c.loop-i.i (pos 0)) (search rules) c.if-l-i-eq1.true in
    opened_inside c.loop-i.invariant (omega arith) (omega arith) one (omega arith)

pub offset_bounds-r-from : goal.offset_bounds-r-from
offset_bounds-r-from c = omega (arith, inside c)

pub bounds-r-from : goal.bounds-r-from
bounds-r-from c = omega (arith, inside c)

pub overflow_add-from : goal.overflow_add-from
overflow_add-from c =
    let one = test-one (get_or c.args.l.now c.loop-i.i (pos 0)) (search rules) c.if-l-i-eq1.true in
    omega (arith, opened_inside c.loop-i.invariant (omega arith) (omega arith) one (omega arith))

pub loop-i-preserved : goal.loop-i-preserved
loop-i-preserved c =
    let k = c.loop-i.invariant in
    let z = get_or c.args.l.now c.loop-i.i (pos 0) in
    elim c.if-l-i-eq1.branch [
      | then-l-i-eq1 w ↦ rw (w.out-is, w.from-is)
          (opened_one k (omega arith) (omega arith) _ (test-one z (search rules) w.if-l-i-eq1.true)
          (read32 (get_or c.args.r.now c.loop-i.from (pos 0)) (search rules)))
      | else-l-i-eq1 w ↦ rw (w.out-is, w.from-is)
          (opened-zero k (omega arith) (omega arith) _ (test-other z (search rules) w.if-l-i-eq1.false) refl)
    ]
