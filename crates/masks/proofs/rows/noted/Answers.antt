use Rattle.std.proofs.Common.{arith, rules, ◌<◌, length, get_or, pos}
use Rattle.masks.specs.Steps.Rows.{few}
use Rattle.masks.proofs.Ones.{test-one, test-other, one-at}
use Rattle.masks.proofs.Kept.{front-none, front-le, front-one, front-other}
use Rattle.masks.proofs.rows.noted.Goals as goal
use Rattle.masks.proofs.rows.noted.Goals.{then-z-eq1, else-z-eq1}

pub loop-i-init : goal.loop-i-init
loop-i-init c = front-none _ _ _ _

pub offset_bounds-at-q : goal.offset_bounds-at-q
offset_bounds-at-q c = omega (arith, front-le c.loop-i.invariant, c.requires)

pub bounds-at-q : goal.bounds-at-q
bounds-at-q c = omega (arith, front-le c.loop-i.invariant, c.requires)

pub overflow_add-q : goal.overflow_add-q
overflow_add-q c = omega (arith, front-le c.loop-i.invariant, c.requires)

pub loop-i-preserved : goal.loop-i-preserved
loop-i-preserved c =
    let l = c.args.l.now in
    let i = c.loop-i.i in
    let z = get_or l i (pos 0) in
    let more : i < length l = omega arith in
    let free : c.loop-i.q < few = omega (arith, front-le c.loop-i.invariant, c.requires) in
    elim c.if-z-eq1.branch [
      | then-z-eq1 w ↦
          let one = test-one z (search rules) w.if-z-eq1.true in
          rw w.q-is (front-one c.loop-i.invariant more free _ one (one-at l i more one))
      | else-z-eq1 w ↦ rw w.q-is (front-other c.loop-i.invariant more free _ (test-other z (search rules) w.if-z-eq1.false))
    ]
