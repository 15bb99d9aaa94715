use Rattle.std.proofs.Common.{arith, ◌-◌, ◌+◌, ◌*◌, ◌≤◌, ◌∙◌, refl, length}
use Rattle.transposes.proofs.Placing.{reach_from, reach-strip, reach-swap, placed-none, placed_rest, placed-strip, placed-swap}
use Rattle.transposes.proofs.put_strips.Goals as goal
use Rattle.transposes.proofs.put_strips.Goals.{else-loop-i-test, then-loop-i-test+else-end-i-gt8}

pub loop-i-init : goal.loop-i-init
loop-i-init c = record { placed = placed-none _; starts = reach_from c.requires.1; before = omega arith }

pub put_plane-requires : goal.put_plane-requires
put_plane-requires c =
    reach-swap (reach-strip c.args.r.now c.args.out.now c.loop-i.out c.requires.1 c.loop-i.invariant.placed.room c.loop-i.i 8 (omega arith) (omega arith))

pub loop-i-preserved : goal.loop-i-preserved
loop-i-preserved c = record {
  placed = placed-strip (omega arith) (omega arith) (omega arith) c.loop-i.invariant.placed
      (placed_rest _ _ (omega (arith, c.loop-i.invariant.starts)) (placed-swap c.put_plane.ensures));
  starts = c.loop-i.invariant.starts;
  before = omega arith;
}

-- The last one.
pub put_plane-requires-2 : goal.put_plane-requires-2
put_plane-requires-2 c =
    reach-swap
    (reach-strip c.args.r.now c.args.out.now c.loop-i-test.out c.requires.1 (c.loop-i-test.auto.out ∙ c.loop-i.invariant.placed.room)
    (c.args.last.length - 8) 8 (omega arith) (omega (arith, c.requires.0)))

pub returns : goal.returns
returns c =
    let l : (c.args.last.length - 8) * c.args.last.step ≤ length c.loop-i-test.out =
    omega (arith, c.loop-i.invariant.starts, c.loop-i-test.auto.out) in
    let b = placed_rest {out = c.loop-i-test.out} ((c.args.last.length - 8) * c.args.last.stride) _ l (placed-swap c.put_plane-2.ensures) in
    elim c.loop-i-test.branch [
      | else-loop-i-test w ↦
          placed-strip {i = c.loop-i.i} (omega arith) (omega (arith, c.loop-i.invariant.before)) (omega (arith, c.requires.0))
          (rw w.out-is c.loop-i.invariant.placed) b
      | then-loop-i-test+else-end-i-gt8 w ↦
          placed-strip {i = c.loop-i.i + 8} (omega arith) (omega (arith, c.requires.0)) (omega (arith, c.requires.0))
          (rw w.out-is
          (placed-strip (omega arith) (omega arith) refl c.loop-i.invariant.placed
          (placed_rest _ _ (omega (arith, c.loop-i.invariant.starts)) (placed-swap w.put_plane.ensures)))) b
    ]
