use Rattle.std.proofs.Common.{arith, ◌≡◌, ◌+◌}
use native.Mathlib.Nat.{add-zero}
use denote.Param.{number}
use Rattle.copying.specs.Steps.{ordered}
use Rattle.copying.proofs.Moves.{front-more, length_ordered}
use Rattle.copying.specs.contracts.copy_eights.{BACK-type}
use Rattle.copying.proofs.copy_eights.Goals as goal

pub loop-done-preserved : goal.loop-done-preserved
loop-done-preserved g c =
    let back = BACK-type g.row.T (number g.row.BACK) in
    let src = c.args.src.now in
    let s = ordered back src in
    let out₀ = c.args.out.now in
    let done = c.loop-done.done in
    let moved = rw (add-zero done) at c.move_4.ensures in
    let four = front-more s c.loop-done.out out₀ done (omega (arith, length_ordered back src)) c.loop-done.invariant.copied 4 _ moved in
    let eight = front-more s c.move_4.new.out out₀ (done + 4) (omega (arith, length_ordered back src)) four 4 _ c.move_4-in-loop-done.ensures in
    let e : done + 8 ≡ done + 4 + 4 = omega arith in
    record { within = omega arith; copied = rw e eight }
