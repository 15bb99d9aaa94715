use Rattle.std.proofs.Common.{arith, ◌≡◌, ◌∙◌, ◌++◌, ◌+◌, ◌-◌, ◌≤◌, length, take, drop, take_all, ℕ}
use native.Mathlib.Nat.{add-zero}
use denote.Param.{number}
use Rattle.copying.specs.Steps.{ordered}
use Rattle.copying.proofs.Moves.{front-more, front-over, length_ordered}
use Rattle.copying.specs.contracts.copy_last.{BACK-type}
use Rattle.copying.proofs.copy_last.Goals as goal
use Rattle.copying.proofs.copy_last.Goals.{then-done-last, else-done-last}

pub returns : goal.returns
returns g c out₀ e =
    let back = BACK-type g.row.T (number g.row.BACK) in
    let src = c.args.src.now in
    let n = length src in
    let s = ordered back src in
    let done = c.args.done in
    let long = length_ordered back src in
    let end : n - 4 + 4 ≡ n = omega arith in
    let all : take n s ≡ s = take_all n s (omega (arith, long)) in
    let over : (m : ℕ) → m ≤ n → n ≤ m + 4 → c.if-done-last.out ≡ take m s ++ drop m out₀ → c.move_4-2.new.out ≡ s ++ drop n out₀ =
    λ m h k q.
    let moved = rw (add-zero (n - 4)) at c.move_4-2.ensures in
    rw (end, all) at (front-over s c.if-done-last.out out₀ m (omega (arith, long)) q (n - 4) 4 _ (omega arith) (omega arith) moved) in
    let more = front-more s c.args.out.now out₀ done (omega (arith, long)) e 4 in
    elim c.if-done-last.branch [
      | then-done-last w ↦ over (done + 4) (omega arith) (omega arith) (w.out-is ∙ more _ (rw (add-zero done) at w.move_4.ensures))
      | else-done-last w ↦ over done (omega arith) (omega arith) (w.out-is ∙ e)
    ]
