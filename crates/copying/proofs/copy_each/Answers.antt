use Rattle.std.proofs.Common.{arith, ◌-◌, ap, cond, ◌≡◌, ap₂, ◌∙◌, take, take_all, length-take-le}
use native.Mathlib.Nat.{add-zero}
use denote.Param.{number}
use Rattle.std.proofs.Math.ListN.{set}
use Rattle.shape.proofs.Shifted.{front-step}
use Rattle.copying.specs.Runs.{common}
use Rattle.copying.specs.Steps.{ordered}
use Rattle.copying.proofs.Moves.{placed_front, length_ordered}
use Rattle.copying.specs.contracts.copy_each.{BACK-type}
use Rattle.copying.proofs.copy_each.Goals as goal

pub loop-i-preserved : goal.loop-i-preserved
loop-i-preserved g c =
    let back = BACK-type g.row.T (number g.row.BACK) in
    let i = c.loop-i.i in
    let n = c.min-n.result in
    let src = c.args.src.now in
    let s = ordered back (take n src) in
    let long = length-take-le n src (omega arith) in
    let here = c.place.ensures ∙ ap (λ m. cond back (n - 1 - m) m) (add-zero i) in
    ap₂ (λ r x. set r i x) c.loop-i.invariant (placed_front back src n (omega arith) c.index-src-place.is here (omega arith))
    ∙ front-step s c.args.out.now i _ (omega (arith, length_ordered back (take n src), long)) (omega arith)

pub returns : goal.returns
returns g c =
    let back = BACK-type g.row.T (number g.row.BACK) in
    let n = c.min-n.result in
    let src = c.args.src.now in
    let i : c.loop-i.i ≡ n = omega arith in
    let e : n ≡ common src c.args.out.now = omega arith in
    let s = ordered back (take n src) in
    let all : take n s ≡ s = take_all n s (omega (arith, length_ordered back (take n src), length-take-le n src (omega arith))) in
    c.loop-i.invariant ∙ rw (i, all, e)
