use Rattle.std.proofs.Common.{arith, ◌≡◌, ◌∙◌, ◌+◌, ◌-◌, ap, cond, length}
use denote.Param.{number}
use Rattle.copying.specs.Steps.{ordered}
use Rattle.copying.proofs.Moves.{placed, stored-4, length_ordered}
use Rattle.copying.specs.contracts.move_4.{BACK-type}
use Rattle.copying.proofs.move_4.Goals as goal

pub returns : goal.returns
returns g c =
    let back = BACK-type g.row.T (number g.row.BACK) in
    let src = c.args.src.now in
    let i = c.args.i in
    let k = c.args.k in
    let e1 : i + (k + 1) ≡ i + k + 1 = omega arith in
    let e2 : i + (k + 2) ≡ i + k + 2 = omega arith in
    let e3 : i + (k + 3) ≡ i + k + 3 = omega arith in
    stored-4 (ordered back src) c.args.out.now (i + k) (omega (arith, length_ordered back src)) c.requires.1
    (placed back src c.index-src-place.is c.place.ensures (omega arith))
    (placed back src c.index-src-place-2.is (c.place-2.ensures ∙ ap (λ m. cond back (length src - 1 - m) m) e1) (omega arith))
    (placed back src c.index-src-place-3.is (c.place-3.ensures ∙ ap (λ m. cond back (length src - 1 - m) m) e2) (omega arith))
    (placed back src c.index-src-place-4.is (c.place-4.ensures ∙ ap (λ m. cond back (length src - 1 - m) m) e3) (omega arith))
