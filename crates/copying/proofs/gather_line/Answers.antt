use Rattle.std.proofs.Common.{arith, rules, ◌≡◌, ◌∙◌, get_or, pos, to_z, of_z, w32}
use Rattle.copying.proofs.Blockwise.{blockwise-none, blockwise-one}
use Rattle.copying.proofs.Gathering.{one-row}
use Rattle.copying.proofs.gather_line.Goals as goal

pub loop-q-init : goal.loop-q-init
loop-q-init c = blockwise-none _ _ _ _

pub loop-q-preserved : goal.loop-q-preserved
loop-q-preserved c =
    let at = c.args.at.now in
    let r = c.args.r.now in
    let q = c.loop-q.q in
    let x = get_or r (get_or at q 0) (pos 0) in
    let held : to_z w32 (of_z w32 x) ≡ x = search rules in
    rw c.from-x.ensures
    (blockwise-one c.loop-q.invariant (omega arith) (omega (arith, c.requires.room)) _ (held ∙ one-row at r q))
