use Rattle.std.proofs.Common.{◌-◌, length, drop, length-drop, take_all, arith}
use Rattle.sheet.proofs.Sent.{more_handed}
use Rattle.sheet.proofs.handed_over.Goals as goal

pub loop-rest-preserved : goal.loop-rest-preserved
loop-rest-preserved g c =
    let rest = c.loop-rest.rest.now in
    let n = c.in-Ok.n in
    more_handed c.loop-rest.invariant n c.in-Ok.ensures.bytes (take_all (length rest - n) (drop n rest) (omega (arith, length-drop n rest)))
