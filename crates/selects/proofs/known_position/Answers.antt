use Rattle.signed.proofs.Sign.{index, difference}
use Rattle.selects.proofs.known_position.Goals as goal

pub overflow_cast-result : goal.overflow_cast-result
overflow_cast-result c =
    let d = difference _ _ c.ranges.z c.ranges.g in
    rw (c.from.ensures, c.from-2.ensures, d.held) (index _ d.fits c.requires)
