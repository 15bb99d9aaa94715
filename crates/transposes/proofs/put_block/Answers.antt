use Rattle.std.proofs.Common.{arith}
use Rattle.transposes.proofs.Placing.{reach-swap, placed-swap}
use Rattle.transposes.proofs.put_block.Goals as goal

pub put_plane-requires : goal.put_plane-requires
put_plane-requires c = reach-swap c.requires

pub returns-then-last-lt-TILE : goal.returns-then-last-lt-TILE
returns-then-last-lt-TILE c = placed-swap c.put_plane.ensures

pub put_strips-requires : goal.put_strips-requires
put_strips-requires c = (omega arith, reach-swap c.requires)

pub returns-else-last-lt-TILE-2 : goal.returns-else-last-lt-TILE-2
returns-else-last-lt-TILE-2 c = placed-swap c.put_strips.ensures
