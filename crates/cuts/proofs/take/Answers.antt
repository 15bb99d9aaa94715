use Rattle.signed.proofs.Reading.{read32}
use Rattle.cuts.proofs.take.Goals as goal

pub returns : goal.returns
returns c K = rw (read32 _ c.ranges.g) at (c.take_or_drop.ensures K)
