use Rattle.signed.proofs.Reading.{read32}
use Rattle.masks.proofs.compress.Goals as goal

pub returns : goal.returns
returns c = rw (read32 _ c.ranges.g, read32 _ c.ranges.k) at c.masked.ensures
