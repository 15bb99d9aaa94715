use Rattle.signed.proofs.Reading.{read32}
use Rattle.signed.proofs.Sign.{below-zero}
use Rattle.signed.proofs.negative.Goals as goal

pub returns : goal.returns
returns c = rw (read32 _ c.ranges.z) (below-zero c.args.z)
