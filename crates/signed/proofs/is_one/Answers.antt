use lib.Dec.{lit<}
use Rattle.signed.proofs.Equal.{int_same-key}
use Rattle.signed.proofs.is_one.Goals as goal

pub returns : goal.returns
returns c = int_same-key c.args.z 1 c.ranges.z (lit< tt)
