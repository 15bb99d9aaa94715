use Rattle.signed.proofs.Equal.{int_same-bits}
use Rattle.signed.proofs.same.Goals as goal

pub returns : goal.returns
returns c = int_same-bits c.args.x c.args.y c.ranges.x c.ranges.y
