use Rattle.std.proofs.Common.{arith}
use Rattle.meaning.specs.Array.{array_of}
use Rattle.meaning.proofs.Scalars.{vector-rank}
use Rattle.answer.proofs.Formed.axes.Goals as goal

pub returns : goal.returns
returns c = omega (arith, c.max.ensures, c.rank.ensures, vector-rank (array_of c.args.self.now))
