use Rattle.std.proofs.Common.{refl}
use Rattle.transposes.proofs.Walking.{line-reach, line-strided}
use Rattle.transposes.proofs.spread.Goals as goal

pub put_line-requires : goal.put_line-requires
put_line-requires c = line-reach c.requires.0 c.requires.1

pub returns : goal.returns
returns c = line-strided refl c.put_line.ensures
