use Rattle.std.proofs.Common.{arith, refl}
use Rattle.transposes.proofs.Walking.{walk_rows, walk_split, walk-blocked, blocked-walk}
use Rattle.transposes.proofs.walk_blocks.Goals as goal

pub nonzero_div-step : goal.nonzero_div-step
nonzero_div-step c = (walk_rows (walk_split c.requires.1 (omega (arith, c.requires.0)))).first

pub put_blocks-requires : goal.put_blocks-requires
put_blocks-requires c = walk-blocked c.requires.1 c.requires.0

pub returns : goal.returns
returns c = blocked-walk c.requires.1 c.requires.0 refl c.put_blocks.ensures
