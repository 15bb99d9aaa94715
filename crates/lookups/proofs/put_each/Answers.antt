use Rattle.lookups.proofs.Entering.{entered-rest}
use Rattle.lookups.proofs.put_each.Goals as goal

pub returns-in-Some : goal.returns-in-Some
returns-in-Some g c = entered-rest c.in-Some.ensures _ c.requires.space c.put_hashed.ensures
