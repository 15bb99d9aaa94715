use Rattle.lookups.specs.Steps.{Entered}
use Rattle.lookups.specs.contracts.put_hashed.{BITS-type}
use denote.Param.{number}
use Rattle.lookups.proofs.put_hashed.Given as goal

abbrev pub invariant-loop-j : goal.invariant-loop-j
invariant-loop-j g l = Entered (BITS-type (number g.row.BITS)) l.first l.l l.r l.initial.out l.out l.j
