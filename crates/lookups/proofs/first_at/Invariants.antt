use Rattle.lookups.specs.Steps.{Passed}
use Rattle.lookups.proofs.first_at.Given as goal

abbrev pub invariant-loop-i : goal.invariant-loop-i
invariant-loop-i l = Passed l.x l.l l.i
