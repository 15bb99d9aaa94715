use Rattle.lookups.proofs.Chaining.{Linking}
use Rattle.lookups.proofs.table.Chains.link.Given as goal

abbrev pub invariant-loop-i : goal.invariant-loop-i
invariant-loop-i l = Linking l.l l.heads l.links l.i
