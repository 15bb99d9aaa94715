use Rattle.std.proofs.Common.{◌-◌}
use Rattle.lookups.specs.Steps.{OnChain}
use Rattle.lookups.proofs.table.Chains.follow.Given as goal

abbrev pub invariant-loop-p : goal.invariant-loop-p
invariant-loop-p l = OnChain l.l l.x l.p

abbrev pub decreases-loop-p : goal.decreases-loop-p
decreases-loop-p l = l.n - l.p
