use Rattle.std.proofs.Common.{◌≡◌, drop}
use Rattle.lookups.specs.Steps.{Passed}
use Rattle.lookups.proofs.passed.Given as goal

abbrev pub invariant-loop-block : goal.invariant-loop-block
invariant-loop-block l = Passed l.x l.l l.start × ((drop l.start l.l ≡ l.block-iterator.rest.now) × (l.block-iterator.size ≡ 16))
